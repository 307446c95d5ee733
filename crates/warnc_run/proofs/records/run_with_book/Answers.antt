use Rattle.std.proofs.Common.{◌≤◌, ◌≡◌, Err, None, refl, rules, sym}
use native.Mathlib.Omega.{arith}
use Rattle.std.proofs.KnownBytes.{Keeps-refl}
use Rattle.std.proofs.lemmas.Result.{IfErr-weaker, IfOk-weaker}
use Rattle.report.specs.declared.row.Columns.TheVariants as columns
use Rattle.warnc_run.specs.Faults.{HasReadFrom}
use Rattle.warnc_run.specs.Products.{untimed}
use Rattle.warnc_run.specs.declared.product.Product.TheVariants as product
use Rattle.warnc_run.proofs.Written.{fault_of_reading, fault_of_run, of_any_product, of_no_product, run_of_book}
use Rattle.warnc_run.proofs.Written.{where_it_is}
use Rattle.warnc_run.proofs.records.run_with_book.Goals as goal

pub returns-clause-ok : goal.returns-clause-ok
unfolding run_of_book
returns-clause-ok g c =
    let read = c.in_ok-book.ensures.ok in
    let few : c.args.slots ≤ 65535 = omega (arith, c.ranges.slots.fits) in
    IfOk-weaker c.run_alone.result _ _
    (λ ran is. record {
      input = read.input;
      read = read.consumed;
      ended = read.ended;
      made = record {
        run = run_of_book c.session_laws.ensures.shown c.session_laws.ensures.accepted
            c.legal_histories.ensures.legal_histories_are_served c.args.origin read.input c.in_ok-book.book
            c.args.slots 1
            _ few read.meant is.1;
        of_book = sym is.0;
      };
    })
    c.run_alone.ensures.ok

pub returns-clause-err : goal.returns-clause-err
returns-clause-err g c =
    let read = c.in_ok-book.ensures.ok in
    let whole : HasReadFrom c.args.origin _ _ = record {
      input = read.input;
      book = c.in_ok-book.book;
      read = read.consumed;
      ended = read.ended;
      is_book = read.meant;
    } in
    IfErr-weaker c.run_alone.result _ _
    (λ fault of_book.
    let other = of_any_product c.in_ok-book.book c.args.slots 1 (product.Report (untimed columns.Plain)) fault of_book
    in (
      other.0,
      fault_of_run c.args.origin c.args.slots 1 (λ input output. ⊥) _ _ None None c.in_ok-book.book fault whole refl
          other.1 (Keeps-refl None),
    ))
    c.run_alone.ensures.err

pub returns-in_err-book-clause-err : goal.returns-in_err-book-clause-err
returns-in_err-book-clause-err g c =
    let is : c.from_residual.result ≡ Err c.in_err-book.field-0.0 = search (rules, c.from_residual.ensures) in
    where_it_is _ c.from_residual.result c.in_err-book.field-0.0 is (
      of_no_product c.args.origin _ _ (product.Report (untimed columns.Plain)) c.in_err-book.field-0.0
          c.in_err-book.ensures.err,
      fault_of_reading c.args.origin c.args.slots 1 (λ input output. ⊥) _ _ None None c.in_err-book.field-0.0
          c.in_err-book.ensures.err (Keeps-refl None),
    )
