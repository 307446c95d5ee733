use Rattle.std.proofs.Common.{◌≤◌, Err, ◌≡◌, refl, rules}
use Rattle.std.proofs.KnownBytes.{Keeps-refl}
use native.Mathlib.Omega.{arith}
use Rattle.warnc_run.specs.Faults.{HasReadFrom, IsOfProduct}
use Rattle.warnc_run.specs.Products.{IsLiveFrom}
use Rattle.warnc_run.specs.declared.fault.RunFault.{RunFault}
use Rattle.warnc_run.specs.declared.product.Product.TheVariants as product
use Rattle.warnc_run.proofs.Written.{fault_of_reading, fault_of_writing, joined, made_live, of_no_product, of_tapes}
use Rattle.warnc_run.proofs.Written.{where_it_is}
use Rattle.warnc_run.proofs.live.write_tapes_from.Goals as goal

pub returns-clause-ok : goal.returns-clause-ok
returns-clause-ok g c =
    let read = c.in_ok-book.ensures.ok in
    let wrote = c.in_ok-write_run.ensures.ok in
    let few : c.args.slots ≤ 65535 = omega (arith, c.ranges.slots.fits) in record {
      input = read.input;
      output = joined wrote.tapes;
      read = read.consumed;
      ended = read.ended;
      meant = made_live c.session_laws.ensures.shown c.session_laws.ensures.accepted
          c.legal_histories.ensures.legal_histories_are_served c.args.origin read.input c.in_ok-book.book c.args.slots
          c.args.sessions.number wrote.tapes few read.meant wrote.are;
      appended = wrote.taken;
    }

pub returns-in_err-write_run-clause-err : goal.returns-in_err-write_run-clause-err
returns-in_err-write_run-clause-err g c =
    let read = c.in_ok-book.ensures.ok in
    let few : c.args.slots ≤ 65535 = omega (arith, c.ranges.slots.fits) in
    let whole : HasReadFrom c.args.origin _ _ = record {
      input = read.input;
      book = c.in_ok-book.book;
      read = read.consumed;
      ended = read.ended;
      is_book = read.meant;
    } in
    let fault = fault_of_writing c.session_laws.ensures.shown c.session_laws.ensures.accepted
    c.legal_histories.ensures.legal_histories_are_served c.args.origin c.args.slots c.args.sessions.number _ _ _ _
    c.in_ok-book.book c.in_err-write_run.field-0.0 few whole refl c.in_err-write_run.ensures.err
    (λ other. rw (c.in_err-write_run.ensures.untouched other) (Keeps-refl _)) in
    let is : c.from_residual-in_err-write_run.result ≡ Err c.in_err-write_run.field-0.0 = search
    (rules, c.from_residual-in_err-write_run.ensures) in
    where_it_is _ c.from_residual-in_err-write_run.result c.in_err-write_run.field-0.0 is fault

pub returns-in_err-book-clause-err : goal.returns-in_err-book-clause-err
returns-in_err-book-clause-err g c =
    let fault = fault_of_reading c.args.origin c.args.slots c.args.sessions.number
    (IsLiveFrom c.args.origin c.args.slots c.args.sessions.number) _ _ _ _ c.in_err-book.field-0.0
    c.in_err-book.ensures.err
    (Keeps-refl _) in
    let is : c.from_residual.result ≡ Err c.in_err-book.field-0.0 = search (rules, c.from_residual.ensures) in
    where_it_is _ c.from_residual.result c.in_err-book.field-0.0 is fault

pub returns-in_err-write_run-clause-of_tapes : goal.returns-in_err-write_run-clause-of_tapes
returns-in_err-write_run-clause-of_tapes g c =
    let is : c.from_residual-in_err-write_run.result ≡ Err c.in_err-write_run.field-0.0 = search
    (rules, c.from_residual-in_err-write_run.ensures) in
    where_it_is (λ (f : RunFault). IsOfProduct f product.Tapes) c.from_residual-in_err-write_run.result
    c.in_err-write_run.field-0.0 is
    (of_tapes c.in_ok-book.book c.args.slots c.args.sessions.number _ _ c.in_err-write_run.field-0.0
    c.in_err-write_run.ensures.err)

pub returns-in_err-book-clause-of_tapes : goal.returns-in_err-book-clause-of_tapes
returns-in_err-book-clause-of_tapes g c =
    let is : c.from_residual.result ≡ Err c.in_err-book.field-0.0 = search (rules, c.from_residual.ensures) in
    where_it_is (λ (f : RunFault). IsOfProduct f product.Tapes) c.from_residual.result c.in_err-book.field-0.0 is
    (of_no_product c.args.origin _ _ product.Tapes c.in_err-book.field-0.0 c.in_err-book.ensures.err)
