use Rattle.std.proofs.Common.{◌≡◌, ◌≤◌, Err, refl, rules}
use Rattle.std.proofs.KnownBytes.{Keeps-refl}
use Rattle.warnc_run.specs.Faults.{HasReadFrom}
use Rattle.warnc_run.specs.declared.strict.StrictFault.TheVariants as strict
use Rattle.warnc_run.proofs.StrictRuns.{fault_of_product, fault_of_records, give_tapes, strict_output}
use Rattle.warnc_run.proofs.Written.{where_it_is}
use Rattle.warnc_run.proofs.strict.run_strictly.Goals as goal

pub returns-in_err-records-clause-err : goal.returns-in_err-records-clause-err
returns-in_err-records-clause-err g c =
    let read = c.in_ok-book.ensures.ok in
    let run = c.args.run.now in
    let few : run.slots ≤ 65535 = run.few_slots in
    let whole : HasReadFrom run.origin _ _ = record {
      input = read.input;
      book = c.in_ok-book.book;
      read = read.consumed;
      ended = read.ended;
      is_book = read.meant;
    } in
    let why = c.in_err-records.field-0.0 in
    let is : c.from_residual-in_err-records.result ≡ Err why =
    search (rules, c.from_residual-in_err-records.ensures) in
    where_it_is _ c.from_residual-in_err-records.result why is
    (fault_of_records c.session_laws.ensures.shown c.session_laws.ensures.accepted
    c.legal_histories.ensures.legal_histories_are_served c.args.made run.origin run.slots run.sessions.number _ _ _ _
    c.in_ok-book.book why few whole refl c.in_err-records.ensures.err (Keeps-refl _))

pub write_product-requires-clause-tapes : goal.write_product-requires-clause-tapes
write_product-requires-clause-tapes g c κs within =
    let read = c.in_ok-book.ensures.ok in
    let run = c.args.run.now in
    let few : run.slots ≤ 65535 = run.few_slots in
    give_tapes c.session_laws.ensures.shown run.origin read.input c.in_ok-book.book run.slots run.sessions.number
    c.in_ok-records.records.items c.deref.result.now few read.meant
    (c.book_laws.ensures.cells run.origin read.input c.in_ok-book.book read.meant) c.in_ok-records.ensures.ok.live
    c.deref.ensures.value

pub returns-in_err-write_product-clause-err : goal.returns-in_err-write_product-clause-err
returns-in_err-write_product-clause-err g c =
    let read = c.in_ok-book.ensures.ok in
    let run = c.args.run.now in
    let few : run.slots ≤ 65535 = run.few_slots in
    let whole : HasReadFrom run.origin _ _ = record {
      input = read.input;
      book = c.in_ok-book.book;
      read = read.consumed;
      ended = read.ended;
      is_book = read.meant;
    } in
    let give = give_tapes c.session_laws.ensures.shown run.origin read.input c.in_ok-book.book run.slots
    run.sessions.number c.in_ok-records.records.items c.deref.result.now few read.meant
    (c.book_laws.ensures.cells run.origin read.input c.in_ok-book.book read.meant) c.in_ok-records.ensures.ok.live
    c.deref.ensures.value in
    let why = c.in_err-write_product.field-0.0 in
    let is : c.from_residual-in_err-write_product.result ≡ Err (strict.Product why) =
    search (rules, c.from_residual-in_err-write_product.ensures) in
    where_it_is _ c.from_residual-in_err-write_product.result (strict.Product why) is
    (fault_of_product c.session_laws.ensures.shown c.session_laws.ensures.accepted
    c.legal_histories.ensures.legal_histories_are_served c.args.made run.origin run.slots run.sessions.number _ _ _ _
    c.in_ok-book.book c.in_ok-records.records.items c.deref.result.now why few whole refl c.in_ok-records.ensures.ok
    c.deref.ensures.value give c.in_err-write_product.ensures.err
    (λ other. rw (c.in_err-write_product.ensures.untouched other) (Keeps-refl _)))

pub returns-clause-ok : goal.returns-clause-ok
returns-clause-ok g c =
    let read = c.in_ok-book.ensures.ok in
    let run = c.args.run.now in
    let few : run.slots ≤ 65535 = run.few_slots in
    let shown = c.in_ok-records.records.items in
    let wrote = c.in_ok-write_product.ensures.ok in record {
      input = read.input;
      output = _;
      read = read.consumed;
      ended = read.ended;
      meant = strict_output c.session_laws.ensures.shown c.session_laws.ensures.accepted
          c.legal_histories.ensures.legal_histories_are_served c.args.made run.origin read.input c.in_ok-book.book
          run.slots run.sessions.number shown _ few read.meant c.in_ok-records.ensures.ok
          (rw c.deref.ensures.value refl);
      appended = wrote;
    }
