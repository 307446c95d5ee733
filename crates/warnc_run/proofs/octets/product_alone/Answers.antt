use Rattle.std.proofs.Common.{◌≤◌}
use native.Mathlib.Omega.{arith}
use Rattle.std.proofs.lemmas.Result.{IfOk-weaker}
use Rattle.alert_book.specs.declared.network.Origin.TheVariants as origin
use Rattle.warnc_run.proofs.InTurn.{made_of_octets}
use Rattle.warnc_run.proofs.Readings.{run_has_tapes}
use Rattle.warnc_run.proofs.Written.{records_are_few}
use Rattle.warnc_run.proofs.octets.product_alone.Goals as goal

pub made_of_records-requires-clause-few : goal.made_of_records-requires-clause-few
made_of_records-requires-clause-few c =
    let is = c.in_ok-ran.ensures.ok in
    records_are_few c.in_ok-ran.ran.book.cells c.in_ok-ran.ran.records.items c.deref.result.now
    (c.book_laws.ensures.cells origin.Book c.args.octets.now c.in_ok-ran.ran.book is.0) is.1.run.cells
    c.deref.ensures.value

pub made_of_records-requires-clause-tapes : goal.made_of_records-requires-clause-tapes
made_of_records-requires-clause-tapes c =
    let few : c.args.slots ≤ 65535 = omega (arith, c.ranges.slots.fits) in
    let is = c.in_ok-ran.ensures.ok in
    run_has_tapes c.session_laws.ensures.shown origin.Book c.args.octets.now c.in_ok-ran.ran.book c.args.slots 1
    c.in_ok-ran.ran.records.items c.deref.result.now few is.0 is.1 c.deref.ensures.value

pub returns-clause-ok : goal.returns-clause-ok
returns-clause-ok c =
    let few : c.args.slots ≤ 65535 = omega (arith, c.ranges.slots.fits) in
    let is = c.in_ok-ran.ensures.ok in
    IfOk-weaker c.made_of_records.result _ _
    (λ output made. made_of_octets c.session_laws.ensures.shown c.session_laws.ensures.accepted
    c.legal_histories.ensures.legal_histories_are_served c.args.made c.args.octets.now c.in_ok-ran.ran.book c.args.slots
    c.in_ok-ran.ran.records.items c.given.result.now c.deref.result.now output.items few is.0 is.1 c.given.ensures
    c.deref.ensures.value made) c.made_of_records.ensures.ok
