use Rattle.std.proofs.Common.{◌≤◌}
use native.Mathlib.Omega.{arith}
use Rattle.warnc_run.proofs.Readings.{run_has_tapes}
use Rattle.warnc_run.proofs.Written.{records_are_few}
use Rattle.warnc_run.proofs.text.text_of_book.Goals as goal

pub text_of_records-requires-clause-few : goal.text_of_records-requires-clause-few
text_of_records-requires-clause-few g c κs within =
    let input = c.requires.book in
    records_are_few c.args.book.cells c.in_ok-records.records.items c.deref-2.result.now
    (c.book_laws.ensures.cells input.0 input.1 c.args.book input.2) c.in_ok-records.ensures.ok.run.cells
    c.deref-2.ensures.value

pub text_of_records-requires-clause-tapes : goal.text_of_records-requires-clause-tapes
text_of_records-requires-clause-tapes g c κs within =
    let input = c.requires.book in
    let few : c.args.slots ≤ 65535 = omega (arith, c.ranges.slots.fits) in
    run_has_tapes c.session_laws.ensures.shown input.0 input.1 c.args.book c.args.slots c.args.sessions.number
    c.in_ok-records.records.items
    c.deref-2.result.now few input.2 c.in_ok-records.ensures.ok c.deref-2.ensures.value
