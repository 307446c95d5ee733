use Rattle.std.proofs.Common.{◌≤◌}
use native.Mathlib.Omega.{arith}
use Rattle.warnc_run.proofs.PieceByPiece.{has_written, stops_at_no_piece, stops_at_tape}
use Rattle.warnc_run.proofs.Written.{records_have_own_size}
use Rattle.warnc_run.proofs.output.write_by_records.Goals as goal

pub write_tapes_of-requires-clause-sized : goal.write_tapes_of-requires-clause-sized
write_tapes_of-requires-clause-sized g c κs within =
    let input = c.requires.book in
    let few : c.args.slots ≤ 65535 = omega (arith, c.ranges.slots.fits) in
    records_have_own_size c.session_laws.ensures.shown input.0 input.1 c.args.book c.args.slots c.args.sessions.number
    c.in_ok-records.records.items c.deref.result.now few input.2 c.in_ok-records.ensures.ok c.deref.ensures.value

pub returns-clause-ok : goal.returns-clause-ok
returns-clause-ok g c =
    has_written c.args.book c.args.slots c.args.sessions.number c.in_ok-records.records.items c.deref.result.now _ _
    c.write_tapes_of.result c.in_ok-records.ensures.ok c.deref.ensures.value c.write_tapes_of.ensures.ok

pub returns-clause-err : goal.returns-clause-err
returns-clause-err g c =
    stops_at_tape c.args.book c.args.slots c.args.sessions.number c.in_ok-records.records.items c.deref.result.now _ _
    c.write_tapes_of.result c.in_ok-records.ensures.ok c.deref.ensures.value c.write_tapes_of.ensures.err

pub returns-clause-no_piece : goal.returns-clause-no_piece
returns-clause-no_piece g c =
    stops_at_no_piece c.deref.result.now _ _ c.write_tapes_of.result c.write_tapes_of.ensures.err
