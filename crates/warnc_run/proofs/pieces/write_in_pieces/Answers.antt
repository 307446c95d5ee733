use Rattle.std.proofs.Common.{map, refl, rules}
use Rattle.cbch_blocks.specs.RecordBlocks.{tape_of_record}
use Rattle.warnc_run.proofs.PieceByPiece.{stops_at_record}
use Rattle.warnc_run.proofs.Written.{takes_nothing, tapes_have_octets}
use Rattle.warnc_run.proofs.pieces.write_in_pieces.Goals as goal

pub returns-then-failed-clause-err : goal.returns-then-failed-clause-err
returns-then-failed-clause-err g c =
    let tapes = map tape_of_record c.args.records.now in
    takes_nothing _ tapes (tapes_have_octets tapes c.args.records.now refl)

pub returns-in_err-write_tape-clause-err : goal.returns-in_err-write_tape-clause-err
returns-in_err-write_tape-clause-err g c =
    let stops = stops_at_record c.args.records.now c.loop-run.run-index c.in_err-write_tape.field-0.0.written
    c.run-item.result _ _ _ c.loop-run-test.true c.run-item.is c.in_err-write_tape.ensures.front
    c.loop-run.invariant.0 c.in_err-write_tape.ensures.err in
    search (rules, stops, c.from_residual.ensures)
