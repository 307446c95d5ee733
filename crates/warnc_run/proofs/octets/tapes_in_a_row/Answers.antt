use Rattle.std.proofs.Common.{◌∙◌}
use Rattle.warnc_run.proofs.InTurn.{tape_after}
use Rattle.warnc_run.proofs.octets.tapes_in_a_row.Goals as goal

pub loop-record-preserved : goal.loop-record-preserved
loop-record-preserved c =
    tape_after c.args.records.now c.loop-record.record-index c.record-item.result c.loop-record.octets.items
    c.extend_from_slice.new.self.items c.bytes.result.now c.loop-record-test.true c.record-item.is
    (c.bytes.ensures ∙ c.in-Ok.ensures) c.loop-record.invariant c.in_ok-extend_from_slice.ensures.items
