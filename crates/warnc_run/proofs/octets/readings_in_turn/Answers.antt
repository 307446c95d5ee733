use Rattle.warnc_run.proofs.InTurn.{reading_after}
use Rattle.warnc_run.proofs.octets.readings_in_turn.Goals as goal

pub loop-record-preserved : goal.loop-record-preserved
loop-record-preserved c =
    reading_after c.args.records.now c.loop-record.record-index c.record-item.result c.loop-record.readings.items
    c.push.new.self.items c.in_ok-reading_of.field-0 c.loop-record-test.true c.record-item.is c.requires
    c.in_ok-reading_of.ensures c.loop-record.invariant c.in_ok-push.ensures.items
