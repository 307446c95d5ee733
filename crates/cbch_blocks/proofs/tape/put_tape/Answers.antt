use Rattle.cbch_blocks.proofs.Slots.{all_can_air}
use Rattle.cbch_blocks.proofs.tape.put_tape.Goals as goal

pub put_slots-requires : goal.put_slots-requires
put_slots-requires c =
    all_can_air c.legal_histories.ensures.uses_are_of_writes c.args.run.now c.log.result.now c.air.result.now
    c.slots.ensures.legal c.log.ensures c.air.ensures
