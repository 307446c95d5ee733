use Rattle.std.proofs.Common.{subst, sym}
use Rattle.gsmtap.specs.Heard.{IsHeardFault, for_hearing}
use Rattle.gsmtap.specs.declared.fault.AirFault.{AirFault}
use Rattle.gsmtap.proofs.PacketSteps.{fault_of_begin}
use Rattle.gsmtap.proofs.sender_table.senders_of_capture.Goals as goal

pub returns-in-Err-clause-fault : goal.returns-in-Err-clause-fault
returns-in-Err-clause-fault c =
    subst (λ (fault : AirFault). IsHeardFault c.args.input.now fault) (sym c.fault_at.ensures)
    (fault_of_begin for_hearing c.args.input.now c.in-Err.kind c.in-Err.ensures)

pub take_all-requires : goal.take_all-requires
take_all-requires c = (tt, c.args.input.now, c.in-Ok.ensures, c.new.ensures, c.requires)

pub returns-in-Err-take_all-clause-fault : goal.returns-in-Err-take_all-clause-fault
returns-in-Err-take_all-clause-fault c =
    c.in-Err-take_all.ensures.fault tt c.args.input.now c.in-Ok.ensures c.new.ensures

pub rows-requires : goal.rows-requires
rows-requires c = (
  c.args.input.now,
  c.in-Ok-take_all.ensures.taken tt c.args.input.now c.in-Ok.ensures c.new.ensures,
  c.requires,
)

pub returns-in-Ok-rows-clause-rows : goal.returns-in-Ok-rows-clause-rows
returns-in-Ok-rows-clause-rows c =
    c.in-Ok-rows.ensures c.args.input.now
    (c.in-Ok-take_all.ensures.taken tt c.args.input.now c.in-Ok.ensures c.new.ensures)
