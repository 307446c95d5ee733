use Rattle.std.proofs.Common.{List, subst, sym}
use Rattle.gsmtap.specs.declared.fault.AirFault.{AirFault}
use Rattle.gsmtap.proofs.PacketSteps.{fault_of_begin}
use Rattle.link_streams.specs.Streams.{AreMessagesIn, IsLinkFault, for_messages}
use Rattle.link_streams.specs.declared.message.LinkPacket.{LinkPacket}
use Rattle.link_streams.proofs.Following.{messages_in}
use Rattle.link_streams.proofs.streams.messages_of_capture.Goals as goal

pub returns-in-Err-clause-fault : goal.returns-in-Err-clause-fault
returns-in-Err-clause-fault c =
    subst (λ (fault : AirFault). IsLinkFault c.args.input.now fault) (sym c.fault_at.ensures)
    (fault_of_begin for_messages c.args.input.now c.in-Err.kind c.in-Err.ensures)

pub take_all-requires : goal.take_all-requires
take_all-requires c = (tt, c.args.input.now, c.in-Ok.ensures, c.new.ensures, c.requires)

pub returns-in-Err-take_all-clause-fault : goal.returns-in-Err-take_all-clause-fault
returns-in-Err-take_all-clause-fault c =
    c.in-Err-take_all.ensures.fault tt c.args.input.now c.in-Ok.ensures c.new.ensures

pub returns-in-Ok-take_all-clause-messages : goal.returns-in-Ok-take_all-clause-messages
returns-in-Ok-take_all-clause-messages c =
    subst (λ (it : List LinkPacket). AreMessagesIn c.args.input.now it) (sym c.messages.ensures)
    (messages_in c.args.input.now c.in-Ok-take_all.streams
    (c.in-Ok-take_all.ensures.taken tt c.args.input.now c.in-Ok.ensures c.new.ensures))
