use Rattle.std.proofs.Common.{◌∙◌, Option, ap, arith, inr, refl, subst, sym}
use Rattle.gsmtap.specs.PieceSteps.{packet_of}
use Rattle.gsmtap.specs.SendersSteps.{Hear, IsUnheardPacket}
use Rattle.gsmtap.specs.Tap.{sent_in}
use Rattle.gsmtap.specs.declared.fault.AirFault.{AirFault}
use Rattle.gsmtap.specs.declared.tap.Sent.{Sent}
use Rattle.gsmtap.specs.declared.tape.Wanted.{Wanted}
use Rattle.gsmtap.proofs.SenderRows.{have_heard_can, hears_none, hears_not, hears_one}
use Rattle.gsmtap.proofs.sender_table.SenderTable.hear_packet.Goals as goal

pub returns-in_default-clause-fault : goal.returns-in_default-clause-fault
returns-in_default-clause-fault c =
    subst (λ (fault : AirFault). IsUnheardPacket c.args.number (packet_of c.args.packet.now) fault)
    (sym c.fault_at.ensures)
    (inr (
      refl,
      λ stations. hears_not stations (packet_of c.args.packet.now) (sym c.link_numbered.ensures ∙ c.in_default.is),
      tt,
    ))

pub returns-in_default-station_in-clause-heard : goal.returns-in_default-station_in-clause-heard
returns-in_default-station_in-clause-heard c =
    hears_none c.args.number (packet_of c.args.packet.now) c.in-Some.link c.args.self.now.list.items
    (sym c.link_numbered.ensures ∙ c.in-Some.is) (sym c.station_in.ensures ∙ c.in_default-station_in.is)

pub hear_block-requires : goal.hear_block-requires
hear_block-requires c =
    have_heard_can c.requires.0 c.args.self.now.list.items (omega (arith, c.requires.2, c.requires.3)) c.requires.1

pub returns-clause-heard : goal.returns-clause-heard
returns-clause-heard c =
    hears_one c.args.number (packet_of c.args.packet.now) c.in-Some.link c.in-Some-station_in.station
    c.args.self.now.list.items c.hear_block.new.self.list.items (sym c.link_numbered.ensures ∙ c.in-Some.is)
    (sym c.station_in.ensures ∙ c.in-Some-station_in.is)
    (subst (λ (it : Option Sent). Hear c.args.number c.in-Some-station_in.station c.args.packet.now.time it
    c.args.self.now.list.items c.hear_block.new.self.list.items)
    (c.sent_in-sent.ensures
    ∙ ap (λ (it : Wanted). sent_in c.in-Some.link it.from c.args.packet.now.octets.now) c.wanted_of.ensures)
    c.in_ok-hear_block.ensures)
