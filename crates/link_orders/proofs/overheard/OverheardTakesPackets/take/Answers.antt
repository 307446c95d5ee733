use Rattle.std.proofs.Common.{◌+◌, refl, subst, sym}
use Rattle.gsmtap.specs.PieceSteps.{packet_of}
use Rattle.gsmtap.specs.Taker.{IsPacketFault}
use Rattle.gsmtap.specs.declared.fault.AirFault.{AirFault}
use Rattle.link_streams.specs.StreamsSteps.{followed_by}
use Rattle.link_orders.specs.Overhearing.{for_overhearing}
use Rattle.link_orders.specs.Steps.{HaveOverheard}
use Rattle.link_orders.proofs.Overhearing.{has_air_fault, has_link_fault, has_next, near_enough}
use Rattle.link_orders.proofs.overheard.OverheardTakesPackets.take.Goals as goal

pub returns-in-Err-clause-fault : goal.returns-in-Err-clause-fault
returns-in-Err-clause-fault c =
    has_link_fault c.args.before c.args.self.now (packet_of c.args.packet.now) c.in-Err.fault c.in-Err.ensures.fault

pub take-requires : goal.take-requires
take-requires c =
    near_enough c.requires.given c.requires.packets c.requires.known c.args.before c.args.self.now c.requires.is
    c.requires.few

pub returns-in-Ok-clause-taken : goal.returns-in-Ok-clause-taken
returns-in-Ok-clause-taken c from packets known after =
    has_next from packets (packet_of c.args.packet.now) known c.args.before c.args.self.now _ after refl
    c.in_default.ensures.followed c.in-Ok.ensures.taken c.in-Ok.ensures.bound

pub returns-in-Err-take-clause-fault : goal.returns-in-Err-take-clause-fault
returns-in-Err-take-clause-fault c =
    subst (λ (fault : AirFault). IsPacketFault for_overhearing HaveOverheard c.args.self.now c.args.before
    (packet_of c.args.packet.now) fault) (sym c.fault_of.ensures)
    (has_air_fault c.args.before c.args.self.now (packet_of c.args.packet.now)
    (followed_by (c.args.before + 1) c.follow.new.self) c.in-Err-take.kind c.in_default.ensures.followed
    c.in-Err-take.ensures.fault)
