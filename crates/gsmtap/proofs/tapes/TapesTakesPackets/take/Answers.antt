use Rattle.std.proofs.Common.{◌≡◌, ◌∙◌, List, ap, inr, length, refl, subst, sym, Ok, Err}
use Rattle.gsmtap.specs.PieceSteps.{packet_of}
use Rattle.gsmtap.specs.Taker.{IsPacketFault}
use Rattle.gsmtap.specs.TapesOfCapture.{after_each, for_tapes}
use Rattle.gsmtap.specs.TapesSteps.{known_of_each}
use Rattle.gsmtap.specs.TapesTaken.{HaveTaken}
use Rattle.gsmtap.specs.Track.{Known}
use Rattle.gsmtap.specs.declared.fault.AirFault.{AirFault}
use Rattle.gsmtap.proofs.PacketSteps.{taken_next}
use Rattle.gsmtap.proofs.TapesTaken.{many_tapes, near_tapes, step_is}
use Rattle.gsmtap.proofs.tapes.TapesTakesPackets.take.Goals as goal

pub offer-requires-clause-many : goal.offer-requires-clause-many
offer-requires-clause-many c =
    many_tapes c.requires.given c.requires.packets c.args.self.now c.requires.is.has
    ∙ ap length (sym (c.deref.ensures.value ∙ c.requires.is.has.wanted_are))

pub offer-requires-clause-near : goal.offer-requires-clause-near
offer-requires-clause-near c =
    near_tapes c.requires.given c.requires.packets c.args.self.now c.args.before c.requires.is.has c.requires.is.many
    c.requires.few

pub returns-in-Ok-clause-taken : goal.returns-in-Ok-clause-taken
returns-in-Ok-clause-taken c wanted packets known after =
    let new : List Known = known_of_each c.offer.new.airs.items in
    let step : after_each wanted known (packet_of c.args.packet.now) ≡ Ok new =
    step_is wanted c.deref.result.now packets (packet_of c.args.packet.now) known c.args.self.now (Ok new)
    c.deref.ensures.value after.has after.comes c.in-Ok.ensures.placed in (
      new,
      step,
      record {
        wanted_are = after.has.wanted_are;
        comes = taken_next (for_tapes wanted) packets (packet_of c.args.packet.now) known new after.comes step;
      },
    )

pub returns-in-Err-clause-fault : goal.returns-in-Err-clause-fault
returns-in-Err-clause-fault c =
    subst (λ (fault : AirFault). IsPacketFault for_tapes HaveTaken c.args.self.now c.args.before
    (packet_of c.args.packet.now) fault) (sym c.fault_at.ensures)
    (inr (record {
      numbered = refl;
      of_packet = c.in-Err.ensures.kinds;
      comes = λ wanted packets known after.
          step_is wanted c.deref.result.now packets (packet_of c.args.packet.now) known c.args.self.now
          (Err c.in-Err.kind) c.deref.ensures.value after.has after.comes c.in-Err.ensures.fault;
    }))
