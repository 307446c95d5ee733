use Rattle.std.proofs.Common.{◌+◌, ◌∙◌, ap, inr, refl, subst, sym, None, Ok}
use Rattle.std.specs.Option.{option_map}
use Rattle.gsmtap.specs.PieceSteps.{packet_of}
use Rattle.gsmtap.specs.declared.fault.AirFault.{AirFault}
use Rattle.link_streams.specs.Segment.{segment_found}
use Rattle.link_streams.specs.Streams.{Followed, counted}
use Rattle.link_streams.specs.StreamsSteps.{IsUnfollowed, followed_by}
use Rattle.link_streams.proofs.Following.{follows, not_linked}
use Rattle.link_streams.proofs.streams.LinkStreams.follow.Goals as goal

pub returns-in_default-clause-fault : goal.returns-in_default-clause-fault
returns-in_default-clause-fault c =
    subst (λ (fault : AirFault). IsUnfollowed c.args.before c.args.self.now (packet_of c.args.packet.now) fault)
    (sym c.fault_at.ensures)
    (inr (
      refl,
      not_linked (followed_by c.args.before c.args.self.now) (packet_of c.args.packet.now)
          (sym c.link_numbered.ensures ∙ c.in_default.is),
      tt,
    ))

pub returns-in_default-segment_in-clause-followed : goal.returns-in_default-segment_in-clause-followed
returns-in_default-segment_in-clause-followed c =
    follows (followed_by c.args.before c.args.self.now) (packet_of c.args.packet.now) c.in-Some.link None
    (sym c.link_numbered.ensures ∙ c.in-Some.is)
    (sym c.segment_in.ensures ∙ ap (option_map segment_found) c.in_default-segment_in.is)

pub returns-clause-followed : goal.returns-clause-followed
returns-clause-followed c =
    follows (followed_by c.args.before c.args.self.now) (packet_of c.args.packet.now) c.in-Some.link _
    (sym c.link_numbered.ensures ∙ c.in-Some.is)
    (sym c.segment_in.ensures ∙ ap (option_map segment_found) c.in-Some-segment_in.is)
    ∙ ap (λ (it : Followed). Ok (counted (c.args.before + 1) it)) (sym (c.in_ok-take_segment.ensures c.args.before))
