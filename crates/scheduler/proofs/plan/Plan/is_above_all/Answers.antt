use Rattle.std.proofs.Common.{sym, ◌<◌, ◌≤◌, ap, ◌∙◌, map, subst, List}
use Rattle.std.specs.Bool.{MatchBool}
use Rattle.std.specs.List.{All, Any}
use Rattle.std.proofs.lemmas.List.Elements.{All-map}
use Rattle.scheduler.specs.Message.{ScheduledMessage}
use Rattle.scheduler.specs.Follows.{message_of, messages_of}
use Rattle.scheduler.specs.QueueSteps.{seen_in, AreRising}
use Rattle.scheduler.proofs.Planned.{plan_rising}
use Rattle.scheduler.proofs.Lists.{Any-map, MatchBool-both}
use Rattle.scheduler.proofs.plan.Plan.is_above_all.Goals as goal

pub are_below-requires : goal.are_below-requires
are_below-requires c =
    subst AreRising (sym c.as_slice.ensures.value) (plan_rising c.self.inside.slot c.self.inside.past
    c.self.inside.nodes.items c.self.invariant.plan)

pub returns : goal.returns
returns c =
    let P : ScheduledMessage → Type 0 = λ (m : ScheduledMessage). m.entry < c.args.entry in
    let Q : ScheduledMessage → Type 0 = λ (m : ScheduledMessage). c.args.entry ≤ m.entry in
    let Says : List ScheduledMessage → Type 0 = λ ms. MatchBool c.are_below.result (All P ms) (Any Q ms) in
    let slot = c.self.inside.slot in
    let kept = ap (λ ns. map message_of (seen_in slot ns)) c.as_slice.ensures.value ∙ ap messages_of c.self.view_is in
    subst Says kept (MatchBool-both c.are_below.result _ _ _ _
    (All-map P message_of (seen_in slot c.as_slice.result.now))
    (Any-map Q message_of (seen_in slot c.as_slice.result.now)) (c.are_below.ensures slot))
