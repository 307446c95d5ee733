use Rattle.std.proofs.Common.{sym, ◌≡◌, ◌≢◌, ap, ◌∙◌, map, subst, List}
use Rattle.std.specs.Bool.{MatchBool}
use Rattle.std.specs.List.{All, Any}
use Rattle.std.proofs.lemmas.List.Elements.{All-map}
use Rattle.scheduler.specs.Message.{ScheduledMessage}
use Rattle.scheduler.specs.Follows.{message_of, messages_of}
use Rattle.scheduler.specs.QueueSteps.{seen_in, AreRising}
use Rattle.scheduler.proofs.Planned.{plan_rising}
use Rattle.scheduler.proofs.Lists.{Any-map, MatchBool-both}
use Rattle.scheduler.proofs.plan.Plan.is_added.Goals as goal

pub has_entry-requires : goal.has_entry-requires
has_entry-requires c =
    subst AreRising (sym c.as_slice.ensures.value) (plan_rising c.self.inside.slot c.self.inside.past
    c.self.inside.nodes.items c.self.invariant.plan)

pub returns : goal.returns
returns c =
    let P : ScheduledMessage → Type 0 = λ (m : ScheduledMessage). m.entry ≡ c.args.entry in
    let Q : ScheduledMessage → Type 0 = λ (m : ScheduledMessage). m.entry ≢ c.args.entry in
    let Says : List ScheduledMessage → Type 0 = λ ms. MatchBool c.has_entry.result (Any P ms) (All Q ms) in
    let slot = c.self.inside.slot in
    let kept = ap (λ ns. map message_of (seen_in slot ns)) c.as_slice.ensures.value ∙ ap messages_of c.self.view_is in
    subst Says kept (MatchBool-both c.has_entry.result _ _ _ _
    (Any-map P message_of (seen_in slot c.as_slice.result.now))
    (All-map Q message_of (seen_in slot c.as_slice.result.now)) (c.has_entry.ensures slot))
