use Rattle.std.proofs.Common.{◌≡◌, sym, subst, List}
use Rattle.std.specs.List.{All}
use Rattle.scheduler.specs.declared.scheduled.Scheduled.{Scheduled}
use Rattle.scheduler.specs.declared.tournament.Node.{Node}
use Rattle.scheduler.specs.Follows.{PlanState, Follows}
use Rattle.scheduler.specs.QueueSteps.{seen_in, AreRising}
use Rattle.scheduler.proofs.Followed.{completed-kept}
use Rattle.scheduler.proofs.Planned.{plan_rising}
use Rattle.scheduler.proofs.plan.Plan.done.Goals as goal

pub completed_of-requires : goal.completed_of-requires
completed_of-requires c =
    subst AreRising (sym c.as_slice.ensures.value) (plan_rising c.self.inside.slot c.self.inside.past
    c.self.inside.nodes.items c.self.invariant.plan)

pub returns : goal.returns
returns c = λ messages air follows.
    let slot = c.self.inside.slot in
    let plan : PlanState = record { slot = slot; scheduled = seen_in slot c.self.inside.nodes.items } in
    let Found : List Node → Type 0 = λ ns. All (λ (t : Scheduled). t.item.entry ≡ c.args.entry
    → c.completed_of.result ≡ t.completed) (seen_in slot ns) in
    let Same : PlanState → Type 0 = λ p. Follows p messages air in
    completed-kept plan c.args.entry c.completed_of.result messages air
    (subst Found c.as_slice.ensures.value (c.completed_of.ensures slot)) (subst Same (sym c.self.view_is) follows)
