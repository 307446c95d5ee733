use Rattle.std.proofs.Common.{◌==◌, List, arith, map, ap, subst, sym, ◌∙◌}
use Rattle.std.specs.List.{All}
use Rattle.scheduler.specs.declared.scheduled.Scheduled.{Scheduled}
use Rattle.scheduler.specs.declared.tournament.Node.{Node}
use Rattle.scheduler.specs.PlanSteps.{scheduled_stopped}
use Rattle.scheduler.specs.QueueSteps.{kept_in, seen_in, HasEnded, AreRising, AreInTrees}
use Rattle.scheduler.proofs.Found.{stopped_none}
use Rattle.scheduler.proofs.Ended.{seen_changed, rising_before, rising_behind, settled_of, not_later}
use Rattle.scheduler.proofs.settled.stop.Goals as goal

pub is_reached-requires : goal.is_reached-requires
is_reached-requires c =
    let cut = c.split_at_mut-ended in
    rising_before (λ (n : Node). n.kept.scheduled.item.entry) cut.result.0.now cut.result.1.now
    (subst AreRising cut.ensures.value c.requires.rising)

pub stop_ended-requires-clause-ended : goal.stop_ended-requires-clause-ended
stop_ended-requires-clause-ended c =
    let Ended : List Node → Type 0 = λ ns. All (HasEnded c.args.slot) (kept_in ns) in
    subst Ended (sym c.split_at_mut-ended.ensures.front) c.requires.kept.ended

pub stop_ended-requires-clause-rising : goal.stop_ended-requires-clause-rising
stop_ended-requires-clause-rising c =
    let cut = c.split_at_mut-ended in
    rising_before (λ (n : Node). n.kept.scheduled.item.entry) cut.result.0.now cut.result.1.now
    (subst AreRising cut.ensures.value c.requires.rising)

pub stop_at-requires-clause-rising : goal.stop_at-requires-clause-rising
stop_at-requires-clause-rising c =
    let cut = c.split_at_mut-ended in
    rising_behind (λ (n : Node). n.kept.scheduled.item.entry) cut.result.0.now cut.result.1.now
    (subst AreRising cut.ensures.value c.requires.rising)

pub returns-then-is_reached-clause-seen : goal.returns-then-is_reached-clause-seen
returns-then-is_reached-clause-seen c =
    let cut = c.split_at_mut-ended in
    let slot = c.args.slot in
    let f : Scheduled → Scheduled = λ t. scheduled_stopped (t.item.entry == c.args.entry) slot t in
    let reached = rw c.if-is_reached.true at c.is_reached.ensures in
    let none = not_later c.args.entry cut.result.0.now cut.result.1.now (subst AreRising cut.ensures.value
    c.requires.rising) reached in
    seen_changed slot slot f cut.result.0.now cut.result.1.now c.stop_ended.new.nodes cut.result.1.now
    c.stop_ended.ensures.seen (stopped_none c.args.entry slot cut.result.1.now none)
    ∙ ap (λ ns. map f (seen_in slot ns)) (sym cut.ensures.value)

pub returns-then-is_reached-clause-kept : goal.returns-then-is_reached-clause-kept
returns-then-is_reached-clause-kept c =
    let cut = c.split_at_mut-ended in
    settled_of c.args.slot c.args.past c.stop_ended.new.nodes cut.result.1.now (omega (
      arith,
      cut.ensures.front_len,
      c.stop_ended.auto.nodes,
    )) c.stop_ended.ensures.ended (subst (AreInTrees c.args.slot 2) (sym cut.ensures.back) c.requires.kept.later)

pub returns-else-is_reached-clause-seen : goal.returns-else-is_reached-clause-seen
returns-else-is_reached-clause-seen c =
    let cut = c.split_at_mut-ended in
    let slot = c.args.slot in
    let f : Scheduled → Scheduled = λ t. scheduled_stopped (t.item.entry == c.args.entry) slot t in
    let none = rw c.if-is_reached.false at c.is_reached.ensures in
    seen_changed slot slot f cut.result.0.now cut.result.1.now cut.result.0.now c.stop_at.new.nodes
    (stopped_none c.args.entry slot cut.result.0.now none) c.stop_at.ensures.seen
    ∙ ap (λ ns. map f (seen_in slot ns)) (sym cut.ensures.value)

pub returns-else-is_reached-clause-kept : goal.returns-else-is_reached-clause-kept
returns-else-is_reached-clause-kept c =
    let cut = c.split_at_mut-ended in
    let Ended : List Node → Type 0 = λ ns. All (HasEnded c.args.slot) (kept_in ns) in
    settled_of c.args.slot c.args.past cut.result.0.now c.stop_at.new.nodes cut.ensures.front_len (subst Ended
    (sym cut.ensures.front) c.requires.kept.ended) c.stop_at.ensures.kept
