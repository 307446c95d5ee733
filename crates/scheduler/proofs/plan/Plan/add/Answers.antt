use Rattle.std.proofs.Common.{◌≡◌, ◌≤◌, ◌<◌, ◌+◌, arith, length, sym, ap, subst, ◌∙◌, List, [], ◌∷◌, ◌++◌}
use Rattle.std.specs.List.{All}
use Rattle.std.specs.Vec.{with_items}
use Rattle.std.proofs.lemmas.List.{length-map, length_push}
use Rattle.scheduler.specs.declared.scheduled.Scheduled.{Scheduled}
use Rattle.scheduler.specs.declared.tournament.Node.{Node}
use Rattle.scheduler.specs.Message.{ScheduledMessage}
use Rattle.scheduler.specs.Air.{Air}
use Rattle.scheduler.specs.Follows.{PlanState, Follows, messages_of, message_from, next_slot}
use Rattle.scheduler.specs.QueueSteps.{seen_in, kept_in, kept_new, IsPlan, AreBehind}
use Rattle.scheduler.proofs.Followed.{Follows-add, scheduled_new}
use Rattle.scheduler.proofs.Planned.{seen_pushed, seen_settled, IsPlan-add, IsPlan-settled, on_ok, on_either, as_long}
use Rattle.scheduler.proofs.Forest.{ranks_before, ranks_pushed}
use Rattle.scheduler.proofs.Planned.{longer}
use Rattle.scheduler.proofs.plan.Plan.add.Goals as goal

pub push-requires-2-clause-within : goal.push-requires-2-clause-within
push-requires-2-clause-within c =
    let grown = c.settle_if_grown-past in
    let plan = IsPlan-settled c.self.inside.slot c.self.inside.past grown.result.0 c.self.inside.nodes
    c.as_mut_slice.result.now grown.new.nodes c.as_mut_slice.ensures.value grown.ensures.kept grown.ensures.settled
    c.self.invariant.plan in
    plan.kept.within

pub push-requires-2-clause-trees : goal.push-requires-2-clause-trees
push-requires-2-clause-trees c =
    let grown = c.settle_if_grown-past in
    let plan = IsPlan-settled c.self.inside.slot c.self.inside.past grown.result.0 c.self.inside.nodes
    c.as_mut_slice.result.now grown.new.nodes c.as_mut_slice.ensures.value grown.ensures.kept grown.ensures.settled
    c.self.invariant.plan in
    plan.kept.later.trees

pub invariant_of-self-2 : goal.invariant_of-self-2
invariant_of-self-2 c =
    let slot = c.self.inside.slot in
    let v = c.self.inside.nodes in
    let grown = c.settle_if_grown-past in
    let read = c.as_mut_slice.result.now in
    let old = (with_items v grown.new.nodes).items in
    let new = c.push-2.new.nodes.items in
    let settled = IsPlan-settled slot c.self.inside.past grown.result.0 v read grown.new.nodes
    c.as_mut_slice.ensures.value grown.ensures.kept grown.ensures.settled c.self.invariant.plan in
    let same = seen_settled slot v read grown.new.nodes c.as_mut_slice.ensures.value grown.ensures.kept in
    let back = sym c.self.view_is in
    let Above : PlanState → Type 0 = λ p. All (λ m. m.entry < c.args.item.entry) (messages_of p) in
    let AboveSeen : List Scheduled → Type 0 = λ ts. Above (record { slot = slot; scheduled = ts }) in
    let From : PlanState → Type 0 = λ p. next_slot p ≤ c.args.item.start in
    let one_more = longer c.push.result c.self.inside.listed.items c.push.new.self.items
    (sym c.is_err.ensures.value ∙ c.if-is_err.false) c.push.ensures.items in
    let added : (is : kept_in new ≡ kept_in old ++ kept_new c.args.item ∷ []) → length new ≡ length old + 1 = λ is.
    omega (
      arith,
      ap length is,
      length_push (kept_in old) (kept_new c.args.item),
      length-map new (λ (n : Node). n.kept),
      length-map old (λ (n : Node). n.kept),
    ) in
    let room = on_either c.push-2.result (kept_in new ≡ kept_in old ++ kept_new c.args.item ∷ []) (new ≡ old)
    (length new ≤ length old + 1) (λ is. omega (arith, added is)) (λ same. omega (arith, ap length same))
    c.push-2.ensures.kept c.push-2.ensures.refused in
    let plan = on_either c.push-2.result (kept_in new ≡ kept_in old ++ kept_new c.args.item ∷ []) (new ≡ old)
    (IsPlan slot grown.result.0 new) (λ is. IsPlan-add slot grown.result.0 old new c.args.item
    (subst AboveSeen (sym same) (subst Above back c.requires.rising)) (subst From back c.requires.from_next)
    c.requires.some_pages c.requires.some_period c.push-2.ensures.turn settled is c.push-2.ensures.ended
    c.push-2.ensures.trees)
    (λ unchanged. subst (IsPlan slot grown.result.0) (sym unchanged) settled) c.push-2.ensures.kept
    c.push-2.ensures.refused in
    let new_rank = c.foremost-self-inside.result in
    let Behind : List Scheduled → Type 0 = λ ts. AreBehind new_rank ts in
    let ranks = on_either c.push-2.result (kept_in new ≡ kept_in old ++ kept_new c.args.item ∷ []) (new ≡ old)
    (AreBehind new_rank (seen_in slot new)) (λ is. subst Behind (sym (seen_pushed slot old new c.args.item is
    ∙ ap (λ ts. ts ++ scheduled_new c.args.item ∷ []) same)) (ranks_pushed c.self.inside.foremost new_rank
    (seen_in slot v.items) (scheduled_new c.args.item) c.foremost-self-inside.ensures.of_first
    c.foremost-self-inside.ensures.of_other
    c.self.invariant.ranks)) (λ unchanged. subst Behind (sym (ap (seen_in slot) unchanged ∙ same))
    (ranks_before c.self.inside.foremost new_rank (seen_in slot v.items) c.foremost-self-inside.ensures.of_first
    c.self.invariant.ranks)) c.push-2.ensures.kept c.push-2.ensures.refused in
    record {
      plan = plan;
      room = omega (arith, one_more, room, as_long v grown.new.nodes, c.self.invariant.room);
      ranks = ranks;
    }

pub returns-clause-follows : goal.returns-clause-follows
returns-clause-follows c =
    let slot = c.self.inside.slot in
    let v = c.self.inside.nodes in
    let grown = c.settle_if_grown-past in
    let old = (with_items v grown.new.nodes).items in
    let new = c.push-2.new.nodes.items in
    let same = seen_settled slot v c.as_mut_slice.result.now grown.new.nodes c.as_mut_slice.ensures.value
    grown.ensures.kept in
    let plan : PlanState = record { slot = slot; scheduled = seen_in slot v.items } in
    let back = sym c.self.view_is in
    let From : PlanState → Type 0 = λ p. next_slot p ≤ c.args.item.start in
    on_ok c.push-2.result (kept_in new ≡ kept_in old ++ kept_new c.args.item ∷ [])
    ((messages : List ScheduledMessage) (air : Air) → Follows c.args.self.now messages air
    → Follows (record { slot = slot; scheduled = seen_in slot new }) (messages ++ message_from c.args.item ∷ []) air)
    (λ is messages air follows.
    let Same : PlanState → Type 0 = λ p. Follows p messages air in
    let P : List Scheduled → Type 0 = λ ts. Follows (record { slot = slot; scheduled = ts })
    (messages ++ message_from c.args.item ∷ []) air in
    subst P (sym (seen_pushed slot old new c.args.item is ∙ ap (λ ts. ts ++ scheduled_new c.args.item ∷ []) same))
    (Follows-add plan c.args.item messages air (subst From back c.requires.from_next) c.requires.some_pages
    c.requires.some_period (subst Same back follows))) c.push-2.ensures.kept
