use Rattle.std.proofs.Common.{arith, ◌≡◌, ◌==◌, ℕ, refl, sym, ap, subst, ◌∙◌, map, List, None}
use Rattle.std.specs.List.{All, Any}
use Rattle.scheduler.specs.declared.scheduled.Scheduled.{Scheduled}
use Rattle.scheduler.specs.declared.tournament.Node.{Node}
use Rattle.scheduler.specs.Message.{stopped_at}
use Rattle.scheduler.specs.Completed.{completed}
use Rattle.scheduler.specs.Follows.{PlanState, Follows, messages_of, message_of, next_slot}
use Rattle.scheduler.specs.PlanSteps.{IsSound, scheduled_stopped}
use Rattle.scheduler.specs.QueueSteps.{AreSettled, AreRising, AreBehind, IsNotBehind, seen_in}
use Rattle.std.proofs.lemmas.List.Elements.{All-map}
use Rattle.scheduler.proofs.Followed.{IsSound-stop, Follows-stop, completed-kept, messages_of-stopped}
use Rattle.scheduler.proofs.Planned.{as_long, plan_rising, written_all, seen_written}
use Rattle.scheduler.proofs.plan.Plan.stop.Goals as goal

pub completed_of-completed-requires : goal.completed_of-completed-requires
completed_of-completed-requires c =
    subst AreRising (sym c.as_slice.ensures.value) (plan_rising c.self.inside.slot c.self.inside.past
    c.self.inside.nodes.items c.self.invariant.plan)

pub stop-requires-clause-kept : goal.stop-requires-clause-kept
stop-requires-clause-kept c =
    let at = c.requires.at_next ∙ ap next_slot (sym c.self.view_is) in
    let Slot : ℕ → Type 0 = λ n. AreSettled n c.self.inside.past c.self.inside.nodes.items in
    subst (AreSettled c.args.slot c.self.inside.past) (sym c.as_mut_slice.ensures.value)
    (subst Slot (sym at) c.self.invariant.plan.kept)

pub stop-requires-clause-rising : goal.stop-requires-clause-rising
stop-requires-clause-rising c =
    subst AreRising (sym c.as_mut_slice.ensures.value) (plan_rising c.self.inside.slot c.self.inside.past
    c.self.inside.nodes.items c.self.invariant.plan)

pub invariant_of-self : goal.invariant_of-self
invariant_of-self c =
    let v = c.self.inside.nodes in
    let plan : PlanState = record { slot = c.args.slot; scheduled = seen_in c.args.slot v.items } in
    let at = c.requires.at_next ∙ ap next_slot (sym c.self.view_is) in
    let over = seen_written v _ _ c.args.slot c.args.slot (λ (t : Scheduled). scheduled_stopped
    (t.item.entry == c.args.entry) c.args.slot t) c.as_mut_slice.ensures.value c.stop.ensures.seen in
    let Slot : ℕ → Type 0 = λ n. IsSound (record { slot = n; scheduled = seen_in n v.items }) in
    let P : List Scheduled → Type 0 = λ ts. IsSound (record { slot = c.args.slot; scheduled = ts }) in
    let Behind : List Scheduled → Type 0 = λ ts. AreBehind c.self.inside.foremost ts in
    let BehindAt : ℕ → Type 0 = λ n. Behind (seen_in n v.items) in
    rw (← at) record {
      plan = record {
        sound = subst P (sym over) (IsSound-stop plan c.args.entry c.args.slot (subst Slot (sym at)
            c.self.invariant.plan.sound));
        kept = subst (AreSettled c.args.slot c.self.inside.past) (sym (written_all v _ _ c.args.slot c.args.slot
            (λ (t : Scheduled). scheduled_stopped (t.item.entry == c.args.entry) c.args.slot t)
            c.as_mut_slice.ensures.value c.stop.ensures.seen)) c.stop.ensures.kept;
      };
      room = omega (arith, c.self.invariant.room, as_long v c.stop.new.nodes);
      ranks = subst Behind (sym over) (All-map (λ (t : Scheduled). IsNotBehind c.self.inside.foremost t.item.rank)
          (λ (t : Scheduled). scheduled_stopped (t.item.entry == c.args.entry) c.args.slot t)
          (seen_in c.args.slot v.items) (subst BehindAt (sym at) c.self.invariant.ranks));
    }

pub returns-clause-completed : goal.returns-clause-completed
returns-clause-completed c = λ messages air follows.
    let slot = c.self.inside.slot in
    let plan : PlanState = record { slot = slot; scheduled = seen_in slot c.self.inside.nodes.items } in
    let Found : List Node → Type 0 = λ ns. All (λ (t : Scheduled). t.item.entry ≡ c.args.entry
    → c.completed_of-completed.result ≡ t.completed) (seen_in slot ns) in
    let Same : PlanState → Type 0 = λ p. Follows p messages air in
    let at = c.requires.at_next ∙ follows.asked in
    let Told : ℕ → Type 0 = λ n. All (λ m. m.entry ≡ c.args.entry
    → c.completed_of-completed.result ≡ completed m air n) messages in
    subst Told (sym at) (completed-kept plan c.args.entry c.completed_of-completed.result messages air
    (subst Found c.as_slice.ensures.value (c.completed_of-completed.ensures slot))
    (subst Same (sym c.self.view_is) follows))

pub returns-clause-follows : goal.returns-clause-follows
returns-clause-follows c = λ messages air follows.
    let v = c.self.inside.nodes in
    let plan : PlanState = record { slot = c.args.slot; scheduled = seen_in c.args.slot v.items } in
    let at = c.requires.at_next ∙ ap next_slot (sym c.self.view_is) in
    let over = seen_written v _ _ c.args.slot c.args.slot (λ (t : Scheduled). scheduled_stopped
    (t.item.entry == c.args.entry) c.args.slot t) c.as_mut_slice.ensures.value c.stop.ensures.seen in
    let Slot : ℕ → Type 0 = λ n. IsSound (record { slot = n; scheduled = seen_in n v.items }) in
    let SlotFollows : ℕ → Type 0 = λ n. Follows (record { slot = n; scheduled = seen_in n v.items }) messages air in
    let SlotStanding : ℕ → Type 0 = λ n. Any (λ m. (m.entry ≡ c.args.entry) × (m.stop ≡ None))
    (map message_of (seen_in n v.items)) in
    let Same : PlanState → Type 0 = λ p. Follows p messages air in
    let Standing : PlanState → Type 0 = λ p. Any (λ m. (m.entry ≡ c.args.entry) × (m.stop ≡ None)) (messages_of p) in
    let P : List Scheduled → Type 0 = λ ts. Follows (record { slot = c.args.slot; scheduled = ts })
    (stopped_at c.args.entry c.args.slot messages) air in
    let back = sym c.self.view_is in
    rw (← at) (subst P (sym over) (Follows-stop plan c.args.entry c.args.slot messages air refl
    (subst SlotStanding (sym at) (subst Standing back c.requires.standing)) (subst Slot (sym at)
    c.self.invariant.plan.sound) (subst SlotFollows (sym at) (subst Same back follows))))

pub returns-clause-messages : goal.returns-clause-messages
returns-clause-messages c =
    let v = c.self.inside.nodes in
    let plan : PlanState = record { slot = c.args.slot; scheduled = seen_in c.args.slot v.items } in
    let at = c.requires.at_next ∙ ap next_slot (sym c.self.view_is) in
    let over = seen_written v _ _ c.args.slot c.args.slot (λ (t : Scheduled). scheduled_stopped
    (t.item.entry == c.args.entry) c.args.slot t) c.as_mut_slice.ensures.value c.stop.ensures.seen in
    let back = ap (λ n. stopped_at c.args.entry c.args.slot (map message_of (seen_in n v.items))) at
    ∙ ap (λ p. stopped_at c.args.entry c.args.slot (messages_of p)) c.self.view_is in
    rw (← at) (ap (map message_of) over ∙ (messages_of-stopped plan c.args.entry c.args.slot ∙ back))

pub returns-clause-asked : goal.returns-clause-asked
returns-clause-asked c = ap next_slot c.self.view_is ∙ sym c.requires.at_next
