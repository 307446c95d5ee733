use Rattle.std.proofs.Common.{arith, ℕ, ◌+◌, ◌<◌, sym, ap, subst, ◌∙◌, map, refl, List, [], ◌∷◌, ◌++◌}
use Rattle.std.specs.List.{AllPairs}
use Rattle.scheduler.specs.declared.scheduled.Scheduled.{Scheduled}
use Rattle.scheduler.specs.declared.tournament.Node.{Node}
use Rattle.scheduler.specs.Follows.{PlanState, Follows, messages_of, message_of, next_slot}
use Rattle.scheduler.specs.PlanSteps.{IsSound, IsChoice, after_slot}
use Rattle.scheduler.specs.QueueSteps.{AreSettled, AreBehind, IsNotBehind, seen_in}
use Rattle.std.proofs.lemmas.List.Elements.{All-map}
use Rattle.scheduler.proofs.Followed.{IsSound-next, IsChosen-next, Follows-next, unchanged_messages}
use Rattle.scheduler.proofs.Planned.{as_long, written_all, seen_written}
use Rattle.scheduler.proofs.plan.Plan.next.Goals as goal

pub play_later-used-requires-clause-kept : goal.play_later-used-requires-clause-kept
play_later-used-requires-clause-kept c =
    let at = c.requires.at_next ∙ ap next_slot (sym c.self.view_is) in
    let Slot : ℕ → Type 0 = λ n. AreSettled n c.self.inside.past c.self.inside.nodes.items in
    subst (AreSettled c.args.slot c.self.inside.past) (sym c.as_mut_slice.ensures.value)
    (subst Slot (sym at) c.self.invariant.plan.kept)

pub play_later-used-requires-clause-rising : goal.play_later-used-requires-clause-rising
play_later-used-requires-clause-rising c =
    let at = c.requires.at_next ∙ ap next_slot (sym c.self.view_is) in
    let Rising : List Node → Type 0 = λ ns. AllPairs (λ (a b : Scheduled). a.item.entry < b.item.entry)
    (seen_in c.args.slot ns) in
    let Slot : ℕ → Type 0 = λ n. AllPairs (λ (a b : Scheduled). a.item.entry < b.item.entry)
    (seen_in n c.self.inside.nodes.items) in
    subst Rising (sym c.as_mut_slice.ensures.value) (subst Slot (sym at) c.self.invariant.plan.sound.rising)

pub play_later-used-requires-clause-ranks : goal.play_later-used-requires-clause-ranks
play_later-used-requires-clause-ranks c =
    let at = c.requires.at_next ∙ ap next_slot (sym c.self.view_is) in
    let Behind : List Node → Type 0 = λ ns. AreBehind c.self.inside.foremost (seen_in c.args.slot ns) in
    let Slot : ℕ → Type 0 = λ n. AreBehind c.self.inside.foremost (seen_in n c.self.inside.nodes.items) in
    subst Behind (sym c.as_mut_slice.ensures.value) (subst Slot (sym at) c.self.invariant.ranks)

pub invariant_of-self : goal.invariant_of-self
invariant_of-self c =
    let v = c.self.inside.nodes in
    let plan : PlanState = record { slot = c.args.slot; scheduled = seen_in c.args.slot v.items } in
    let at = c.requires.at_next ∙ ap next_slot (sym c.self.view_is) in
    let f = after_slot c.args.slot c.play_later-used.result in
    let Slot : ℕ → Type 0 = λ n. IsSound (record { slot = n; scheduled = seen_in n v.items }) in
    let P : List Scheduled → Type 0 = λ ts. IsSound (record { slot = c.args.slot + 1; scheduled = ts }) in
    let as_seen = seen_written v _ _ (c.args.slot + 1) c.args.slot f c.as_mut_slice.ensures.value
    c.play_later-used.ensures.seen in
    let Behind : List Scheduled → Type 0 = λ ts. AreBehind c.self.inside.foremost ts in
    let BehindAt : ℕ → Type 0 = λ n. Behind (seen_in n v.items) in
    let as_written = written_all v _ _ (c.args.slot + 1) c.args.slot f c.as_mut_slice.ensures.value
    c.play_later-used.ensures.seen in
    record {
      plan = record {
        sound = subst P (sym as_seen) (IsSound-next plan c.play_later-used.result c.requires.within (subst Slot (sym at)
            c.self.invariant.plan.sound));
        kept = subst (AreSettled (c.args.slot + 1) c.self.inside.past) (sym as_written) c.play_later-used.ensures.kept;
      };
      room = omega (
        arith,
        c.self.invariant.room,
        as_long v c.play_later-used.new.nodes,
        as_long c.self.inside.listed c.play_later-used.new.listed,
      );
      ranks = subst Behind (sym as_seen) (All-map (λ (t : Scheduled). IsNotBehind c.self.inside.foremost t.item.rank) f
          (seen_in c.args.slot v.items) (subst BehindAt (sym at) c.self.invariant.ranks));
    }

pub returns-clause-chosen : goal.returns-clause-chosen
returns-clause-chosen c = λ messages air follows.
    let v = c.self.inside.nodes in
    let plan : PlanState = record { slot = c.args.slot; scheduled = seen_in c.args.slot v.items } in
    let at = c.requires.at_next ∙ ap next_slot (sym c.self.view_is) in
    let Slot : ℕ → Type 0 = λ n. IsSound (record { slot = n; scheduled = seen_in n v.items }) in
    let SlotFollows : ℕ → Type 0 = λ n. Follows (record { slot = n; scheduled = seen_in n v.items }) messages air in
    let Same : PlanState → Type 0 = λ p. Follows p messages air in
    let Choice : List Node → Type 0 = λ ns. IsChoice (seen_in c.args.slot ns) c.args.slot c.play_later-used.result in
    IsChosen-next plan messages air c.play_later-used.result (subst Slot (sym at) c.self.invariant.plan.sound)
    (subst Choice c.as_mut_slice.ensures.value c.play_later-used.ensures.chosen)
    (subst SlotFollows (sym at) (subst Same (sym c.self.view_is) follows))

pub returns-clause-follows : goal.returns-clause-follows
returns-clause-follows c = λ messages air follows.
    let v = c.self.inside.nodes in
    let plan : PlanState = record { slot = c.args.slot; scheduled = seen_in c.args.slot v.items } in
    let at = c.requires.at_next ∙ ap next_slot (sym c.self.view_is) in
    let f = after_slot c.args.slot c.play_later-used.result in
    let Slot : ℕ → Type 0 = λ n. IsSound (record { slot = n; scheduled = seen_in n v.items }) in
    let SlotFollows : ℕ → Type 0 = λ n. Follows (record { slot = n; scheduled = seen_in n v.items }) messages air in
    let Same : PlanState → Type 0 = λ p. Follows p messages air in
    let Choice : List Node → Type 0 = λ ns. IsChoice (seen_in c.args.slot ns) c.args.slot c.play_later-used.result in
    let P : List Scheduled → Type 0 = λ ts. Follows (record { slot = c.args.slot + 1; scheduled = ts }) messages
    (air ++ c.play_later-used.result ∷ []) in
    subst P (sym (seen_written v _ _ (c.args.slot + 1) c.args.slot f c.as_mut_slice.ensures.value
    c.play_later-used.ensures.seen)) (Follows-next plan messages air c.play_later-used.result (subst Slot (sym at)
    c.self.invariant.plan.sound) (subst Choice c.as_mut_slice.ensures.value c.play_later-used.ensures.chosen)
    (subst SlotFollows (sym at) (subst Same (sym c.self.view_is) follows)))

pub returns-clause-messages : goal.returns-clause-messages
returns-clause-messages c =
    let v = c.self.inside.nodes in
    let at = c.requires.at_next ∙ ap next_slot (sym c.self.view_is) in
    let f = after_slot c.args.slot c.play_later-used.result in
    ap (map message_of) (seen_written v _ _ (c.args.slot + 1) c.args.slot f c.as_mut_slice.ensures.value
    c.play_later-used.ensures.seen) ∙ (unchanged_messages f (λ t. refl) (seen_in c.args.slot v.items)
    ∙ (ap (λ n. map message_of (seen_in n v.items)) at ∙ ap messages_of c.self.view_is))
