-- A plan goes on to follow its messages and their air list.
use Rattle.std.proofs.Common.{◌≡◌, ◌==◌, ℕ, ◌+◌, ◌≤◌, ◌<◌, true, List, [], ◌∷◌, ◌++◌, length}
use Rattle.std.proofs.Common.{get_or, map, Option, None, refl, sym, ap, subst, ◌∙◌, arith}
use Rattle.std.specs.List.{All, AllPairs, Any}
use Rattle.std.proofs.lemmas.List.{length_push, length-map, get_or-map, map_push}
use Rattle.std.proofs.lemmas.List.Elements.{All-map, All-push}
use Rattle.std.proofs.lemmas.Bool.{eqb-true}
use Rattle.scheduler.specs.declared.plan.Item.{Item}
use Rattle.scheduler.specs.declared.scheduled.Scheduled.{Scheduled}
use Rattle.scheduler.specs.Message.{ScheduledMessage, stopped_if, stopped_at}
use Rattle.scheduler.specs.Air.{Air, airs, IsChosen}
use Rattle.scheduler.specs.Completed.{completed}
use Rattle.scheduler.specs.Follows.{PlanState, Follows, Counts, messages_of, message_of, message_from}
use Rattle.scheduler.specs.PlanSteps.{IsSound, IsFit, IsChoice, after_slot, scheduled_stopped, is_ready}
use Rattle.scheduler.proofs.Chosen.{IsChosen-from_choice, used_is_ready}
use Rattle.scheduler.proofs.Counts.{Counts-after, Counts-new, Counts-stopped, IsFit-after}
use Rattle.scheduler.proofs.Lists.{rising-map, rising-push, rising-same}

-- the messages are the same where each kept one is
same_messages : (g : Scheduled → Scheduled) (h : ScheduledMessage → ScheduledMessage)
    → ((t : Scheduled) → message_of (g t) ≡ h (message_of t))
    → (scheduled : List Scheduled) → map message_of (map g scheduled) ≡ map h (map message_of scheduled)
same_messages g h same [] = refl
same_messages g h same (t ∷ scheduled) =
    ap (λ m. m ∷ map message_of (map g scheduled)) (same t) ∙ ap (λ ms. h (message_of t) ∷ ms)
    (same_messages g h same scheduled)

-- what leaves each message as it is leaves all
pub unchanged_messages : (g : Scheduled → Scheduled) → ((t : Scheduled) → message_of (g t) ≡ message_of t)
    → (scheduled : List Scheduled) → map message_of (map g scheduled) ≡ map message_of scheduled
unchanged_messages g same [] = refl
unchanged_messages g same (t ∷ scheduled) =
    ap (λ m. m ∷ map message_of (map g scheduled)) (same t) ∙ ap (λ ms. message_of t ∷ ms)
    (unchanged_messages g same scheduled)

-- what is kept after a slot
abbrev pub kept_after : PlanState → Option (ℕ × ℕ) → PlanState
kept_after plan used = record { slot = plan.slot + 1; scheduled = map (after_slot plan.slot used) plan.scheduled }

-- a plan stays sound as a slot is played
pub IsSound-next : (plan : PlanState) (used : Option (ℕ × ℕ)) → plan.slot < 65535 → IsSound plan
    → IsSound (kept_after plan used)
IsSound-next plan used within sound = record {
  rising = rising-map (λ (t : Scheduled). t.item.entry) (after_slot plan.slot used) (λ t. refl) plan.scheduled
      sound.rising;
  fit = All-map (λ t. IsFit t (plan.slot + 1)) (after_slot plan.slot used) plan.scheduled
      (λ k d h. IsFit-after (get_or plan.scheduled k d) plan.slot used (sound.fit k d h));
  within = omega arith;
}

-- what a plan chooses is what the messages and the air have chosen
pub IsChosen-next : (plan : PlanState) (messages : List ScheduledMessage) (air : Air) (used : Option (ℕ × ℕ))
    → IsSound plan
    → IsChoice plan.scheduled plan.slot used → Follows plan messages air → IsChosen messages air plan.slot used
IsChosen-next plan messages air used sound choice follows =
    let Choice : ℕ → Type 0 = λ n. IsChoice plan.scheduled n used in
    let Fit : ℕ → Type 0 = λ n. All (λ t. IsFit t n) plan.scheduled in
    let Chosen : ℕ → Type 0 = λ n. IsChosen messages air n used in
    let ChosenOf : List ScheduledMessage → Type 0 = λ ms. IsChosen ms air (length air) used in
    subst Chosen (sym follows.asked) (subst ChosenOf follows.same_messages
    (IsChosen-from_choice plan.scheduled air used (subst Fit follows.asked sound.fit) follows.counted
    (subst Choice follows.asked choice)))

-- a plan follows the air by one more slot
pub Follows-next : (plan : PlanState) (messages : List ScheduledMessage) (air : Air) (used : Option (ℕ × ℕ))
    → IsSound plan
    → IsChoice plan.scheduled plan.slot used → Follows plan messages air
    → Follows (kept_after plan used) messages (air ++ used ∷ [])
Follows-next plan messages air used sound choice follows =
    let Fit : ℕ → Type 0 = λ n. All (λ t. IsFit t n) plan.scheduled in
    let Ready : ℕ → Type 0 = λ n. All (λ t. airs t.item.entry used ≡ true → is_ready t n ≡ true) plan.scheduled in
    let After : ℕ → Type 0 = λ n. All (λ t. Counts t (air ++ used ∷ [])) (map (after_slot n used) plan.scheduled) in
    let fit = subst Fit follows.asked sound.fit in
    let ready = subst Ready follows.asked (used_is_ready plan.scheduled plan.slot used sound.rising choice) in
    record {
      same_messages = unchanged_messages (after_slot plan.slot used) (λ t. refl) plan.scheduled ∙ follows.same_messages;
      asked = ap (λ n. n + 1) follows.asked ∙ sym (length_push air used);
      counted = subst After (sym follows.asked) (All-map (λ t. Counts t (air ++ used ∷ []))
          (after_slot (length air) used) plan.scheduled (λ k d h. Counts-after (get_or plan.scheduled k d) air used
          (fit k d h) (follows.counted k d h) (ready k d h)));
    }

-- what is kept of a message that was just added
abbrev pub scheduled_new : Item → Scheduled
scheduled_new item = record { item = item; stop = None; pages_aired = 0; completed = 0 }

-- a plan with one message more
abbrev pub kept_with : PlanState → Item → PlanState
kept_with plan item = record { slot = plan.slot; scheduled = plan.scheduled ++ scheduled_new item ∷ [] }

-- a plan stays sound as a message is added
pub IsSound-add : (plan : PlanState) (item : Item) → All (λ m. m.entry < item.entry) (messages_of plan)
    → plan.slot ≤ item.start → 0 < item.pages → 0 < item.period → IsSound plan → IsSound (kept_with plan item)
IsSound-add plan item above start pages period sound = record {
  rising = rising-push (λ (t : Scheduled). t.item.entry) plan.scheduled (scheduled_new item) sound.rising
      (numbers plan.scheduled item.entry above);
  fit = All-push (λ t. IsFit t plan.slot) plan.scheduled (scheduled_new item) sound.fit
      (record { some_pages = pages; some_period = period; few = omega arith });
  within = sound.within;
}
  where
    numbers : (scheduled : List Scheduled) (n : ℕ) → All (λ m. m.entry < n) (map message_of scheduled)
        → All (λ t. t.item.entry < n) scheduled
    numbers scheduled n h = λ k d within.
        let e = ap (λ (m : ScheduledMessage). m.entry) (get_or-map message_of scheduled k d (message_of d) within) in
        omega (arith, e, h k (message_of d) (omega (arith, length-map scheduled message_of, within)))

-- a plan follows the messages with one more
pub Follows-add : (plan : PlanState) (item : Item) (messages : List ScheduledMessage) (air : Air)
    → plan.slot ≤ item.start
    → 0 < item.pages → 0 < item.period → Follows plan messages air
    → Follows (kept_with plan item) (messages ++ message_from item ∷ []) air
Follows-add plan item messages air start pages period follows = record {
  same_messages = map_push message_of plan.scheduled (scheduled_new item)
      ∙ ap (λ ms. ms ++ message_from item ∷ []) follows.same_messages;
  asked = follows.asked;
  counted = All-push (λ t. Counts t air) plan.scheduled (scheduled_new item) follows.counted
      (Counts-new item air pages period (omega (arith, start, follows.asked)));
}

-- what is kept where a message is stopped
abbrev pub kept_stopped : PlanState → ℕ → ℕ → PlanState
kept_stopped plan entry slot = record {
  slot = plan.slot;
  scheduled = map (λ (t : Scheduled). scheduled_stopped (t.item.entry == entry) slot t) plan.scheduled;
}

-- a plan stays sound as a message is stopped
pub IsSound-stop : (plan : PlanState) (entry slot : ℕ) → IsSound plan → IsSound (kept_stopped plan entry slot)
IsSound-stop plan entry slot sound = record {
  rising = rising-map (λ (t : Scheduled). t.item.entry) (λ (t : Scheduled). scheduled_stopped (t.item.entry == entry)
      slot t)
      (λ t. refl) plan.scheduled sound.rising;
  fit = All-map (λ t. IsFit t plan.slot) (λ (t : Scheduled). scheduled_stopped (t.item.entry == entry) slot t)
      plan.scheduled
      (λ k d h. let f = sound.fit k d h in record {
        some_pages = f.some_pages;
        some_period = f.some_period;
        few = f.few;
      });
  within = sound.within;
}

-- the messages of a plan in which one is stopped are those with the stop
pub messages_of-stopped : (plan : PlanState) (entry slot : ℕ) → messages_of (kept_stopped plan entry slot) ≡ stopped_at
    entry slot (messages_of plan)
messages_of-stopped plan entry slot =
    same_messages (λ (t : Scheduled). scheduled_stopped (t.item.entry == entry) slot t)
    (λ (m : ScheduledMessage). stopped_if (m.entry == entry) slot m) (λ t. refl) plan.scheduled

-- a message that stands under its number is the only one under it
only_standing : (scheduled : List Scheduled) (entry : ℕ) → AllPairs (λ a b. a.item.entry < b.item.entry) scheduled
    → Any (λ m. (m.entry ≡ entry) × (m.stop ≡ None)) (map message_of scheduled)
    → All (λ t. t.item.entry ≡ entry → t.stop ≡ None) scheduled
only_standing scheduled entry rising standing = λ k d within. λ named.
    let i = standing.0 in
    let below = length-map scheduled message_of in
    let h : i < length scheduled = omega (arith, below, standing.2) in
    let is = sym (get_or-map message_of scheduled i d standing.1 h) ∙ standing.3 in
    let entry = ap (λ (m : ScheduledMessage). m.entry) is ∙ standing.4.0 in
    let place = rising-same (λ (t : Scheduled). t.item.entry) scheduled rising k i d within h (named ∙ sym entry) in
    ap (λ j. (get_or scheduled j d).stop) place ∙ (ap (λ (m : ScheduledMessage). m.stop) is ∙ standing.4.1)

-- a plan follows the messages with a stop at its slot
pub Follows-stop : (plan : PlanState) (entry slot : ℕ) (messages : List ScheduledMessage) (air : Air) → slot ≡ plan.slot
    → Any (λ m. (m.entry ≡ entry) × (m.stop ≡ None)) (messages_of plan) → IsSound plan → Follows plan messages air
    → Follows (kept_stopped plan entry slot) (stopped_at entry slot messages) air
Follows-stop plan entry slot messages air at standing sound follows =
    let Fit : ℕ → Type 0 = λ n. All (λ t. IsFit t n) plan.scheduled in
    let Stopped : ℕ → Type 0 = λ n. All (λ t. Counts t air) (map
    (λ (t : Scheduled). scheduled_stopped (t.item.entry == entry) n t) plan.scheduled) in
    let fit = subst Fit follows.asked sound.fit in
    let free = only_standing plan.scheduled entry sound.rising standing in
    record {
      same_messages = messages_of-stopped plan entry slot ∙ ap (stopped_at entry slot) follows.same_messages;
      asked = follows.asked;
      counted = subst Stopped (sym (at ∙ follows.asked)) (All-map (λ t. Counts t air)
          (λ (t : Scheduled). scheduled_stopped (t.item.entry == entry) (length air) t) plan.scheduled
          (λ k d h. Counts-stopped (get_or plan.scheduled k d) air ((get_or plan.scheduled k d).item.entry == entry)
          (fit k d h) (λ e. free k d h (eqb-true _ entry e)) (follows.counted k d h)));
    }

-- the completed number that is kept is that of the message
pub completed-kept : (plan : PlanState) (entry result : ℕ) (messages : List ScheduledMessage) (air : Air)
    → All (λ t. t.item.entry ≡ entry → result ≡ t.completed) plan.scheduled → Follows plan messages air
    → All (λ m. m.entry ≡ entry → result ≡ completed m air (length air)) messages
completed-kept plan entry result messages air found follows =
    let Told : List ScheduledMessage → Type 0 = λ ms. All (λ m. m.entry ≡ entry
    → result ≡ completed m air (length air)) ms in
    subst Told follows.same_messages (All-map (λ m. m.entry ≡ entry → result ≡ completed m air (length air)) message_of
    plan.scheduled (λ k d h. λ named. found k d h named ∙ (follows.counted k d h).completed))
