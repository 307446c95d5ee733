-- What is kept of a message stays true to the air list.
use Rattle.std.proofs.Common.{◌≡◌, ℕ, ◌+◌, ◌-◌, ◌%◌, ◌≤◌, ◌<◌, Bool, true, false, ◌&&◌, leb, ltb, eqb, [], ◌∷◌, ◌++◌}
use Rattle.std.proofs.Common.{length, Option, None, inl, inr, refl, sym, ap, subst, ◌∙◌, arith}
use Rattle.std.proofs.lemmas.List.{length_push}
use Rattle.std.proofs.lemmas.Bool.{cases_eq, cases_lt, cases_Bool, leb-true, ltb-true, eq-eqb, ne_eqb, and_parts}
use Rattle.scheduler.specs.declared.plan.Item.{Item}
use Rattle.scheduler.specs.declared.scheduled.Scheduled.{Scheduled}
use Rattle.scheduler.specs.Message.{release, has_broadcast, is_before_stop}
use Rattle.scheduler.specs.Air.{Air, airs, pages_aired}
use Rattle.scheduler.specs.Completed.{completed, is_completed}
use Rattle.scheduler.specs.Message.{broadcast_at}
use Rattle.scheduler.specs.Follows.{message_of, message_from, Counts}
use Rattle.scheduler.specs.PlanSteps.{IsFit, is_ready, after_slot, scheduled_stopped}
use Rattle.scheduler.proofs.Air.{pages_aired-none, pages_aired-push, broadcast_at-released, next_release}
use Rattle.scheduler.proofs.Air.{same_broadcast}
use Rattle.scheduler.proofs.Lists.{count_below_none}
use Rattle.scheduler.proofs.Completed.{is_completed-unreleased, completed-push, completed-stopped, one_if, one_if-le}

-- the pages of the broadcast under way, after the slot
aired_after : (t : Scheduled) (air : Air) (used : Option (ℕ × ℕ)) → IsFit t (length air) → Counts t air
    → (after_slot (length air) used t).pages_aired ≡ pages_aired t.item.entry (air ++ used ∷ [])
    (release (message_of t) (broadcast_at (message_of t) (length air + 1))) (length air + 1)
aired_after t air used fit counts =
    let m = message_of t in
    let slot = length air in
    elim (cases_lt slot m.start) [
      | inl early ↦
          let over : (slot + 1 - m.start) % m.period ≡ 0 = nothing_over (slot + 1 - m.start) m.period fit.some_period
          (omega arith) in
          let none = pages_aired-none m.entry (air ++ used ∷ []) (release m (broadcast_at m (slot + 1))) (slot + 1)
          (omega arith) in
          rw (eq-eqb _ 0 over) (sym none)
      | inr started ↦ elim (cases_eq ((slot + 1 - m.start) % m.period) 0) [
        | inl over ↦
            let at_end = next_release m slot fit.some_period started over in
            let none = pages_aired-none m.entry (air ++ used ∷ []) (release m (broadcast_at m (slot + 1))) (slot + 1)
            (omega arith) in
            rw (eq-eqb _ 0 over) (sym none)
        | inr goes_on ↦
            let released = broadcast_at-released m slot fit.some_period started in
            let same = same_broadcast m slot fit.some_period started goes_on in
            let pushed = pages_aired-push m.entry air used (release m (broadcast_at m slot)) released in
            rw (ne_eqb _ 0 goes_on, same) (ap (λ n. n + one_if (airs m.entry used)) counts.aired ∙ sym pushed)
      ]
    ]
  where
    nothing_over : (n period : ℕ) → 0 < period → n ≡ 0 → n % period ≡ 0
    nothing_over n period some none = omega arith

-- what it means that a message is ready
pub is_ready-parts : (t : Scheduled) (slot : ℕ) → is_ready t slot ≡ true
    → (has_broadcast (message_of t) (broadcast_at (message_of t) slot) ≡ true) × (is_before_stop slot t.stop ≡ true)
    × (t.pages_aired < t.item.pages)
is_ready-parts t slot ready =
    let begun = and_parts (leb t.item.start slot) (has_broadcast (message_of t) (broadcast_at (message_of t) slot) &&
    (is_before_stop slot t.stop && ltb t.pages_aired t.item.pages)) ready in
    let first = and_parts (has_broadcast (message_of t) (broadcast_at (message_of t) slot))
    (is_before_stop slot t.stop && ltb t.pages_aired t.item.pages) begun.1 in
    let second = and_parts (is_before_stop slot t.stop) (ltb t.pages_aired t.item.pages) first.1 in
    (first.0, second.0, ltb-true t.pages_aired t.item.pages second.1)

-- a message that is ready has started
pub is_ready-started : (t : Scheduled) (slot : ℕ) → is_ready t slot ≡ true → t.item.start ≤ slot
is_ready-started t slot ready =
    leb-true t.item.start slot (and_parts (leb t.item.start slot)
    (has_broadcast (message_of t) (broadcast_at (message_of t) slot) &&
    (is_before_stop slot t.stop && ltb t.pages_aired t.item.pages)) ready).0

-- before a message's start none of its broadcasts is completed
none_whole : (t : Scheduled) (air : Air) (slot : ℕ) → 0 < t.item.pages → slot ≤ t.item.start
    → completed (message_of t) air slot ≡ 0
none_whole t air slot pages early =
    count_below_none (is_completed (message_of t) air slot) (slot + 1)
    (λ j h. is_completed-unreleased (message_of t) air slot j pages (omega arith))

-- the completed broadcasts, after the slot
completed_after : (t : Scheduled) (air : Air) (used : Option (ℕ × ℕ)) → IsFit t (length air) → Counts t air
    → (airs t.item.entry used ≡ true → is_ready t (length air) ≡ true)
    → (after_slot (length air) used t).completed ≡ completed (message_of t) (air ++ used ∷ []) (length air + 1)
completed_after t air used fit counts ready =
    let m = message_of t in
    elim (cases_lt (length air) m.start) [
      | inl early ↦
          let now = none_whole t air (length air) fit.some_pages (omega arith) in
          let then = none_whole t (air ++ used ∷ []) (length air + 1) fit.some_pages (omega arith) in
          elim (cases_Bool (airs t.item.entry used)) [
            | inl named ↦ absurd (let started = is_ready-started t (length air) (ready named) in omega arith)
            | inr other ↦
                let none : one_if (airs t.item.entry used && eqb (t.pages_aired + one_if (airs t.item.entry used))
                t.item.pages) ≡ 0 = ap (λ (b : Bool). one_if (b && eqb (t.pages_aired + one_if b) t.item.pages)) other
                in
                omega (arith, none, now, then, counts.completed)
          ]
      | inr started ↦
          let pushed = completed-push m air used fit.some_pages fit.some_period started
          (λ u. let parts = is_ready-parts t (length air) (ready u) in
          (parts.0, parts.1, rw (← counts.aired) parts.2)) in
          let same_pages = ap (λ n. one_if (airs m.entry used && eqb (n + one_if (airs m.entry used)) m.pages))
          counts.aired in
          omega (arith, pushed, same_pages, counts.completed)
    ]

-- what is kept of a message counts the air list with the slot after it
pub Counts-after : (t : Scheduled) (air : Air) (used : Option (ℕ × ℕ)) → IsFit t (length air) → Counts t air
    → (airs t.item.entry used ≡ true → is_ready t (length air) ≡ true)
    → Counts (after_slot (length air) used t) (air ++ used ∷ [])
Counts-after t air used fit counts ready =
    let m = message_of t in
    let slot = length air in
    let long = length_push air used in
    let P : ℕ → Type 0 = λ n. (after_slot slot used t).pages_aired ≡ pages_aired m.entry (air ++ used ∷ [])
    (release m (broadcast_at m n)) n in
    let Q : ℕ → Type 0 = λ n. (after_slot slot used t).completed ≡ completed m (air ++ used ∷ []) n in
    record {
      aired = subst P (sym long) (aired_after t air used fit counts);
      completed = subst Q (sym long) (completed_after t air used fit counts ready);
    }

-- what a new message keeps counts the air list up to its start
pub Counts-new : (item : Item) (air : Air) → 0 < item.pages → 0 < item.period → length air ≤ item.start
    → Counts (record { item = item; stop = None; pages_aired = 0; completed = 0 }) air
Counts-new item air pages period started =
    let m = message_from item in
    record {
      aired = sym (pages_aired-none m.entry air (release m (broadcast_at m (length air))) (length air) (omega arith));
      completed = sym (count_below_none (is_completed m air (length air)) (length air + 1)
          (λ j h. is_completed-unreleased m air (length air) j pages (omega arith)));
    }

-- what is kept of a message stays true where it, or another, is stopped
pub Counts-stopped : (t : Scheduled) (air : Air) (says : Bool) → IsFit t (length air) → (says ≡ true → t.stop ≡ None)
    → Counts t air → Counts (scheduled_stopped says (length air) t) air
Counts-stopped t air false fit free counts = counts
Counts-stopped t air true fit free counts =
    record {
      aired = counts.aired;
      completed = counts.completed ∙ sym (completed-stopped (message_of t) air (length air) fit.some_pages (free refl));
    }

-- a message that fits its slot fits the next one
pub IsFit-after : (t : Scheduled) (slot : ℕ) (used : Option (ℕ × ℕ)) → IsFit t slot
    → IsFit (after_slot slot used t) (slot + 1)
IsFit-after t slot used fit =
    let one = one_if-le (airs t.item.entry used && eqb (t.pages_aired + one_if (airs t.item.entry used)) t.item.pages)
    in
    record {
      some_pages = fit.some_pages;
      some_period = fit.some_period;
      few = omega (arith, fit.few, one);
    }
