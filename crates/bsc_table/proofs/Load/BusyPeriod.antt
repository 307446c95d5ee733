-- The busy period before the due slot of a broadcast that lacks a page.
use Rattle.std.proofs.Common.{◌≡◌, ℕ, zero, suc, ◌+◌, ◌-◌, ◌≤◌, ◌<◌, ◌⊎◌, List, length, get_or, Option, Some, None, inl}
use Rattle.std.proofs.Common.{inr, refl, ap, subst, ◌∙◌, arith}
use Rattle.std.specs.List.{All, Any}
use Rattle.std.proofs.lemmas.Bool.{cases_lt}
use Rattle.scheduler.specs.Message.{ScheduledMessage, release, due}
use Rattle.scheduler.specs.Air.{Air, pages_aired, layer, next_page, IsPending, IsServedBy, IsChosen, IsAirOf}
use Rattle.scheduler.proofs.Air.{pages_aired-none}
use Rattle.bsc_table.specs.Guarantee.{IsUncut, AirsOneWithin, LackMeansABusyPeriod}
use Rattle.bsc_table.proofs.Load.Sums.{total-le}
use Rattle.bsc_table.proofs.Load.Broadcasts.{uses, pages_by_sums, before_stop-sooner, before_stop-up_to}

-- the slot airs a page of a broadcast that is due at `to` or sooner
abbrev AirsDue : List ScheduledMessage → Air → ℕ → ℕ → Type 0
AirsDue messages air to slot =
    Any (λ m. (j : ℕ) × IsPending m j air slot × (get_or air slot None ≡ Some (next_page m j air slot))
    × (due m j ≤ to)) messages

-- whatever is pending at the slot is due later
abbrev NoneDue : List ScheduledMessage → Air → ℕ → ℕ → Type 0
NoneDue messages air to slot = All (λ m. (j : ℕ) → IsPending m j air slot → to < due m j) messages

-- none of the messages is background
abbrev NoBackground : List ScheduledMessage → Type 0
NoBackground messages = All (λ m. layer m ≡ 0) messages

-- of such messages, what is served no later is due no later
due_no_later : (a b : ScheduledMessage) (i j : ℕ) → layer a ≡ 0 → layer b ≡ 0 → IsServedBy a i b j → due a i ≤ due b j
due_no_later a b i j one other h =
    elim h [
      | inl above ↦ absurd (omega (arith, one, other, above))
      | inr same ↦ elim same.1 [ inl sooner ↦ omega arith | inr tied ↦ omega (arith, tied.0) ]
    ]

-- a slot airs what is due by then, or nothing that is due by then is pending
chosen_due : (messages : List ScheduledMessage) (air : Air) (to slot : ℕ) (used : Option (ℕ × ℕ))
    → NoBackground messages
    → get_or air slot None ≡ used
    → IsChosen messages air slot used
    → AirsDue messages air to slot ⊎ NoneDue messages air to slot
chosen_due messages air to slot None alone same chosen =
    inr (λ k d within. λ j pending. absurd (chosen k d within j pending))
chosen_due messages air to slot (Some used) alone same chosen =
    let m = chosen.1 in
    let j = chosen.4.0 in
    let Alone : ScheduledMessage → Type 0 = λ o. layer o ≡ 0 in
    let its = subst Alone chosen.3 (alone chosen.0 m chosen.2) in
    elim (cases_lt to (due m j)) [
      | inl later ↦ inr (λ k d within. λ i pending.
          let no_later = due_no_later m (get_or messages k d) j i its (alone k d within)
          (chosen.4.1.first k d within i pending) in
          omega (arith, no_later, later))
      | inr by ↦ inl (chosen.0, m, chosen.2, chosen.3, (j, chosen.4.1.pending, same ∙ ap Some chosen.4.2, by))
    ]

-- from some slot on, no later than `at`, each slot airs what is due by then, and at the slot before nothing that is was
-- pending
record IsBusyFrom (messages : List ScheduledMessage) (air : Air) (at to from : ℕ) : Type 0 where
  early : from ≤ at
  busy : (slot : ℕ) → from ≤ slot → slot < to → AirsDue messages air to slot
  begins : (slot : ℕ) → from ≡ slot + 1 → NoneDue messages air to slot

busy_from : (messages : List ScheduledMessage) (air : Air) (to at : ℕ)
    → NoBackground messages
    → IsAirOf messages air
    → at ≤ to
    → to ≤ length air
    → ((slot : ℕ) → at ≤ slot → slot < to → AirsDue messages air to slot)
    → (from : ℕ) × IsBusyFrom messages air at to from
busy_from messages air to zero alone rule before within busy =
    (0, record { early = omega arith; busy = busy; begins = λ slot e. absurd (omega arith) })
busy_from messages air to (suc at) alone rule before within busy =
    elim (chosen_due messages air to at (get_or air at None) alone refl (rule at (omega arith))) [
      | inl due_by ↦
          let Aired : ℕ → Type 0 = λ s. AirsDue messages air to s in
          let more = busy_from messages air to at alone rule (omega arith) within
          (λ slot low high. elim (cases_lt at slot) [
            | inl later ↦ busy slot (omega arith) high
            | inr here ↦
                let same : at ≡ slot = omega arith in
                subst Aired same due_by
          ]) in
          (more.0, record { early = omega (arith, more.1.early); busy = more.1.busy; begins = more.1.begins })
      | inr none ↦
          let None_due : ℕ → Type 0 = λ s. NoneDue messages air to s in (
            suc at,
            record {
              early = omega arith;
              busy = busy;
              begins = λ slot e.
                  let same : at ≡ slot = omega arith in
                  subst None_due same none;
            },
          )
    ]

-- no more pages are aired by an earlier slot
pages_aired-sooner : (n : ℕ) (air : Air) (from s t : ℕ) → s ≤ t → t ≤ length air
    → pages_aired n air from s ≤ pages_aired n air from t
pages_aired-sooner n air from s t h within =
    elim (cases_lt s from) [
      | inl early ↦ omega (arith, pages_aired-none n air from s (omega arith))
      | inr after ↦
          let first = pages_by_sums n air from s after (omega arith) in
          let second = pages_by_sums n air from t (omega arith) within in
          let more = total-le (uses n air) s t h in
          omega arith
    ]

-- what is pending at a slot was pending since its release
pending_since : (m : ScheduledMessage) (j : ℕ) (air : Air) (s t : ℕ) → s ≤ t → t ≤ length air → release m j ≤ s
    → IsPending m j air t → IsPending m j air s
pending_since m j air s t h within released pending = record {
  requested = pending.requested;
  released = released;
  not_due = omega (arith, pending.not_due);
  standing = before_stop-sooner s t m.stop h pending.standing;
  unfinished = omega (arith, pending.unfinished, pages_aired-sooner m.entry air (release m j) s t h within);
}

-- an uncut broadcast that lacks a page by its due slot is pending at each slot up to it
pending_throughout : (m : ScheduledMessage) (j : ℕ) (air : Air) (t : ℕ) → IsUncut m j air
    → pages_aired m.entry air (release m j) (due m j) < m.pages → release m j ≤ t → t < due m j → IsPending m j air t
pending_throughout m j air t uncut lacks low high = record {
  requested = uncut.requested;
  released = low;
  not_due = high;
  standing = before_stop-up_to t (due m j) m.stop high uncut.standing;
  unfinished = omega (
    arith,
    lacks,
    pages_aired-sooner m.entry air (release m j) t (due m j) (omega arith)
        uncut.aired_by,
  );
}

-- a broadcast lacks a page only if others inside a range, and itself, used all slots of it
pub lack_means_a_busy_period : LackMeansABusyPeriod
lack_means_a_busy_period messages air alone rule = λ k d inside. λ j uncut lacks.
    let m = get_or messages k d in
    let to = due m j in
    let busy_after : (slot : ℕ) → release m j ≤ slot → slot < to → AirsDue messages air to slot = λ slot low high.
    (elim (chosen_due messages air to slot (get_or air slot None) alone refl
    (rule slot (omega (arith, uncut.aired_by)))) [
      | inl due_by ↦ due_by
      | inr none ↦ absurd (omega (arith, none k d inside j (pending_throughout m j air slot uncut lacks low high)))
    ]) in
    elim (cases_lt (release m j) to) [
      | inl ahead ↦
          let busy = busy_from messages air to (release m j) alone rule (omega arith) uncut.aired_by busy_after in (
            busy.0,
            busy.1.early,
            λ slot low high. within_since messages air to slot busy.0
                (omega (arith, uncut.aired_by)) low busy.1.begins (busy.1.busy slot low high),
          )
      | inr never ↦ (release m j, omega arith, λ slot low high. absurd (omega arith))
    ]
  where
    within_since : (messages : List ScheduledMessage) (air : Air) (to slot from : ℕ) → slot < length air → from ≤ slot
        → ((s : ℕ) → from ≡ s + 1 → NoneDue messages air to s) → AirsDue messages air to slot
        → AirsOneWithin messages air from to slot
    within_since messages air to slot from within low before airs =
        let m = airs.1 in
        let j = airs.4.0 in (
          airs.0,
          m,
          airs.2,
          airs.3,
          (
            j,
            airs.4.1,
            airs.4.2,
            elim (cases_lt (release m j) from) [
              | inr after ↦ after
              | inl sooner ↦
                  let at : from ≡ (from - 1) + 1 = omega arith in
                  let pending = pending_since m j air (from - 1) slot (omega arith) (omega arith) (omega arith)
                  airs.4.1 in
                  let Later : ScheduledMessage → Type 0 = λ o. (i : ℕ) → IsPending o i air (from - 1) → to < due o i in
                  let later = subst Later airs.3 (before (from - 1) at airs.0 m airs.2) j pending in
                  absurd (omega (arith, later, airs.4.3))
            ],
            airs.4.3,
          ),
        )
