-- Lemmas on air lists, and on the broadcast in whose time a slot lies.
use Rattle.std.proofs.Common.{◌≡◌, ◌≢◌, ℕ, ◌+◌, ◌-◌, ◌*◌, ◌%◌, ◌≤◌, ◌<◌, ◌⊎◌, cond, [], ◌∷◌, ◌++◌, length, take, drop}
use Rattle.std.proofs.Common.{count_by, Option, inl, inr, sym, ap, ◌∙◌, arith}
use Rattle.std.proofs.lemmas.List.{drop-append-le, take-append-le, take_all, length-append, length-drop, length-take}
use Rattle.std.proofs.lemmas.List.Sums.{sum_by_push, count_by-le-length}
use Rattle.std.proofs.lemmas.Bool.{cases_lt}
use Rattle.std.proofs.Math.Nat.{lt_of_mul-lt-mul_right}
use Rattle.scheduler.specs.Message.{ScheduledMessage, release, due}
use Rattle.scheduler.specs.Air.{Air, airs, pages_aired}
use Rattle.scheduler.specs.Message.{broadcast_at}

-- no page is aired in no slot
pub pages_aired-none : (n : ℕ) (air : Air) (from to : ℕ) → to ≤ from → pages_aired n air from to ≡ 0
pages_aired-none n air from to h =
    let nothing : to - from ≡ 0 = omega arith in
    ap (λ k. count_by (airs n) (take k (drop from air))) nothing

-- no more pages are aired than there are slots
pub pages_aired-le : (n : ℕ) (air : Air) (from to : ℕ) → pages_aired n air from to ≤ to - from
pages_aired-le n air from to =
    omega (
      arith,
      count_by-le-length (airs n) (take (to - from) (drop from air)),
      length-take (to - from)
          (drop from air),
    )

-- what is aired later changes nothing before
pub pages_aired-append : (n : ℕ) (air more : Air) (from to : ℕ) → to ≤ length air
    → pages_aired n (air ++ more) from to ≡ pages_aired n air from to
pages_aired-append n air more from to h =
    elim (cases_lt from to) [
      | inl before ↦
          let cut = drop-append-le from air more (omega arith) in
          let long = length-drop from air in
          let front = take-append-le (to - from) (drop from air) more (omega arith) in
          ap (λ xs. count_by (airs n) (take (to - from) xs)) cut ∙ ap (count_by (airs n)) front
      | inr none ↦ pages_aired-none n (air ++ more) from to none ∙ sym (pages_aired-none n air from to none)
    ]

-- the slot after the list adds its own
pub pages_aired-push : (n : ℕ) (air : Air) (used : Option (ℕ × ℕ)) (from : ℕ) → from ≤ length air
    → pages_aired n (air ++ used ∷ []) from (length air + 1) ≡ pages_aired n air from (length air) + cond (airs n used)
    1 0
pages_aired-push n air used from h =
    let cut = drop-append-le from air (used ∷ []) h in
    let long = length-drop from air in
    let longer = length-append (drop from air) (used ∷ []) in
    let whole = take_all (length air + 1 - from) (drop from air ++ used ∷ []) (omega arith) in
    let before = take_all (length air - from) (drop from air) (omega arith) in
    let counted = sum_by_push (λ x. cond (airs n x) 1 0) (drop from air) used in
    ap (λ xs. count_by (airs n) (take (length air + 1 - from) xs)) cut
    ∙ (ap (count_by (airs n)) whole ∙ (counted ∙ ap (λ xs. count_by (airs n) xs + cond (airs n used) 1 0)
    (sym before)))

-- the broadcast in whose time a slot lies was released by then, and is not due
pub broadcast_at-released : (m : ScheduledMessage) (slot : ℕ) → 0 < m.period → m.start ≤ slot
    → release m (broadcast_at m slot) ≤ slot
broadcast_at-released m slot h started = omega arith

-- the broadcast in whose time a slot lies isn't due yet
pub broadcast_at-not_due : (m : ScheduledMessage) (slot : ℕ) → 0 < m.period → m.start ≤ slot
    → slot < due m (broadcast_at m slot)
broadcast_at-not_due m slot h started = omega arith

-- and no other is
pub broadcast_at-only : (m : ScheduledMessage) (slot j : ℕ) → 0 < m.period → m.start ≤ slot → release m j ≤ slot
    → slot < due m j → j ≡ broadcast_at m slot
broadcast_at-only m slot j h started released not_due =
    let mine = broadcast_at-released m slot h started in
    let yours = broadcast_at-not_due m slot h started in
    let low : j * m.period < (broadcast_at m slot + 1) * m.period = omega arith in
    let high : broadcast_at m slot * m.period < (j + 1) * m.period = omega arith in
    let below = lt_of_mul-lt-mul_right m.period low in
    let above = lt_of_mul-lt-mul_right m.period high in
    omega arith

-- a broadcast other than that is due by the slot, or released after it
pub other_broadcast : (m : ScheduledMessage) (slot j : ℕ) → 0 < m.period → m.start ≤ slot → j ≢ broadcast_at m slot
    → (due m j ≤ slot) ⊎ (slot < release m j)
other_broadcast m slot j h started other =
    elim (cases_lt slot (release m j)) [
      | inl later ↦ inr later
      | inr released ↦ elim (cases_lt slot (due m j)) [
        | inl not_due ↦ absurd (other (broadcast_at-only m slot j h started released not_due))
        | inr due_by ↦ inl due_by
      ]
    ]

-- where a whole number of periods is over at the next slot, the next broadcast is released there; else the same goes on
pub next_release : (m : ScheduledMessage) (slot : ℕ) → 0 < m.period → m.start ≤ slot
    → (slot + 1 - m.start) % m.period ≡ 0
    → release m (broadcast_at m (slot + 1)) ≡ slot + 1
next_release m slot h started over = omega arith

-- the next slot lies in the time of the same broadcast, unless a period ends
pub same_broadcast : (m : ScheduledMessage) (slot : ℕ) → 0 < m.period → m.start ≤ slot
    → (slot + 1 - m.start) % m.period ≢ 0
    → broadcast_at m (slot + 1) ≡ broadcast_at m slot
same_broadcast m slot h started goes_on =
    let released : release m (broadcast_at m (slot + 1)) ≤ slot = omega arith in
    let not_due : slot < due m (broadcast_at m (slot + 1)) = omega arith in
    broadcast_at-only m slot (broadcast_at m (slot + 1)) h started released not_due
