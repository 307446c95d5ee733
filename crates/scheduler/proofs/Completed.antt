-- Lemmas on completed broadcasts and their number.
use Rattle.std.proofs.Common.{◌≡◌, ◌≢◌, ℕ, suc, ◌+◌, ◌≤◌, ◌<◌, min, Bool, true, false, ◌&&◌, cond, leb, ltb, eqb, []}
use Rattle.std.proofs.Common.{◌∷◌, ◌++◌, length, count_by, Option, Some, None, inl, inr, refl, sym, ap, ◌∙◌, arith}
use Rattle.std.specs.List.{range_with_len}
use Rattle.std.proofs.lemmas.Bool.{cases_lt, cases_eq, le-leb, lt-leb, ltb-true, lt-ltb, le-ltb, eq-eqb, ne_eqb}
use Rattle.std.proofs.lemmas.Bool.{and_left, and_right}
use Rattle.std.proofs.Math.Nat.{le-mul_of_pos_right}
use Rattle.scheduler.specs.Message.{ScheduledMessage, release, due, has_broadcast, is_before_stop}
use Rattle.scheduler.specs.Air.{Air, airs, pages_aired}
use Rattle.scheduler.specs.Completed.{completed, is_completed}
use Rattle.scheduler.specs.Message.{broadcast_at}
use Rattle.scheduler.proofs.Air.{pages_aired-none, pages_aired-append, pages_aired-push, broadcast_at-released}
use Rattle.scheduler.proofs.Air.{broadcast_at-not_due, other_broadcast}
use Rattle.scheduler.proofs.Lists.{count_below_more, count_below_same, count_below_but_one}

-- a broadcast that is released no earlier than the slot is not whole before it
pub is_completed-unreleased : (m : ScheduledMessage) (air : Air) (slot j : ℕ) → 0 < m.pages → slot ≤ release m j
    → is_completed m air slot j ≡ false
is_completed-unreleased m air slot j some h =
    let none = pages_aired-none m.entry air (release m j) (min (due m j) slot) (omega arith) in
    let few : leb m.pages (pages_aired m.entry air (release m j) (min (due m j) slot)) ≡ false = lt-leb _ _
    (omega arith) in
    and_right (has_broadcast m j) _ (and_right (is_before_stop (release m j) m.stop) _ few)

-- the slot after the air list changes nothing of a broadcast that is due by then
is_completed-due : (m : ScheduledMessage) (air : Air) (used : Option (ℕ × ℕ)) (j : ℕ) → due m j ≤ length air
    → is_completed m (air ++ used ∷ []) (length air + 1) j ≡ is_completed m air (length air) j
is_completed-due m air used j h =
    let now : min (due m j) (length air + 1) ≡ due m j = omega arith in
    let before : min (due m j) (length air) ≡ due m j = omega arith in
    let same : pages_aired m.entry (air ++ used ∷ []) (release m j) (min (due m j) (length air + 1)) ≡ pages_aired
    m.entry air (release m j) (min (due m j) (length air)) =
    ap (λ to. pages_aired m.entry (air ++ used ∷ []) (release m j) to) now
    ∙ (pages_aired-append m.entry air (used ∷ []) (release m j) (due m j) h
    ∙ ap (λ to. pages_aired m.entry air (release m j) to) (sym before)) in
    ap (λ n. has_broadcast m j && (is_before_stop (release m j) m.stop && leb m.pages n)) same

-- nor of one that is not the one under way
is_completed-other : (m : ScheduledMessage) (air : Air) (used : Option (ℕ × ℕ)) (j : ℕ) → 0 < m.pages → 0 < m.period
    → m.start ≤ length air → j ≢ broadcast_at m (length air) → is_completed m (air ++ used ∷ []) (length air + 1) j ≡
    is_completed m air (length air) j
is_completed-other m air used j pages period started other =
    elim (other_broadcast m (length air) j period started other) [
      | inl due_by ↦ is_completed-due m air used j due_by
      | inr later ↦ is_completed-unreleased m (air ++ used ∷ []) (length air + 1) j pages (omega arith)
          ∙ sym (is_completed-unreleased m air (length air) j pages (omega arith))
    ]

-- the broadcast under way, before the slot and after it
is_completed-now : (m : ScheduledMessage) (air : Air) → 0 < m.period → m.start ≤ length air
    → is_completed m air (length air) (broadcast_at m (length air)) ≡
    (has_broadcast m (broadcast_at m (length air)) && (is_before_stop (release m (broadcast_at m (length air))) m.stop
    && leb m.pages (pages_aired m.entry air (release m (broadcast_at m (length air))) (length air))))
is_completed-now m air period started =
    let j = broadcast_at m (length air) in
    let not_due = broadcast_at-not_due m (length air) period started in
    let upto : min (due m j) (length air) ≡ length air = omega arith in
    ap (λ to. has_broadcast m j && (is_before_stop (release m j) m.stop && leb m.pages
    (pages_aired m.entry air (release m j) to))) upto

is_completed-then : (m : ScheduledMessage) (air : Air) (used : Option (ℕ × ℕ)) → 0 < m.period → m.start ≤ length air
    → is_completed m (air ++ used ∷ []) (length air + 1) (broadcast_at m (length air)) ≡
    (has_broadcast m (broadcast_at m (length air)) && (is_before_stop (release m (broadcast_at m (length air))) m.stop
    && leb m.pages (pages_aired m.entry air (release m (broadcast_at m (length air))) (length air) + cond
    (airs m.entry used) 1 0)))
is_completed-then m air used period started =
    let j = broadcast_at m (length air) in
    let not_due = broadcast_at-not_due m (length air) period started in
    let released = broadcast_at-released m (length air) period started in
    let upto : min (due m j) (length air + 1) ≡ length air + 1 = omega arith in
    ap (λ to. has_broadcast m j && (is_before_stop (release m j) m.stop && leb m.pages
    (pages_aired m.entry (air ++ used ∷ []) (release m j) to))) upto
    ∙ ap (λ n. has_broadcast m j && (is_before_stop (release m j) m.stop && leb m.pages n))
    (pages_aired-push m.entry air used (release m j) released)

-- an earlier slot comes before the stop too
is_before_stop-earlier : (slot at : ℕ) (stop : Option ℕ) → slot ≤ at → is_before_stop at stop ≡ true
    → is_before_stop slot stop ≡ true
is_before_stop-earlier slot at None le h = refl
is_before_stop-earlier slot at (Some stop) le h = lt-ltb slot stop (omega (arith, ltb-true at stop h))

-- one where the test passed
abbrev pub one_if : Bool → ℕ
one_if b = cond b 1 0

-- a truth counts as one at most
pub one_if-le : (b : Bool) → one_if b ≤ 1
one_if-le true = omega arith
one_if-le false = omega arith

-- one page more is all pages exactly where it is the last
last_page : (aired pages : ℕ) → aired < pages → one_if (leb pages (aired + 1)) ≡ one_if (eqb (aired + 1) pages)
last_page aired pages h =
    elim (cases_eq (aired + 1) pages) [
      | inl last ↦ ap one_if (le-leb pages (aired + 1) (omega arith) ∙ sym (eq-eqb (aired + 1) pages last))
      | inr not ↦ ap one_if (lt-leb pages (aired + 1) (omega (arith, not)) ∙ sym (ne_eqb (aired + 1) pages not))
    ]

-- of the tests for the broadcast under way, one that has a use more differs exactly where the use was the last
one_more_use : (has before used : Bool) (aired pages : ℕ) → (used ≡ true → (has ≡ true) × (before ≡ true)
    × (aired < pages)) → cond (has && (before && leb pages (aired + cond used 1 0))) 1 0 ≡ cond
    (has && (before && leb pages aired)) 1 0 + cond (used && eqb (aired + cond used 1 0) pages) 1 0
one_more_use has before false aired pages ready =
    let same : aired + 0 ≡ aired = omega arith in
    let alike = ap (λ n. one_if (has && (before && leb pages n))) same in
    omega arith
one_more_use has before true aired pages ready =
    let known = ready refl in
    let stand = ap (λ (b : Bool). one_if (b && (before && leb pages (aired + 1)))) known.0
    ∙ ap (λ (b : Bool). one_if (b && leb pages (aired + 1))) known.1 in
    let stood = ap (λ (b : Bool). one_if (b && (before && leb pages aired))) known.0
    ∙ ap (λ (b : Bool). one_if (b && leb pages aired)) known.1 in
    let few = ap (λ (b : Bool). one_if b) (lt-leb pages aired known.2) in
    let last = last_page aired pages known.2 in
    omega arith

-- how many pages of the broadcast under way are aired so far
abbrev pub so_far : ScheduledMessage → Air → ℕ
so_far m air = pages_aired m.entry air (release m (broadcast_at m (length air))) (length air)

-- the slot after the air list adds a completed broadcast exactly where it airs the last page of one
pub completed-push : (m : ScheduledMessage) (air : Air) (used : Option (ℕ × ℕ)) → 0 < m.pages → 0 < m.period
    → m.start ≤ length air → (airs m.entry used ≡ true → (has_broadcast m (broadcast_at m (length air)) ≡ true)
    × (is_before_stop (length air) m.stop ≡ true) × (so_far m air < m.pages))
    → completed m (air ++ used ∷ []) (length air + 1) ≡ completed m air (length air) + cond
    (airs m.entry used && eqb (so_far m air + cond (airs m.entry used) 1 0) m.pages) 1 0
completed-push m air used pages period started ready =
    let slot = length air in
    let j = broadcast_at m slot in
    let after : ℕ → Bool = is_completed m (air ++ used ∷ []) (slot + 1) in
    let before : ℕ → Bool = is_completed m air slot in
    let released = broadcast_at-released m slot period started in
    let grows = le-mul_of_pos_right j period in
    let last_grows = le-mul_of_pos_right (slot + 1) period in
    let upto : slot + 1 + 1 ≡ suc (slot + 1) = omega arith in
    let top : completed m (air ++ used ∷ []) (slot + 1) ≡ count_by after (range_with_len 0 (slot + 1)) + one_if
    (after (slot + 1)) =
    ap (λ n. count_by after (range_with_len 0 n)) upto ∙ count_below_more after (slot + 1) in
    let none = ap one_if (is_completed-unreleased m (air ++ used ∷ []) (slot + 1) (slot + 1) pages (omega arith)) in
    let but_one = count_below_but_one after before j (slot + 1) (omega arith)
    (λ i h. λ other. is_completed-other m air used i pages period started other) in
    let now = ap one_if (is_completed-now m air period started) in
    let then = ap one_if (is_completed-then m air used period started) in
    let more = one_more_use (has_broadcast m j) (is_before_stop (release m j) m.stop) (airs m.entry used)
    (so_far m air) m.pages (λ u. (
      (ready u).0,
      is_before_stop-earlier (release m j) slot m.stop released
          (ready u).1,
      (ready u).2,
    )) in
    omega (arith, top, none, but_one, now, then, more)

-- a stop at the slot leaves the broadcasts that are completed before it whole
is_completed-stopped : (m : ScheduledMessage) (air : Air) (slot j : ℕ) → 0 < m.pages → m.stop ≡ None
    → is_completed (record m { stop = Some slot }) air slot j ≡ is_completed m air slot j
is_completed-stopped m air slot j pages free =
    let counted = pages_aired m.entry air (release m j) (min (due m j) slot) in
    let standing : is_before_stop (release m j) m.stop ≡ true = ap (is_before_stop (release m j)) free in
    let before = ap (λ (b : Bool). b && leb m.pages counted) standing in
    elim (cases_lt (release m j) slot) [
      | inl earlier ↦ ap (λ (b : Bool). has_broadcast m j && (b && leb m.pages counted))
          (lt-ltb (release m j) slot earlier) ∙ sym (ap (λ (b : Bool). has_broadcast m j && b) before)
      | inr later ↦
          let whole = is_completed-unreleased m air slot j pages later in
          and_right (has_broadcast m j) (ltb (release m j) slot && leb m.pages counted)
          (and_left (ltb (release m j) slot) (leb m.pages counted) (le-ltb (release m j) slot later)) ∙ sym whole
    ]

-- a stop doesn't change how many broadcasts were complete by its slot
pub completed-stopped : (m : ScheduledMessage) (air : Air) (slot : ℕ) → 0 < m.pages → m.stop ≡ None
    → completed (record m { stop = Some slot }) air slot ≡ completed m air slot
completed-stopped m air slot pages free =
    count_below_same (is_completed (record m { stop = Some slot }) air slot) (is_completed m air slot) (slot + 1)
    (λ j h. is_completed-stopped m air slot j pages free)
