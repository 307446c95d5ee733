-- The first slot after which a broadcast of a message is completed is the first after which a phone shows it.
use Rattle.std.proofs.Common.{◌≡◌, ◌∙◌, ℕ, zero, suc, ◌+◌, ◌<◌, ◌≤◌, Bool, true, false, cond, Option, Some, None}
use Rattle.std.proofs.Common.{◌↔◌, find, get_or, inl, inr, length, refl, rules, subst, sym}
use native.Mathlib.Omega.{arith}
use Rattle.std.specs.Prelude.{MatchOption, nat_le}
use Rattle.std.specs.List.{range_with_len}
use Rattle.std.proofs.lemmas.Bool.{cases_eq, le-leb, leb-true}
use Rattle.bsc_table.specs.Legal.{IsLegal}
use Rattle.bsc_table.specs.Record.{Accepted, Record, accepted_in}
use Rattle.composition.specs.Composition.{CompletedIsWholeInBlocks}
use Rattle.composition.specs.Meaning.{AcceptedAreMeant, IsMeant}
use Rattle.report.specs.Rows.{first_shown}
use Rattle.scheduler.specs.Completed.{completed}
use Rattle.warnc_run.specs.FirstShown.{FirstShownIsThePhones, IsShownAfter, IsShownFirst}

-- what was found among the numbers from one on is the first that passes, or none does
abbrev FirstOf : (test : ℕ → Bool) (from len : ℕ) → Option ℕ → Type 0
FirstOf test from len None = (j : ℕ) → from ≤ j → j < from + len → test j ≡ false
FirstOf test from len (Some s) =
    (from ≤ s) × (s < from + len) × (test s ≡ true) × ((j : ℕ) → from ≤ j → j < s → test j ≡ false)

first-of : (test : ℕ → Bool) (len from : ℕ) → FirstOf test from len (find test (range_with_len from len))
first-of test zero from = λ j above below. absurd (omega (arith, above, below))
first-of test (suc len) from = by_test (test from) refl (first-of test len (from + 1))
  where
    not_yet : (j : ℕ) → test from ≡ false → from ≤ j → (from + 1 ≤ j → test j ≡ false) → test j ≡ false
    not_yet j is above later = elim (cases_eq j from) [
      | inl same ↦ subst (λ (n : ℕ). test n ≡ false) (sym same) is
      | inr other ↦ later (omega (arith, above, other))
    ]

    none_here : (found : Option ℕ) → test from ≡ false → FirstOf test (from + 1) len found
        → FirstOf test from (suc len) found
    none_here None is rest = λ j above below. not_yet j is above (λ after. rest j after (omega (arith, below)))
    none_here (Some s) is rest = (
      omega (arith, rest.0),
      omega (arith, rest.1),
      rest.2,
      λ j above below. not_yet j is above (λ after. rest.3 j after below),
    )

    by_test : (says : Bool) → test from ≡ says → FirstOf test (from + 1) len (find test (range_with_len (from + 1) len))
        → FirstOf test from (suc len) (cond says (Some from) (find test (range_with_len (from + 1) len)))
    by_test true is rest =
        (omega arith, omega arith, is, λ j above below. absurd (omega (arith, above, below)))
    by_test false is rest = none_here (find test (range_with_len (from + 1) len)) is rest

-- whether a broadcast of a message is completed before the slot after one
abbrev is_completed_after : Record → Accepted → ℕ → Bool
is_completed_after r a slot = nat_le 1 (completed a.message r.air (slot + 1))

-- it is exactly if a phone shows the message after that slot
abbrev IsCompletedWhereShown : Record → Accepted → Type 0
IsCompletedWhereShown r a =
    (slot : ℕ) → slot < r.slots → (1 ≤ completed a.message r.air (slot + 1)) ↔ IsShownAfter r a slot

shows : AcceptedAreMeant → CompletedIsWholeInBlocks → (r : Record) → IsLegal r → r.clock ≡ r.slots → (k : ℕ)
    (d : Accepted) → k < length (accepted_in r.log) → IsCompletedWhereShown r (get_or (accepted_in r.log) k d)
shows meant whole r legal over k d within slot played =
    let played_all : slot + 1 ≤ r.clock = omega (arith, over, played) in
    let m : IsMeant r (slot + 1) (get_or (accepted_in r.log) k d) = meant r (slot + 1) legal played_all k d within in
    let same : m.count ≡ completed (get_or (accepted_in r.log) k d).message r.air (slot + 1) =
    sym m.read ∙ whole r legal k d within (slot + 1) played_all in (
      λ some. m.shown.0 (omega (arith, some, same)),
      λ there. let some : 1 ≤ m.count = m.shown.1 there in omega (arith, some, same),
    )

-- where none is completed no phone shows it
not_shown : (r : Record) (a : Accepted) → IsCompletedWhereShown r a → (slot : ℕ) → slot < r.slots
    → is_completed_after r a slot ≡ false → IsShownAfter r a slot → ⊥
not_shown r a are slot played is there =
    let yes : is_completed_after r a slot ≡ true =
    le-leb 1 (completed a.message r.air (slot + 1)) ((are slot played).1 there) in
    search (rules, is, yes)

by_found : (r : Record) (a : Accepted) → IsCompletedWhereShown r a → (found : Option ℕ)
    → FirstOf (is_completed_after r a) 0 r.slots found
    → MatchOption found ((slot : ℕ) → slot < r.slots → IsShownAfter r a slot → ⊥) (IsShownFirst r a)
by_found r a are None first =
    λ slot played. not_shown r a are slot played (first slot (omega arith) (omega (arith, played)))
by_found r a are (Some slot) first =
    let played : slot < r.slots = omega (arith, first.1) in record {
      within = played;
      shown = (are slot played).0 (leb-true 1 (completed a.message r.air (slot + 1)) first.2);
      earlier = λ before less.
          not_shown r a are before (omega (arith, less, played)) (first.3 before (omega arith) less);
    }

-- so the first slot after which one is completed is the first after which a phone shows the message
pub first_shown_is : AcceptedAreMeant → CompletedIsWholeInBlocks → FirstShownIsThePhones
first_shown_is meant whole r legal over k d within =
    by_found r (get_or (accepted_in r.log) k d) (shows meant whole r legal over k d within)
    (first_shown r (get_or (accepted_in r.log) k d))
    (first-of (is_completed_after r (get_or (accepted_in r.log) k d)) r.slots 0)
