-- The parts of what is right of a number, and of a slot, together.
use Rattle.std.proofs.Common.{◌≡◌, ℕ, ◌<◌, ◌≤◌, true, Option, Some, None, List, [], ◌∷◌, length, All}
use Rattle.std.proofs.Common.{subst, refl, arith, Bool}
use Rattle.std.specs.List.{list_all, list_any}
use Rattle.std.proofs.lemmas.Bool.{and_from, le-leb, leb-true}
use Rattle.cbsp_wire.proofs.Tests.{and_parts}
use Rattle.cbsp_wire.specs.declared.message.Cell.{Cell}
use Rattle.bsc_table.specs.declared.entry.Entry.{Entry}
use Rattle.bsc_table.specs.declared.entry.SlotRange.{SlotRange}
use Rattle.order_desk.specs.declared.note.Note.{Note}
use Rattle.order_desk.specs.Agreement.{AreInPlaceAt, IsRightNumber, IsRightSlot, all_notes, is_ended, is_full_of}
use Rattle.order_desk.specs.Agreement.{times_noted, times_played}
use Rattle.order_desk.specs.SettleSteps.{IsLeastFailing, ends_by, lesser}
use Rattle.order_desk.proofs.FirstNot.{first_same, first_of_both}

-- the least wrong number of a cell is the least of three questions about numbers
pub right_number : (cell : Cell) (log : List Entry) (passes : List (List Note)) (a b c : Option ℕ)
    → IsLeastFailing (λ k. All (AreInPlaceAt cell log k []) passes) a
    → IsLeastFailing (λ k. k < length log → times_noted cell k (all_notes passes) ≡ 1) b
    → IsLeastFailing (λ k. k ≡ 4096 → list_any (list_any (is_full_of cell)) passes ≡ true → 4096 ≤ length log) c
    → IsLeastFailing (IsRightNumber cell log passes) (lesser (lesser a b) c)
right_number cell log passes a b c placed once full =
    first_same (λ k. (Placed k × Once k) × Full k) (IsRightNumber cell log passes) (lesser (lesser a b) c)
    (λ k is. record { placed = is.0.0; once = is.0.1; full = is.1 }) (λ k is. ((is.placed, is.once), is.full))
    (first_of_both (λ k. Placed k × Once k) Full (lesser a b) c (first_of_both Placed Once a b placed once) full)
  where
    Placed : ℕ → Type 0
    Placed k = All (AreInPlaceAt cell log k []) passes

    Once : ℕ → Type 0
    Once k = k < length log → times_noted cell k (all_notes passes) ≡ 1

    Full : ℕ → Type 0
    Full k = k ≡ 4096 → list_any (list_any (is_full_of cell)) passes ≡ true → 4096 ≤ length log

-- the least wrong slot of a cell is the least of two questions about slots
pub right_slot : (cell : Cell) (clock : ℕ) (passes : List (List Note)) (a b : Option ℕ)
    → IsLeastFailing (λ slot. slot < clock → times_played cell slot (all_notes passes) ≡ 1) a
    → IsLeastFailing (λ slot. clock ≤ slot → list_all (list_all (is_ended cell slot)) passes ≡ true) b
    → IsLeastFailing (IsRightSlot cell clock passes) (lesser a b)
right_slot cell clock passes a b once beyond =
    first_same (λ slot. Once slot × Beyond slot) (IsRightSlot cell clock passes) (lesser a b)
    (λ slot is. record { once = is.0; beyond = is.1 }) (λ slot is. (is.once, is.beyond))
    (first_of_both Once Beyond a b once beyond)
  where
    Once : ℕ → Type 0
    Once slot = slot < clock → times_played cell slot (all_notes passes) ≡ 1

    Beyond : ℕ → Type 0
    Beyond slot = clock ≤ slot → list_all (list_all (is_ended cell slot)) passes ≡ true

-- what passes a test passes any that it implies
list_all_also : {X : Type 0} (p q : X → Bool) → ((x : X) → p x ≡ true → q x ≡ true) → (xs : List X)
    → list_all p xs ≡ true
    → list_all q xs ≡ true
list_all_also p q also [] is = refl
list_all_also p q also (x ∷ xs) is =
    let both = and_parts (p x) (list_all p xs) is in
    and_from (q x) (list_all q xs) (also x both.0) (list_all_also p q also xs both.1)

-- where all ranges end by a slot, they do by each later one
pub end_by_later : (clock slot : ℕ) (ranges : List SlotRange)
    → clock ≤ slot
    → list_all (ends_by clock) ranges ≡ true
    → list_all (ends_by slot) ranges ≡ true
end_by_later clock slot ranges le is = list_all_also (ends_by clock) (ends_by slot) later ranges is
  where
    further : (to : ℕ) → to ≤ clock → to ≤ slot
    further to less = omega arith

    later : (range : SlotRange) → ends_by clock range ≡ true → ends_by slot range ≡ true
    later range ends = le-leb range.to slot (further range.to (leb-true range.to clock ends))

-- what the first number at which something isn't right says of it, if there is one
pub first_some : (right : ℕ → Type 0) (found : Option ℕ) (k : ℕ)
    → found ≡ Some k
    → IsLeastFailing right found
    → (right k → ⊥) × ((lesser : ℕ) → lesser < k → right lesser)
first_some right found k is first = subst (IsLeastFailing right) is first

-- and if there is none
pub first_none : (right : ℕ → Type 0) (found : Option ℕ)
    → ((k : ℕ) → found ≡ Some k → ⊥)
    → IsLeastFailing right found
    → (k : ℕ) → right k
first_none right None none first = first
first_none right (Some n) none first = absurd (none n refl)
