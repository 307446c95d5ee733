-- Tests of cells: of distinct cells' records the first of a cell is the only one.
use Rattle.std.proofs.Common.{◌≡◌, ℕ, true, false, cond, not, List, [], ◌∷◌, map, ap, subst}
use Rattle.std.proofs.Common.{sym, ◌∙◌, inl, inr}
use Rattle.std.specs.List.{All, list_any}
use Rattle.std.proofs.lemmas.Bool.{and_parts, both_ways, cases_Bool, not-true, or_parts}
use Rattle.std.proofs.lemmas.List.Elements.{All-cons, All-nil, All-weaker}
use Rattle.cbsp_wire.specs.declared.message.Cell.{Cell}
use Rattle.cbsp_wire.specs.Range.{are_distinct, is_cell}
use Rattle.cbsp_wire.proofs.CellLists.{is_itself, same_cell}
use Rattle.bsc_table.specs.Record.{Record}
use Rattle.book_runs.specs.Run.{given_slot}
use Rattle.book_runs.specs.Sessions.{slot_before, slot_in}

-- two cells that differ do so the other way round
other_way : (a b : Cell) → is_cell a b ≡ false → is_cell b a ≡ false
other_way a b differ = elim (cases_Bool (is_cell b a)) [
  | inl same ↦ absurd (both_ways (is_cell a b) differ
      (subst (λ c. is_cell a c ≡ true) (sym (same_cell b a same)) (is_itself a)))
  | inr apart ↦ apart
]

-- the slot of a command is that of its cell's record, where no two records have one cell
abbrev pub HasSlots : List Record → Record → Type 0
HasSlots records r = (number at : ℕ) → slot_in records r.cell number at ≡ given_slot r.slots
    (slot_before r.log number) at

apart : (c : Cell) (records : List Record) → list_any (is_cell c) (map (λ r. r.cell) records) ≡ false
    → All (λ r. is_cell c r.cell ≡ false) records
apart c [] none = All-nil (λ (r : Record). is_cell c r.cell ≡ false)
apart c (r ∷ records) none =
    let parts = or_parts (is_cell c r.cell) (list_any (is_cell c) (map (λ (s : Record). s.cell) records)) none in
    All-cons (λ (s : Record). is_cell c s.cell ≡ false) r records parts.0 (apart c records parts.1)

both : {X : Type 0} (P Q : X → Type 0) (xs : List X) → All P xs → All Q xs → All (λ x. P x × Q x) xs
both P Q xs one other k d within = (one k d within, other k d within)

-- where cells are distinct, the slot of a command is found by the record of its own cell
pub have_slots : (records : List Record) → are_distinct (map (λ r. r.cell) records) ≡ true
    → All (HasSlots records) records
have_slots [] distinct = All-nil (HasSlots [])
have_slots (r ∷ records) distinct =
    let cells : List Cell = map (λ (s : Record). s.cell) records in
    let parts = and_parts (not (list_any (is_cell r.cell) cells)) (are_distinct cells) distinct in
    All-cons (HasSlots (r ∷ records)) r records (λ number at. first number at)
    (All-weaker (λ (s : Record). (is_cell r.cell s.cell ≡ false) × HasSlots records s) (HasSlots (r ∷ records))
    (λ s is number at. later s number at is.0 (is.1 number at)) records
    (both (λ (s : Record). is_cell r.cell s.cell ≡ false) (HasSlots records) records
    (apart r.cell records (not-true (list_any (is_cell r.cell) cells) parts.0)) (have_slots records parts.1)))
  where
    first : (number at : ℕ)
        → slot_in (r ∷ records) r.cell number at ≡ given_slot r.slots (slot_before r.log number) at
    first number at = ap (λ b. cond b (given_slot r.slots (slot_before r.log number) at)
        (slot_in records r.cell number at)) (is_itself r.cell)

    later : (s : Record) (number at : ℕ) → is_cell r.cell s.cell ≡ false
        → slot_in records s.cell number at ≡ given_slot s.slots (slot_before s.log number) at
        → slot_in (r ∷ records) s.cell number at ≡ given_slot s.slots (slot_before s.log number) at
    later s number at differ is =
        ap (λ b. cond b (given_slot r.slots (slot_before r.log number) at) (slot_in records s.cell number at))
        (other_way r.cell s.cell differ) ∙ is
