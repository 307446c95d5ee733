-- Lists whose cells rise name no cell twice.
use Rattle.std.proofs.Common.{◌≡◌, ◌≤◌, true, false, List, [], ◌∷◌, refl, inl, inr, arith, eqb}
use Rattle.std.specs.List.{list_any}
use Rattle.std.proofs.lemmas.Bool.{cases_Bool, ltb-true, lt-ltb, eqb-true, and_parts}
use Rattle.cbsp_wire.specs.declared.message.Cell.{Cell}
use Rattle.cbsp_wire.specs.Range.{is_cell, are_distinct}
use Rattle.cbsp_wire.specs.Rising.{cell_number, is_after, are_rising_after, are_rising}

-- a cell of a greater number is another one
other_cell : (a b : Cell) → is_after a b ≡ true → is_cell a b ≡ false
other_cell a b after = elim (cases_Bool (is_cell a b)) [
  | inr other ↦ other
  | inl same ↦ absurd (
      let parts = and_parts (eqb a.lac b.lac) (eqb a.ci b.ci) same in
      omega (
        arith,
        ltb-true (cell_number a) (cell_number b) after,
        eqb-true a.lac b.lac parts.0,
        eqb-true a.ci b.ci parts.1,
      )
      )
]

-- one that comes no later than the cell before a rising list isn't in it
not_among : (a last : Cell) (cells : List Cell) → cell_number a ≤ cell_number last
    → are_rising_after last cells ≡ true → list_any (is_cell a) cells ≡ false
not_among a last [] early rising = refl
not_among a last (cell ∷ cells) early rising =
    let parts = and_parts (is_after last cell) (are_rising_after cell cells) rising in
    let after = ltb-true (cell_number last) (cell_number cell) parts.0 in
    rw (other_cell a cell (lt-ltb (cell_number a) (cell_number cell) (omega (arith, early, after))))
    (not_among a cell cells (omega (arith, early, after)) parts.1)

distinct_after : (last : Cell) (cells : List Cell) → are_rising_after last cells ≡ true
    → are_distinct (last ∷ cells) ≡ true
distinct_after last [] rising = refl
distinct_after last (cell ∷ cells) rising =
    let parts = and_parts (is_after last cell) (are_rising_after cell cells) rising in
    rw (not_among last last (cell ∷ cells) (omega arith) rising) (distinct_after cell cells parts.1)

-- cells that rise are distinct
pub rising_distinct : (cells : List Cell) → are_rising cells ≡ true → are_distinct cells ≡ true
rising_distinct [] rising = refl
rising_distinct (cell ∷ cells) rising = distinct_after cell cells rising
