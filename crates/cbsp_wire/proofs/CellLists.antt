-- What the tests of cells and of their lists say.
use Rattle.std.proofs.Common.{◌≡◌, ◌≢◌, ℕ, ◌<◌, ◌≤◌, Bool, true, false, eqb, eq-eqb, cond, ltb, get_or, List, [], ◌∷◌}
use Rattle.std.proofs.Common.{length}
use Rattle.std.proofs.Common.{zero, suc, Some, None, refl, sym, ap, ◌∙◌, subst, rules, slice_get, arith}
use Rattle.std.specs.Prelude.{◌↔◌, ◌||◌, IfNone, IfSome, IsTrue, Option, not}
use Rattle.std.specs.List.{All, AllPairs, Contains, list_any, position_or_len}
use Rattle.std.proofs.lemmas.Bool.{eqb-true, false_from_ne_true, ltb-false}
use Rattle.std.proofs.lemmas.List.Elements.{All-cons, All-from_get_or}
use Rattle.std.proofs.lemmas.List.Folds.{list_any_at, list_any_none}
use Rattle.std.proofs.lemmas.List.Kept.{AllPairs-cons}
use Rattle.std.proofs.lemmas.List.Quantifiers.{position-Some}
use Rattle.std.proofs.lemmas.List.Sums.{fails_before_first}
use Rattle.std.proofs.lemmas.Map.Views.{Contains-from_any}
use Rattle.std.proofs.lemmas.Option.{get_or_from_slice_get, slice_get-get_or, slice_get_within}
use Rattle.cbsp_wire.specs.declared.message.Cell.{Cell}
use Rattle.cbsp_wire.specs.CellLists.{AreDistinct, contains, least_place}
use Rattle.cbsp_wire.specs.Range.{is_cell, are_distinct}
use Rattle.cbsp_wire.proofs.Facts.{not_false}
use Rattle.cbsp_wire.proofs.Tests.{and_parts, and_both, not_true}

-- a cell is itself
pub is_itself : (a : Cell) → is_cell a a ≡ true
is_itself a = and_both _ _ (eq-eqb a.lac a.lac refl) (eq-eqb a.ci a.ci refl)

-- the test of two cells is equality
pub same_cell : (a b : Cell) → is_cell a b ≡ true → a ≡ b
same_cell a b h =
    let both = and_parts (eqb a.lac b.lac) (eqb a.ci b.ci) h in
    ap (λ (lac : ℕ). let c : Cell = record { lac = lac; ci = a.ci } in c) (eqb-true _ _ both.0)
    ∙ ap (λ (ci : ℕ). let c : Cell = record { lac = b.lac; ci = ci } in c) (eqb-true _ _ both.1)

-- two that fail the test are different
pub different_cells : (a b : Cell) → is_cell a b ≡ false → a ≢ b
different_cells a b h same =
    let self : is_cell a b ≡ true = ap (is_cell a) (sym same) ∙ is_itself a in
    cc

-- a cell is apart from those of a list
or_parts : (a b : Bool) → (a || b) ≡ false → (a ≡ false) × (b ≡ false)
or_parts true b h = absurd cc
or_parts false b h = (refl, h)

apart_from : (c : Cell) (cs : List Cell) → list_any (is_cell c) cs ≡ false → All (λ d. c ≢ d) cs
apart_from c [] h = λ k d within. absurd (omega (arith, within))
apart_from c (d ∷ ds) h =
    let both = or_parts (is_cell c d) (list_any (is_cell c) ds) h in
    All-cons (λ e. c ≢ e) d ds (different_cells c d both.0) (apart_from c ds both.1)

apart_passes : (c : Cell) (cs : List Cell) → All (λ d. c ≢ d) cs → list_any (is_cell c) cs ≡ false
apart_passes c cs apart =
    list_any_none (is_cell c) cs
    (λ k d within. false_from_ne_true _ (λ same. apart k d within (same_cell _ _ same)))

-- no cell comes twice
pub distinct_from : (cs : List Cell) → are_distinct cs ≡ true → AllPairs (λ a b. a ≢ b) cs
distinct_from [] h = λ i j d before within. absurd (omega (arith, within))
distinct_from (c ∷ cs) h =
    let both = and_parts (not (list_any (is_cell c) cs)) (are_distinct cs) h in
    AllPairs-cons (λ a b. a ≢ b) c cs (apart_from c cs (not_true _ both.0)) (distinct_from cs both.1)

-- distinct cells pass the test
pub distinct_passes : (cs : List Cell) → AllPairs (λ a b. a ≢ b) cs → are_distinct cs ≡ true
distinct_passes [] h = refl
distinct_passes (c ∷ cs) h =
    and_both (not (list_any (is_cell c) cs)) (are_distinct cs)
    (not_false _ (apart_passes c cs (λ k d within. h zero (suc k) d (omega arith) (omega (arith, within)))))
    (distinct_passes cs (λ i j d before within. h (suc i) (suc j) d (omega (arith, before)) (omega (arith, within))))

-- whether a list has the cell is what the test says
pub contains_is : (cells : List Cell) (cell : Cell) → IsTrue (contains cells cell) ↔ Contains cells cell
contains_is cells cell = (λ found. Contains-from_any same_cell cell cells found, passes) where
  passes : Contains cells cell → IsTrue (contains cells cell)
  passes there =
      list_any_at (is_cell cell) cells there.0 cell there.1
      (subst (λ (c : Cell). is_cell cell c ≡ true) (sym there.2) (is_itself cell))

-- whether a list has no cell twice is what the test says
pub distinct_is : (cells : List Cell) → IsTrue (are_distinct cells) ↔ AreDistinct cells
distinct_is cells = (distinct_from cells, distinct_passes cells)

-- a cell that stands at a place is itself there, whatever stands for those past the end
pub itself_at : (cells : List Cell) (cell : Cell) (place : ℕ) (default : Cell) → slice_get cells place ≡ Some cell
    → is_cell cell (get_or cells place default) ≡ true
itself_at cells cell place default at = rw (get_or_from_slice_get cells place cell default at) (is_itself cell)

-- a list that has a cell at a place has it
pub found_near : (cells : List Cell) (cell : Cell) (place : ℕ) → slice_get cells place ≡ Some cell
    → contains cells cell ≡ true
found_near cells cell place at = list_any_at (is_cell cell) cells place cell
    (slice_get_within cells place cell at) (itself_at cells cell place cell at)

-- a cell's least place has it
pub at_place : (cells : List Cell) (cell : Cell) (place : ℕ) → least_place cells cell ≡ Some place
    → slice_get cells place ≡ Some cell
at_place cells cell place found =
    let at = position-Some (is_cell cell) cells place cell found in
    slice_get-get_or cells place cell at.0 ∙ ap Some (sym (same_cell cell (get_or cells place cell) at.1))

lesser : (i a n : ℕ) → i < n → n ≤ a → i < a
lesser i a n within past = omega arith

not_some : (place : ℕ) → Some place ≡ None → ⊥
not_some place h = search (rules, h)

-- a list in which a cell has no place doesn't have it
pub absent : (cells : List Cell) (cell : Cell) → least_place cells cell ≡ None → contains cells cell ≡ false
absent cells cell none =
    list_any_none (is_cell cell) cells (All-from_get_or (λ c. is_cell cell c ≡ false) cells cell
    (λ i within. fails_before_first (is_cell cell) cells i cell (before i within)))
  where
    first : ℕ
    first = position_or_len (is_cell cell) cells

    none_first : (b : Bool) → cond b (Some first) None ≡ None → b ≡ false
    none_first true h = absurd (not_some first h)
    none_first false h = refl

    before : (i : ℕ) → i < length cells → i < position_or_len (is_cell cell) cells
    before i within =
        let past = ltb-false first (length cells) (none_first (ltb first (length cells)) none) in
        lesser i first (length cells) within past

-- nor is the cell one of its cells
pub not_there : (cells : List Cell) (cell : Cell) (place : Option ℕ) → place ≡ least_place cells cell
    → IfNone place (Contains cells cell → ⊥)
not_there cells cell None none = λ there.
    let found = (contains_is cells cell).1 there in
    let missed = absent cells cell (sym none) in
    cc
not_there cells cell (Some place) found = tt

-- a cell's least place is one of the list's, which has the cell
pub there_within : (cells : List Cell) (cell : Cell) (place : Option ℕ) → place ≡ least_place cells cell
    → IfSome place (λ k. (k < length cells) × (contains cells cell ≡ true))
there_within cells cell None none = tt
there_within cells cell (Some place) found =
    let at = position-Some (is_cell cell) cells place cell (sym found) in
    (at.0, list_any_at (is_cell cell) cells place cell at.0 at.1)
