-- What is asked of one cell, among all that a run's cells are asked.
use Rattle.std.proofs.Common.{◌≡◌, Bool, true, false, cond, List, [], ◌∷◌, ◌++◌}
use Rattle.std.proofs.Common.{map, filter, refl, ap, subst, ◌∙◌, inl, inr}
use Rattle.std.proofs.lemmas.Bool.{cases_Bool}
use Rattle.std.proofs.lemmas.List.{map-append}
use Rattle.std.proofs.lemmas.List.Elements.{filter-append}
use Rattle.cbsp_wire.specs.declared.message.Cell.{Cell}
use Rattle.cbsp_wire.specs.Range.{is_cell}
use Rattle.bsc_table.specs.declared.entry.Answer.{Answer}
use Rattle.book_runs.specs.Run.{Asked, Exchange, asked_in, asked_of, asked_with, is_among}
use Rattle.book_runs.specs.Sessions.{asks_in, asks_of}
use Rattle.cbsp_wire.proofs.CellLists.{same_cell}
use Rattle.book_runs.proofs.Noted.{asks_of_cell}

-- what is asked of a cell of the run, of all that its cells are asked
asks_in_cell : (cells : List Cell) (cell : Cell) (x : Exchange) (list : List (Cell × Answer))
    → is_among cells cell ≡ true
    → map (λ a. a.1)
    (asks_of_cell cell (map (λ (a : Cell × Answer). (a.0, asked_with x a))
    (filter (λ (a : Cell × Answer). is_among cells a.0) list)))
    ≡ map (asked_with x) (filter (λ (a : Cell × Answer). is_cell cell a.0) list)
asks_in_cell cells cell x [] own = refl
asks_in_cell cells cell x (a ∷ list) own = elim (cases_Bool (is_cell cell a.0)) [
  | inl same ↦ here same (asks_in_cell cells cell x list own)
  | inr other ↦ elsewhere other (is_among cells a.0) (asks_in_cell cells cell x list own)
]
  where
    here : is_cell cell a.0 ≡ true
        → map (λ b. b.1)
        (asks_of_cell cell (map (λ (b : Cell × Answer). (b.0, asked_with x b))
        (filter (λ (b : Cell × Answer). is_among cells b.0) list)))
        ≡ map (asked_with x) (filter (λ (b : Cell × Answer). is_cell cell b.0) list)
        → map (λ b. b.1)
        (asks_of_cell cell (map (λ (b : Cell × Answer). (b.0, asked_with x b))
        (filter (λ (b : Cell × Answer). is_among cells b.0) (a ∷ list))))
        ≡ map (asked_with x) (filter (λ (b : Cell × Answer). is_cell cell b.0) (a ∷ list))
    here same rest =
        let among : is_among cells a.0 ≡ true =
        subst (λ (c : Cell). is_among cells c ≡ true) (same_cell cell a.0 same) own in
        rw (among, same) (ap (λ (later : List Asked). asked_with x a ∷ later) rest)

    elsewhere : is_cell cell a.0 ≡ false → (among : Bool)
        → map (λ b. b.1)
        (asks_of_cell cell (map (λ (b : Cell × Answer). (b.0, asked_with x b))
        (filter (λ (b : Cell × Answer). is_among cells b.0) list)))
        ≡ map (asked_with x) (filter (λ (b : Cell × Answer). is_cell cell b.0) list)
        → map (λ b. b.1)
        (asks_of_cell cell (map (λ (b : Cell × Answer). (b.0, asked_with x b))
        (cond among (a ∷ filter (λ (b : Cell × Answer). is_among cells b.0) list)
        (filter (λ (b : Cell × Answer). is_among cells b.0) list))))
        ≡ map (asked_with x) (filter (λ (b : Cell × Answer). is_cell cell b.0) (a ∷ list))
    elsewhere other true rest = rw other rest
    elsewhere other false rest = rw other rest

-- what a cell of the run is asked in all exchanges is what was asked of it
pub asks_of_it : (cells : List Cell) (cell : Cell) (exchanges : List Exchange) → is_among cells cell ≡ true
    → map (λ a. a.1) (asks_of_cell cell (asks_of cells exchanges)) ≡ asked_of cell exchanges
asks_of_it cells cell [] own = refl
asks_of_it cells cell (x ∷ exchanges) own =
    ap (map (λ (a : Cell × Asked). a.1))
    (filter-append (λ (a : Cell × Asked). is_cell cell a.0) (asks_in cells x) (asks_of cells exchanges))
    ∙ map-append (λ (a : Cell × Asked). a.1) (asks_of_cell cell (asks_in cells x))
    (asks_of_cell cell (asks_of cells exchanges))
    ∙ ap (λ (first : List Asked). first ++ map (λ (a : Cell × Asked). a.1)
    (asks_of_cell cell (asks_of cells exchanges))) (asks_in_cell cells cell x x.answers own)
    ∙ ap (λ (later : List Asked). asked_in cell x ++ later) (asks_of_it cells cell exchanges own)
