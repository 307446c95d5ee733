-- The cells of a list (own): which it names, where, and whether it names none twice.
use Rattle.std.specs.Prelude.{ℕ, Bool, ◌≢◌, List, Option}
use Rattle.std.specs.List.{AllPairs, list_any, position}
use Rattle.cbsp_wire.specs.declared.message.Cell.{Cell}
use Rattle.cbsp_wire.specs.Range.{is_cell}

-- no cell stands in the list twice
abbrev pub AreDistinct : List Cell → Type 0
AreDistinct cells = AllPairs (λ a b. a ≢ b) cells

-- the test of `Contains`: the cell stands in the list
abbrev pub contains : List Cell → Cell → Bool
contains cells cell = list_any (is_cell cell) cells

-- the least place at which the list has the cell
abbrev pub least_place : List Cell → Cell → Option ℕ
least_place cells cell = position (is_cell cell) cells
