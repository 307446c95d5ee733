-- The LAC and CI of cells, as a set keeps them (own). Contracts of private functions alone speak of it.
use Rattle.std.specs.Prelude.{ℕ, ◌==◌, ◌&&◌, Bool, List}
use Rattle.std.specs.List.{list_any}
use Rattle.cbsp_wire.specs.declared.message.Cell.{Cell}

abbrev pub Pair : Type 0
Pair = ℕ × ℕ

abbrev pub is_pair : Pair → Pair → Bool
is_pair a b = (a.0 == b.0) && (a.1 == b.1)

abbrev pub has_cell : List Pair → Cell → Bool
has_cell pairs cell = list_any (is_pair (cell.lac, cell.ci)) pairs
