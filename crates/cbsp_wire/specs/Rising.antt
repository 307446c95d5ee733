-- Lists whose cells rise: these name no cell twice (own). Contracts of private functions alone speak of it.
use Rattle.std.specs.Prelude.{ℕ, ◌+◌, ◌*◌, ◌&&◌, nat_lt, Bool, true, List, [], ◌∷◌}
use Rattle.cbsp_wire.specs.declared.message.Cell.{Cell}

-- a cell as one number: by LAC, then by CI
abbrev pub cell_number : Cell → ℕ
cell_number cell = cell.lac * 65536 + cell.ci

-- a cell comes after another one
abbrev pub is_after : Cell → Cell → Bool
is_after last cell = nat_lt (cell_number last) (cell_number cell)

-- each cell comes after the one before it, the first after this one
abbrev pub are_rising_after : Cell → List Cell → Bool
are_rising_after last [] = true
are_rising_after last (cell ∷ cells) = is_after last cell && are_rising_after cell cells

-- each cell comes after the one before it
abbrev pub are_rising : List Cell → Bool
are_rising [] = true
are_rising (cell ∷ cells) = are_rising_after cell cells
