-- The cells that a row is for. Own: `*` for all that earlier rows declare, or LAC-CI names with one space between them.
use Rattle.std.specs.Prelude.{ℕ, ◌==◌, Bool, if◌then◌else◌, Option, Some, None, List, [], ◌∷◌, ◌++◌, codes, Result, Ok}
use Rattle.std.specs.Prelude.{Err}
use Rattle.std.specs.List.{before_first, after_first, list_all, list_any}
use Rattle.std.specs.Str.{bytes_eq}
use Rattle.cbsp_wire.specs.declared.message.Cell.{Cell}
use Rattle.cbsp_wire.specs.Range.{is_cell, are_distinct}
use Rattle.alert_book.specs.declared.fault.RowFault.{RowFault}
use Rattle.alert_book.specs.declared.fault.RowFault.TheVariants as fault
use Rattle.alert_book.specs.Number.{number_within}

abbrev pub cell_with : (lac ci : ℕ) → Cell
cell_with lac ci = record { lac = lac; ci = ci }

abbrev pub is_dash : ℕ → Bool
is_dash octet = octet == 45

abbrev pub is_space : ℕ → Bool
is_space octet = octet == 32

-- the cell of two numbers, where both are there
abbrev pub cell_from : Option ℕ → Option ℕ → Option Cell
cell_from None ci = None
cell_from (Some lac) None = None
cell_from (Some lac) (Some ci) = Some (cell_with lac ci)

-- the cell that a text names: its LAC, a dash, its CI
abbrev pub cell_named : List ℕ → Option Cell
cell_named text =
    cell_from (number_within 0 65535 (before_first is_dash text)) (number_within 0 65535 (after_first is_dash text))

-- what stands before, between and after the spaces of a text; `part` is what stands before it
abbrev pub parts_after : (part text : List ℕ) → List (List ℕ)
parts_after part [] = part ∷ []
parts_after part (octet ∷ text) =
    if is_space octet then part ∷ parts_after [] text else parts_after (part ++ octet ∷ []) text

abbrev pub parts_of : List ℕ → List (List ℕ)
parts_of text = parts_after [] text

-- a cell before cells, where all are there
abbrev pub before_all : Option Cell → Option (List Cell) → Option (List Cell)
before_all None cells = None
before_all (Some cell) None = None
before_all (Some cell) (Some cells) = Some (cell ∷ cells)

-- the cells that texts name, where each names one
abbrev pub all_named : List (List ℕ) → Option (List Cell)
all_named [] = Some []
all_named (text ∷ texts) = before_all (cell_named text) (all_named texts)

abbrev pub cells_listed : List ℕ → Option (List Cell)
cells_listed text = all_named (parts_of text)

-- whether a cell is among those declared
abbrev pub is_among : List Cell → Cell → Bool
is_among declared cell = list_any (λ c. is_cell c cell) declared

-- cells that a row lists: the first of these faults that applies
abbrev pub cells_judged : List Cell → Option (List Cell) → Result (List Cell) RowFault
cells_judged declared None = Err fault.Number
cells_judged declared (Some cells) =
    if list_all (is_among declared) cells then (if are_distinct cells then Ok cells else Err fault.TwiceNamed)
    else Err fault.UnknownCell

abbrev pub all_of : List Cell → Result (List Cell) RowFault
all_of [] = Err fault.UnknownCell
all_of (cell ∷ cells) = Ok (cell ∷ cells)

-- the cells of a row's field, where earlier rows declare these
abbrev pub cells_of_field : List Cell → List ℕ → Result (List Cell) RowFault
cells_of_field declared field =
    if bytes_eq field (codes "*") then all_of declared else cells_judged declared (cells_listed field)
