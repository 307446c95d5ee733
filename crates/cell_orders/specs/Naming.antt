-- Which cells the lists of messages name, and what they say of a cell. 3GPP TS 48.049, clauses 8.2.6, 8.2.10 and
-- 8.2.11. That the octets of a network aren't looked at is own: a capture is of one network.
use Rattle.std.specs.Prelude.{ℕ, ◌==◌, ◌&&◌, Bool, true, false, if◌then◌else◌, List, Option, Some, None, find}
use Rattle.std.specs.Prelude.{option_and_then, option_map, is_some}
use Rattle.std.specs.List.{list_any}
use Rattle.cbsp_wire.specs.declared.message.Cell.{Cell}
use Rattle.cbsp_link.specs.declared.message.LinkCell.{LinkCell}
use Rattle.cbsp_link.specs.declared.message.LinkCell.TheVariants as cells
use Rattle.cbsp_link.specs.declared.message.LinkCount.{LinkCount}
use Rattle.cbsp_link.specs.declared.message.LinkFailure.{LinkFailure}

-- whether the cell is this one, or one of these
abbrev pub names : LinkCell → Cell → Bool
names (cells.Global plmn lac ci) cell = (lac == cell.lac) && (ci == cell.ci)
names (cells.LacCi lac ci) cell = (lac == cell.lac) && (ci == cell.ci)
names (cells.Ci ci) cell = ci == cell.ci
names cells.Nothing cell = false
names (cells.Area plmn lac) cell = lac == cell.lac
names (cells.Lac lac) cell = lac == cell.lac
names cells.All cell = true

-- whether a cell list names the cell
abbrev pub lists_cell : List LinkCell → Cell → Bool
lists_cell cells cell = list_any (λ named. names named cell) cells

-- the first failure of the cell, and its cause
abbrev pub failure_of : List LinkFailure → Cell → Option LinkFailure
failure_of failures cell = find (λ failure. names failure.cell cell) failures

abbrev pub cell_cause : List LinkFailure → Cell → Option ℕ
cell_cause failures cell = option_map (λ failure. failure.cause) (failure_of failures cell)

abbrev pub fails_cell : List LinkFailure → Cell → Bool
fails_cell failures cell = is_some (cell_cause failures cell)

-- the number of broadcasts that the first item of the cell says, if it says that the number is valid (information 0)
abbrev pub valid_number : LinkCount → Option ℕ
valid_number count = if count.info == 0 then Some count.number else None

abbrev pub count_of : List LinkCount → Cell → Option LinkCount
count_of completed cell = find (λ count. names count.cell cell) completed

abbrev pub done_of : List LinkCount → Cell → Option ℕ
done_of completed cell = option_and_then valid_number (count_of completed cell)
