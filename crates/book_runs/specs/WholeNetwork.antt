-- A whole network's book (own): its rows are those of a network book, each for all of its cells. Its groups' books are
-- its parts, and their runs are one run of it.
use Rattle.std.specs.Prelude.{◌≡◌, ◌≤◌, ◌<◌, ◌&&◌, ℕ, not, nat_le, if◌then◌else◌, List, length, Result, Err}
use Rattle.std.specs.Prelude.{slice_index_or}
use Rattle.std.specs.List.{flat_map}
use Rattle.cbsp_wire.specs.declared.message.Cell.{Cell}
use Rattle.alert_book.specs.declared.fault.RowFault.{RowFault}
use Rattle.alert_book.specs.declared.fault.RowFault.TheVariants as fault
use Rattle.alert_book.specs.declared.book.order.Order.{Order}
use Rattle.alert_book.specs.declared.book.row.Row.{Row}
use Rattle.alert_book.specs.Book.{AreRowsBy, Contents, HavePages, rows_with}
use Rattle.alert_book.specs.Cells.{cells_of_field, is_among}
use Rattle.alert_book.specs.Fields.{are_texts, column}
use Rattle.alert_book.specs.Network.{HasGroups, IsGroupBook, cells_of_group, declares_cell, groups_of, max_network}
use Rattle.alert_book.specs.Network.{max_network_cells}
use Rattle.alert_book.specs.Network.{max_orders}
use Rattle.alert_book.specs.Row.{cell_row_within, row_after_verb_by, verb_of}
use Rattle.book_runs.specs.CellParts.{PartRun}
use Rattle.alert_book.specs.Restricted.{Keep, restricted}
use Rattle.book_runs.specs.Run.{Exchange, IsRun}

-- what the row of this number means for all cells, where the rows before it declare these and give these orders
abbrev pub row_of_network : (row : ℕ) → List Cell → List Order → List (List ℕ) → Result Row RowFault
row_of_network row declared orders fields =
    if not (declares_cell fields) && nat_le max_orders (length orders) then Err fault.TooManyRows
    else if not (are_texts fields) then Err fault.Columns
    else
    row_after_verb_by (verb_of (column fields 0)) (cell_row_within max_network_cells declared fields) row
    (cells_of_field declared) orders fields

-- the octets are a network book, and mean this for all cells
pub record IsWholeNetwork (input : List ℕ) (whole : Contents) : Type 0 where
  pub bounded : length input ≤ max_network
  pub meant : AreRowsBy row_of_network input (rows_with whole.cells whole.orders)
  pub paged : HavePages whole.orders whole.pages

abbrev pub in_group : (group : ℕ) → List Cell → Keep
in_group group cells cell = is_among (cells_of_group group cells) cell

-- the book of a group is that of its cells
abbrev pub GroupsAreParts : Type 0
GroupsAreParts = (group : ℕ) (input : List ℕ) (whole : Contents)
    → IsWholeNetwork input whole
    → group < groups_of (length whole.cells)
    → IsGroupBook group input (restricted (in_group group whole.cells) whole)

-- octets that are a network book to a group mean something for all cells
abbrev pub GroupsAreOfNetworks : Type 0
GroupsAreOfNetworks = (group : ℕ) (input : List ℕ) (book : Contents)
    → IsGroupBook group input book
    → (whole : Contents) × IsWholeNetwork input whole

-- a run of a group's book
pub record IsGroupRun (group : ℕ) (input : List ℕ) (slots : ℕ) (part : PartRun) : Type 0 where
  pub book : Contents
  pub is_book : IsGroupBook group input book
  pub run : IsRun book slots part.exchanges part.records

-- runs of the books of all groups of a network are one run of the whole network's book, which has their records one
-- after the other
abbrev pub NetworksHaveOneRun : Type 0
NetworksHaveOneRun = (input : List ℕ) (whole : Contents) (slots : ℕ) (parts : List PartRun)
    → IsWholeNetwork input whole
    → length parts ≡ groups_of (length whole.cells)
    → ((group : ℕ) (d : PartRun) → group < length parts
    → IsGroupRun group input slots (slice_index_or parts group d))
    → (all : List Exchange) × IsRun whole slots all (flat_map (λ part. part.records) parts)

-- and it is counted by its cells
abbrev pub WholeNetworksAreCounted : Type 0
WholeNetworksAreCounted = (group : ℕ) (input : List ℕ) (whole : Contents)
    → IsWholeNetwork input whole
    → HasGroups group input (groups_of (length whole.cells))
