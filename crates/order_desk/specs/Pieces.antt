-- Pieces of what the cells of a desk have aired (own). What a lock holds is known by its type alone: some record that
-- is a legal history. So a piece is one of such a record of its cell.
use Rattle.std.specs.Prelude.{◌≡◌, ⊤, ℕ, ◌-◌, ◌==◌, ◌||◌, nat_lt, min, true, if◌then◌else◌, Option, Some, None}
use Rattle.std.specs.Prelude.{List, length, map, take, drop, vec_len}
use Rattle.std.specs.List.{slice_get}
use Rattle.std.specs.Option.{option_map}
use Rattle.cbs_page.specs.declared.content.Content.{Content}
use Rattle.cbs_page.specs.Page.{octets_of_page}
use Rattle.cbs_page.specs.Text.{max_pages}
use Rattle.cbsp_wire.specs.declared.message.Cell.{Cell}
use Rattle.bsc_table.specs.declared.command.Command.{Command}
use Rattle.bsc_table.specs.declared.command.Command.TheVariants as commands
use Rattle.bsc_table.specs.declared.entry.Entry.{Entry}
use Rattle.bsc_table.specs.Record.{Record}
use Rattle.order_desk.specs.declared.fault.DeskFault.{DeskFault}
use Rattle.order_desk.specs.declared.fault.DeskFault.TheVariants as faults
use Rattle.order_desk.specs.declared.desk.piece.Piece.{Piece}
use Rattle.order_desk.specs.Desk.{IsHeld, DeskState, has_cell}

-- how many slots a piece has at most
abbrev pub piece_slots : ℕ
piece_slots = 64

-- the octets of a page of a write, of which the pages are numbered from 1 and are 15 at most
abbrev pub write_page_octets : ℕ → Command → Option (List ℕ)
write_page_octets page (commands.Write id serial replaces category dcs period broadcasts contents) =
    if (page == 0) || nat_lt (length contents) page || nat_lt max_pages (length contents)
    then None
    else option_map (λ (content : Content). octets_of_page id serial dcs.0 page (length contents) content.octets)
    (slice_get contents (page - 1))
write_page_octets page (commands.Kill id serial) = None
write_page_octets page (commands.Status id serial) = None

abbrev pub octets_of_entry : ℕ → Option Entry → Option (List ℕ)
octets_of_entry page None = None
octets_of_entry page (Some e) = write_page_octets page e.command

-- the octets of the page that a slot aired: of the used entry, the page of the used number
abbrev pub octets_aired : List Entry → Option (ℕ × ℕ) → Option (List ℕ)
octets_aired log None = None
octets_aired log (Some used) = octets_of_entry used.1 (slice_get log used.0)

-- what at most k slots from one on aired, of those that were played
abbrev pub piece_pages : (from k : ℕ) → Record → List (Option (List ℕ))
piece_pages from k r = map (octets_aired r.log) (take k (drop from r.air))

-- a piece of a cell of the desk from a slot on: of at most k slots, of those that were played
pub record IsPieceOf (desk : DeskState) (cell : Cell) (from k : ℕ) (piece : Piece) : Type 0 where
  pub own : has_cell desk cell ≡ true
  pub held : Record
  pub is_held : IsHeld desk cell held
  pub of_cell : piece.cell ≡ cell
  pub begins : piece.from ≡ from
  pub aired : piece.pages.items ≡ piece_pages from k held
  pub long : vec_len piece.pages ≡ min k (held.clock - from)

-- why there is no piece: the cell isn't of the desk, or its lock holds a book of another; or the desk is out of memory
abbrev pub IsRefusedPiece : DeskState → Cell → DeskFault → Type 0
IsRefusedPiece desk cell faults.Unknown = ⊤
IsRefusedPiece desk cell (faults.Memory done) = (has_cell desk cell ≡ true) × (done ≡ 0)
IsRefusedPiece desk cell (faults.Wire fault) = ⊥
IsRefusedPiece desk cell (faults.Cause cause) = ⊥
IsRefusedPiece desk cell faults.Full = ⊥
