-- What a lock held stays a run of its cell.
use Rattle.std.proofs.Common.{◌≡◌, ℕ, ◌∙◌, true, List, Some, inr, slice_get}
use Rattle.cbsp_wire.specs.declared.message.Cell.{Cell}
use Rattle.bsc_table.specs.Record.{Record}
use Rattle.order_desk.specs.declared.note.Note.{Note}
use Rattle.order_desk.specs.Desk.{IsAtMostPlayed, IsHeld, DeskState, has_cell}
use Rattle.order_desk.specs.Notes.{IsPlayedFor, IsRunOf}
use Rattle.cbsp_wire.proofs.CellLists.{found_near}

-- a run that goes on from another is of the same cell
pub run_on : (cell : Cell) (slots : ℕ) (before after : Record)
    → IsRunOf cell slots before
    → IsRunOf before.cell before.slots after
    → IsRunOf cell slots after
run_on cell slots before after held left = record {
  of_cell = left.of_cell ∙ held.of_cell;
  run = left.run ∙ held.run;
  legal = left.legal;
}

-- a cell that has a place at the desk is of the desk
pub has_placed : (desk : DeskState) (cell : Cell) (place : ℕ) → slice_get desk.cells place ≡ Some cell
    → has_cell desk cell ≡ true
has_placed desk cell place at = found_near desk.cells cell place at

-- a cell with a place at the desk that gave an order up after a play
pub given_up : (desk : DeskState) (at : ℕ) (cell : Cell) (place : ℕ) (before after : Record) (notes : List Note)
    → slice_get desk.cells place ≡ Some cell
    → IsHeld desk cell before
    → IsRunOf before.cell before.slots after
    → IsPlayedFor at before after notes
    → (has_cell desk cell ≡ true) × IsAtMostPlayed desk at cell notes
given_up desk at cell place before after notes there held left played =
    let own = has_placed desk cell place there in
    (own, inr (before, after, own, held, run_on cell desk.slots before after held left, played))
