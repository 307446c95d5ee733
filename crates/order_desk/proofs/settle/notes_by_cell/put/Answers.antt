use Rattle.std.proofs.Common.{◌≡◌, ◌∙◌, Some, refl, sym, subst, ap}
use Rattle.std.specs.List.{list_any, slice_get}
use Rattle.cbsp_wire.specs.declared.message.Cell.{Cell}
use Rattle.cbsp_wire.specs.Range.{is_cell}
use Rattle.cbsp_wire.proofs.CellLists.{found_near}
use Rattle.order_desk.proofs.NotesByCell.{noted_note}
use Rattle.order_desk.proofs.settle.notes_by_cell.put.Goals as goal

pub returns-clause-own : goal.returns-clause-own
returns-clause-own c = λ _. ap (λ (of : Cell). list_any (is_cell of) c.args.cells.now) (sym c.cell_of-cell.ensures)
    ∙ found_near c.args.cells.now c.cell_of-cell.result c.in-Some.place c.in-Some.ensures.there

pub returns-clause-noted : goal.returns-clause-noted
returns-clause-noted c = λ _ earlier given right are.
    noted_note c.args.cells.now c.args.books.now earlier given c.args.note.now c.args.noted.now c.in-Some.place
    c.index-books-place.result c.index-noted-place.result c.add.new.self c.requires.distinct right
    (subst (λ (cell : Cell). slice_get c.args.cells.now c.in-Some.place ≡ Some cell) c.cell_of-cell.ensures
    c.in-Some.ensures.there) c.index-books-place.is
    (c.in_ok-add.ensures refl c.index-books-place.result earlier given (sym c.log.ensures)) are
