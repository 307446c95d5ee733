use Rattle.std.proofs.Common.{◌≡◌, [], All, List, length, take, true}
use Rattle.std.specs.List.{AllZip}
use Rattle.order_desk.specs.declared.note.Note.{Note}
use Rattle.order_desk.specs.Settled.{is_of_cells}
use Rattle.order_desk.specs.SettleSteps.{AreNoted, IsOfCell}
use Rattle.order_desk.proofs.settle.notes_by_cell.put_all.Given as goal

abbrev pub invariant-loop-note : goal.invariant-loop-note
invariant-loop-note l = (length l.noted ≡ length l.fn.noted)
    × All (λ n. is_of_cells l.fn.cells n ≡ true) (take l.note-index l.fn.notes)
    × ((earlier : List (List Note)) → AllZip IsOfCell l.fn.cells l.fn.books → AreNoted l.fn.books earlier [] l.fn.noted
    → AreNoted l.fn.books earlier (take l.note-index l.fn.notes) l.noted)
