use Rattle.order_desk.proofs.NotesByCell.{IsEndedBefore}
use Rattle.order_desk.proofs.settle.notes_by_cell.end_pass.Given as goal

abbrev pub invariant-loop-place : goal.invariant-loop-place
invariant-loop-place l = IsEndedBefore l.place l.fn.noted l.noted
