use Rattle.std.proofs.Common.{◌≡◌, ◌+◌, List, [], ◌∷◌, ◌++◌, length, take, sym, subst, ap}
use Rattle.bsc_table.specs.Record.{Record}
use Rattle.order_desk.specs.declared.settle.cell_notes.CellNotes.{CellNotes}
use Rattle.order_desk.specs.SettleSteps.{AreNoted}
use Rattle.order_desk.proofs.NotesByCell.{noted_push}
use Rattle.order_desk.proofs.Reported.{take_next}
use Rattle.order_desk.proofs.settle.notes_by_cell.none_noted.Goals as goal

pub loop-book-preserved : goal.loop-book-preserved
loop-book-preserved c =
    let before : List Record = take c.loop-book.book-index c.args.books.now in
    let book : Record = c.book-item.result in
    let more : take (c.loop-book.book-index + 1) c.args.books.now ≡ before ++ book ∷ [] =
    take_next c.args.books.now c.loop-book.book-index book c.book-item.is c.loop-book-test.true in
    subst (AreNoted (take (c.loop-book.book-index + 1) c.args.books.now) [] [])
    (sym {A = List CellNotes} c.in_ok-push.ensures.items)
    (subst (λ (rs : List Record). AreNoted rs [] [] (c.loop-book.noted.items ++ c.in_ok-new.field-0 ∷ [])) (sym more)
    (noted_push before [] [] c.loop-book.noted.items book c.in_ok-new.field-0 c.loop-book.invariant
    (c.in_ok-new.ensures book (sym (ap length c.log.ensures)))))
