use Rattle.book_runs.proofs.InARow.{parts_in_a_row}
use Rattle.book_runs.proofs.Laws.{BookLaws}
use Rattle.book_runs.proofs.ServedParts.{copies_are_fit, served_parts_in_a_row}
use Rattle.book_runs.proofs.Settled.{books_are_fit}
use Rattle.book_runs.proofs.served_parts_law.Goals as goal

pub returns : goal.returns
returns c =
    let of_books : BookLaws = record {
      orders_are_few = c.book_laws.ensures.orders;
      cells_are_valid = c.book_laws.ensures.cells;
      writable = c.session_laws.ensures.writable;
      once_per_order = c.session_laws.ensures.once_per_order;
    } in
    record {
      books = books_are_fit of_books;
      copies = copies_are_fit;
      in_a_row = served_parts_in_a_row (parts_in_a_row c.network_laws.ensures.book c.book_laws.ensures.cells);
    }
