use Rattle.book_runs.proofs.Fit.{parts_are_fit}
use Rattle.book_runs.proofs.InARow.{parts_in_a_row, tapes_in_a_row}
use Rattle.book_runs.proofs.JoinedRuns.{parts_make_the_whole}
use Rattle.book_runs.proofs.KeptRuns.{cells_run_apart, records_are_those}
use Rattle.book_runs.proofs.Laws.{OneRunLaws}
use Rattle.book_runs.proofs.Settled.{settled_fit_books_are_runs}
use Rattle.book_runs.proofs.cells_law.Goals as goal

pub returns-clause-apart : goal.returns-clause-apart
returns-clause-apart c = cells_run_apart

pub returns-clause-same : goal.returns-clause-same
returns-clause-same c =
    let laws : OneRunLaws = record {
      books_are_one = c.book_laws.ensures.one_book;
      one_air = c.air_laws.ensures.one_air;
      fronts = c.air_laws.ensures.front;
    } in
    records_are_those laws

pub returns-clause-joined : goal.returns-clause-joined
returns-clause-joined c = parts_make_the_whole c.network_laws.ensures.book

pub returns-clause-in_a_row : goal.returns-clause-in_a_row
returns-clause-in_a_row c = parts_in_a_row c.network_laws.ensures.book c.book_laws.ensures.cells

pub returns-clause-tapes : goal.returns-clause-tapes
returns-clause-tapes c = tapes_in_a_row

pub returns-clause-fit : goal.returns-clause-fit
returns-clause-fit c = parts_are_fit

pub returns-clause-settled : goal.returns-clause-settled
returns-clause-settled c = settled_fit_books_are_runs c.session_laws.ensures.once_per_order
