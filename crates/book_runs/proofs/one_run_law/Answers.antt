use Rattle.book_runs.proofs.Laws.{OneRunLaws}
use Rattle.book_runs.proofs.OneRun.{runs_are_one}
use Rattle.book_runs.proofs.one_run_law.Goals as goal

pub returns : goal.returns
returns c =
    let laws : OneRunLaws = record {
      books_are_one = c.book_laws.ensures.one_book;
      one_air = c.air_laws.ensures.one_air;
      fronts = c.air_laws.ensures.front;
    } in
    runs_are_one laws
