-- A run of the book is a live run of one session.
use Rattle.std.proofs.Common.{[], ◌∷◌, refl}
use Rattle.book_runs.proofs.OneSession.{a_run_is_of_one_session}
use Rattle.warnc_run.proofs.alone.records_alone.Goals as goal

pub returns : goal.returns
returns g c =
    let run = c.in_ok-records.ensures in record {
      sessions = run.0 ∷ [];
      parted = refl;
      run = a_run_is_of_one_session c.args.book.now c.args.slots run.0 c.in_ok-records.records.items run.1;
    }
