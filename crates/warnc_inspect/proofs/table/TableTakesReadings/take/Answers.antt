use Rattle.std.proofs.Common.{ℕ, List, subst}
use Rattle.std.proofs.lemmas.Result.{on_ok_weaker}
use Rattle.handset.specs.Tape.{reading_of}
use Rattle.warnc_inspect.specs.ReadSteps.{IsTable}
use Rattle.warnc_inspect.proofs.TableLaws.{table_of-next}
use Rattle.warnc_inspect.proofs.table.TableTakesReadings.take.Goals as goal

pub returns : goal.returns
returns c =
    on_ok_weaker c.push_reading.result
    (λ more readings is.
    subst (λ (xs : List ℕ). IsTable c.push_reading.new.self xs) (table_of-next readings (reading_of c.args.reading))
    (more _ is))
    c.push_reading.ensures
