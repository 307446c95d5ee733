use Rattle.std.proofs.Common.{ℕ, List, sym, subst}
use Rattle.report.specs.RowSteps.{AreStops, Pair}
use Rattle.report.proofs.StopLaws.{stops-more}
use Rattle.report.proofs.stops.Stops.add.Goals as goal

pub returns-in_ok-insert : goal.returns-in_ok-insert
returns-in_ok-insert c = λ later are.
    stops-more c.self.inside.by_pair.entries c.insert.new.self.entries c.args.entry.now later c.in-Some.pair
    (sym c.in-Some.ensures) (λ pair. c.in_ok-insert.ensures.updates.0 pair)
    (subst (λ (entries : List (Pair × ℕ)). AreStops entries later) (sym c.self.view_is) are)
