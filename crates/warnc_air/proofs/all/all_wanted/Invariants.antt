use Rattle.std.proofs.Common.{◌≡◌, ◌++◌, drop}
use Rattle.warnc_air.specs.AllTapes.{all_wanted}
use Rattle.warnc_air.proofs.all.all_wanted.Given as goal

abbrev pub invariant-loop-row : goal.invariant-loop-row
invariant-loop-row l =
    l.all.items ++ all_wanted l.wanted (drop l.row-index l.rows) ≡ all_wanted l.wanted l.rows
