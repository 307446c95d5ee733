use Rattle.std.proofs.Common.{◌≡◌, drop}
use Rattle.std.specs.Prelude.{find}
use Rattle.bsc_table.specs.Record.{is_of_pair}
use Rattle.chart.specs.Kept.{all_kept}
use Rattle.chart.proofs.kept.named.Given as goal

abbrev pub invariant-loop-kept : goal.invariant-loop-kept
invariant-loop-kept l =
    find (is_of_pair l.id l.serial) (all_kept (drop l.kept-index l.all))
    ≡ find (is_of_pair l.id l.serial) (all_kept l.all)
