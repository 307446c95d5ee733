use Rattle.std.proofs.Common.{◌≡◌, Some, drop}
use Rattle.bsc_table.specs.Handover.{numbered}
use Rattle.bsc_table.specs.Record.{claims_of}
use Rattle.chart.specs.Kept.{all_kept}
use Rattle.chart.proofs.kept.excess_over.Given as goal

abbrev pub invariant-loop-kept : goal.invariant-loop-kept
invariant-loop-kept l =
    numbered (Some l.entry) (claims_of (all_kept (drop l.kept-index l.all)))
    ≡ numbered (Some l.entry) (claims_of (all_kept l.all))
