use Rattle.std.proofs.Common.{◌≡◌, drop}
use Rattle.bsc_table.specs.Record.{accepted_from, accepted_in}
use Rattle.chart.specs.Kept.{all_kept, HavePeriods}
use Rattle.chart.proofs.kept.accepted_in.Given as goal

abbrev pub invariant-loop-place : goal.invariant-loop-place
invariant-loop-place l = record {
  all : accepted_from (all_kept l.all.items) l.place (drop l.place l.log) ≡ accepted_in l.log;
  periods : HavePeriods l.all.items;
}
