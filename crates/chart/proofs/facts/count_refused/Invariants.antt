use Rattle.std.proofs.Common.{◌≡◌, ◌≤◌, ◌+◌, drop}
use Rattle.std.specs.Prelude.{count_by}
use Rattle.chart.specs.Facts.{is_refusal}
use Rattle.chart.proofs.facts.count_refused.Given as goal

abbrev pub invariant-loop-row : goal.invariant-loop-row
invariant-loop-row l = record {
  few : l.count ≤ l.row-index;
  counted : l.count + count_by is_refusal (drop l.row-index l.rows) ≡ count_by is_refusal l.rows;
}
