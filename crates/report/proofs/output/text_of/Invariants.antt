use Rattle.std.proofs.Common.{◌-◌, ◌≤◌, length, take}
use Rattle.report.specs.ReportText.{part_text}
use Rattle.report.specs.TextSteps.{IsTable}
use Rattle.report.proofs.output.text_of.Given as goal

abbrev pub invariant-loop-place : goal.invariant-loop-place
invariant-loop-place l = record {
  within : l.place ≤ length l.rows;
  text : IsTable l.table (part_text l.headed (take l.place l.rows));
}

abbrev pub decreases-loop-place : goal.decreases-loop-place
decreases-loop-place l = length l.rows - l.place
