use Rattle.std.proofs.Common.{◌-◌, ◌<◌, ◌≤◌, ◌++◌, ℕ, List, length, take}
use Rattle.std.specs.List.{flat_map}
use Rattle.report.specs.ReportText.{row_line}
use Rattle.report.specs.TextSteps.{IsTable}
use Rattle.report.proofs.table.Table.push_cell.Given as goal

abbrev pub invariant-loop-count : goal.invariant-loop-count
invariant-loop-count l = record {
  some : 0 < l.count;
  within : l.count ≤ length l.rows;
  lines : (octets : List ℕ) → IsTable l.fn.self octets
      → IsTable l.self (octets ++ flat_map row_line (take l.count l.rows));
}

abbrev pub decreases-loop-count : goal.decreases-loop-count
decreases-loop-count l = length l.rows - l.count
