use Rattle.std.proofs.Common.{take}
use Rattle.report.specs.ReportText.{full_part_text}
use Rattle.report.specs.TextSteps.{IsTable}
use Rattle.report.proofs.output.full_text_of.Given as goal

abbrev pub invariant-loop-row : goal.invariant-loop-row
invariant-loop-row l = IsTable l.table (full_part_text l.headed l.orders (take l.row-index l.rows))
