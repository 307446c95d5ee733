use Rattle.std.proofs.Common.{◌≡◌, take}
use Rattle.handset.specs.Tape.{readings_of}
use Rattle.report.specs.Rows.{report_rows}
use Rattle.report.proofs.cells.all_rows.Given as goal

abbrev pub invariant-loop-place : goal.invariant-loop-place
invariant-loop-place l = l.rows.items ≡ report_rows (take l.place l.records) (readings_of (take l.place l.readings))
