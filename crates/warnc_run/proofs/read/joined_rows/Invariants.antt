use Rattle.std.proofs.Common.{◌≡◌, All}
use Rattle.std.specs.List.{flat_map}
use Rattle.warnc_run.specs.ReadSteps.{WasMade, rows_in}
use Rattle.warnc_run.proofs.read.joined_rows.Given as goal

abbrev pub invariant-loop-made : goal.invariant-loop-made
invariant-loop-made l = (l.rows.items ≡ flat_map rows_in l.yielded) × All WasMade l.yielded
