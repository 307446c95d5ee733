use Rattle.std.proofs.Common.{◌≡◌, take}
use Rattle.std.specs.List.{flat_map}
use Rattle.verification.specs.FoundSteps.{rows_of_state}
use Rattle.verification.proofs.findings.rows_of_cells.Given as goal

abbrev pub invariant-loop-state : goal.invariant-loop-state
invariant-loop-state l = l.rows.items ≡ flat_map rows_of_state (take l.state-index l.cells)
