use Rattle.std.proofs.Common.{◌≡◌, ◌++◌, take}
use Rattle.std.specs.List.{flat_map}
use Rattle.verification.specs.FoundSteps.{lines_of_state}
use Rattle.verification.proofs.findings.push_cells.Given as goal

abbrev pub invariant-loop-state : goal.invariant-loop-state
invariant-loop-state l = l.text.items ≡ l.fn.text.items ++ flat_map (lines_of_state l.start)
    (take l.state-index l.cells)
