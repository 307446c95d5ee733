use Rattle.std.proofs.Common.{◌≡◌, map}
use Rattle.verification.specs.Found.{unjudged}
use Rattle.verification.proofs.findings.unjudged_cells.Given as goal

abbrev pub invariant-loop-run : goal.invariant-loop-run
invariant-loop-run l = l.cells.items ≡ map unjudged l.yielded
