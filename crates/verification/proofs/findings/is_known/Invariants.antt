use Rattle.std.proofs.Common.{◌≡◌, drop, map}
use Rattle.verification.specs.Rows.{is_known}
use Rattle.verification.proofs.findings.is_known.Given as goal

abbrev pub invariant-loop-state : goal.invariant-loop-state
invariant-loop-state l =
    is_known (map (λ c. c.run) (drop l.state-index l.cells)) l.cell ≡ is_known (map (λ c. c.run) l.cells) l.cell
