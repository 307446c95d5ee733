use Rattle.std.proofs.Common.{◌≡◌, drop}
use Rattle.std.specs.List.{list_any}
use Rattle.verification.specs.Shift.{is_untimely}
use Rattle.verification.proofs.shift.any_is_untimely.Given as goal

abbrev pub invariant-loop-difference : goal.invariant-loop-difference
invariant-loop-difference l =
    list_any (λ d. is_untimely d.kind) (drop l.difference-index l.found)
    ≡ list_any (λ d. is_untimely d.kind) l.found
