use Rattle.std.proofs.Common.{◌≡◌, ◌++◌, map, take}
use Rattle.order_verdict.specs.Verdict.{of_air}
use Rattle.order_verdict.proofs.verdict.push_all_of_air.Given as goal

abbrev pub invariant-loop-difference : goal.invariant-loop-difference
invariant-loop-difference l =
    l.found.items ≡ l.fn.found.items ++ map of_air (take l.difference-index l.differences)
