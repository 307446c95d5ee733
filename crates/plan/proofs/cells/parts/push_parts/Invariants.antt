use Rattle.std.proofs.Common.{◌≡◌, ◌++◌, drop}
use Rattle.plan.specs.PlanCells.{parts_after, parts_of}
use Rattle.plan.proofs.cells.parts.push_parts.Given as goal

abbrev pub invariant-loop-octet : goal.invariant-loop-octet
invariant-loop-octet l =
    l.parts.items ++ parts_after l.part.items (drop l.octet-index l.text)
    ≡ l.fn.parts.items ++ parts_of l.text
