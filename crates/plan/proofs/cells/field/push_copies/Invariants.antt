use Rattle.std.proofs.Common.{◌≡◌, ◌++◌, take}
use Rattle.plan.proofs.cells.field.push_copies.Given as goal

abbrev pub invariant-loop-other : goal.invariant-loop-other
invariant-loop-other l = l.texts.items ≡ l.fn.texts.items ++ take l.other-index l.others
