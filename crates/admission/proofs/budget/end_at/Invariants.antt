use Rattle.std.proofs.Common.{◌≡◌, ◌++◌, take, drop}
use Rattle.admission.specs.Table.{ends_at}
use Rattle.admission.proofs.budget.end_at.Given as goal

abbrev pub invariant-loop-held : goal.invariant-loop-held
invariant-loop-held l =
    l.table ≡ ends_at l.entry l.slot (take l.held-index l.initial.table) ++ drop l.held-index l.initial.table
