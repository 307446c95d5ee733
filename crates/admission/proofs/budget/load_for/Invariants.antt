use Rattle.std.proofs.Common.{◌≡◌, drop}
use Rattle.admission.specs.Table.{load_for}
use Rattle.admission.proofs.budget.load_for.Given as goal

abbrev pub invariant-loop-held : goal.invariant-loop-held
invariant-loop-held l = load_for l.entry (drop l.held-index l.table) ≡ load_for l.entry l.table
