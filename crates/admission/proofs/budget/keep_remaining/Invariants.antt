use Rattle.admission.proofs.Passing.{HasPassed}
use Rattle.admission.proofs.budget.keep_remaining.Given as goal

abbrev pub invariant-loop-place : goal.invariant-loop-place
invariant-loop-place l = HasPassed l.slot l.kept l.place l.table l.initial.table
