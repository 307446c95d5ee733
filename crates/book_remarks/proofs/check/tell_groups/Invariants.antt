use Rattle.book_remarks.specs.RemarkedSteps.{AreToldBefore}
use Rattle.book_remarks.proofs.check.tell_groups.Given as goal

abbrev pub invariant-loop-group : goal.invariant-loop-group
invariant-loop-group g l = AreToldBefore l.fn.network l.fn.slots l.fn.start l.group l.count l.table
