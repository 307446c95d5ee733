use Rattle.gsmtap.specs.SendersSteps.{AreRowsOf}
use Rattle.gsmtap.proofs.sender_table.rows_of.Given as goal

abbrev pub invariant-loop-sender : goal.invariant-loop-sender
invariant-loop-sender l = AreRowsOf l.yielded l.rows.items
