-- The books so far are played out.
use Rattle.std.specs.List.{AllZip}
use Rattle.order_desk.specs.Settled.{IsPlayedOut}
use Rattle.session_check.proofs.alone.records_of.Given as goal

abbrev pub invariant-loop-book : goal.invariant-loop-book
invariant-loop-book l = AllZip IsPlayedOut l.yielded l.records.items
