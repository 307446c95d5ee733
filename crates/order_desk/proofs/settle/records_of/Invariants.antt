use Rattle.std.specs.List.{AllZip}
use Rattle.order_desk.specs.Settled.{IsPlayedOut}
use Rattle.order_desk.proofs.settle.records_of.Given as goal

abbrev pub invariant-loop-book : goal.invariant-loop-book
invariant-loop-book l = AllZip IsPlayedOut l.yielded l.records.items
