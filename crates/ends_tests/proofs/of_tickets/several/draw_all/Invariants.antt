use Rattle.tickets.specs.Draws.{IsSeatOf}
use Rattle.ends_tests.proofs.of_tickets.several.draw_all.Given as goal

abbrev pub invariant-loop : goal.invariant-loop
invariant-loop l = IsSeatOf l.counter-2 l.seat
