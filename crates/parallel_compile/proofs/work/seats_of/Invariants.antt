use Rattle.std.proofs.Common.{◌≡◌, ◌≤◌, All, length}
use Rattle.tickets.specs.Draws.{first_seat, new_seat}
use Rattle.parallel_compile.specs.Workers.{IsSplit}
use Rattle.parallel_compile.proofs.work.seats_of.Given as goal

abbrev pub invariant-loop : goal.invariant-loop
invariant-loop l = record {
  split : IsSplit l.counter-2 l.counter l.first;
  many : length l.seats.items ≡ l.counter;
  each : All (λ seat. seat ≡ new_seat (first_seat l.counter-2)) l.seats.items;
  few : l.counter ≤ l.workers;
}
