use Rattle.std.proofs.Common.{◌≡◌, ◌+◌, ◌≤◌, All, vec_capacity, vec_len}
use Rattle.tickets.specs.Draws.{IsSeatOf}
use Rattle.parallel_compile.proofs.stream.start.Given as goal

abbrev pub invariant-loop-seat : goal.invariant-loop-seat
invariant-loop-seat g l = record {
  many : vec_len l.handles + vec_len l.seats ≡ vec_len l.initial.seats;
  room : vec_len l.initial.seats ≤ vec_capacity l.handles;
  each : All (IsSeatOf l.counter) l.seats.items;
}

abbrev pub decreases-loop-seat : goal.decreases-loop-seat
decreases-loop-seat g l = vec_len l.seats
