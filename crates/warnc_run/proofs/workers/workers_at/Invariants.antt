use Rattle.std.proofs.Common.{◌≡◌, ◌+◌, ◌≤◌, All}
use Rattle.tickets.specs.Draws.{IsSeatOf}
use Rattle.warnc_run.proofs.workers.workers_at.Given as goal

abbrev pub invariant-loop : goal.invariant-loop
invariant-loop g l = record {
  of : IsSeatOf l.counter-2 l.first;
  spare : l.first.spare + l.counter ≡ 64;
  each : All (λ player. IsSeatOf l.counter-2 player.seat) l.players.items;
  few : l.counter ≤ l.count;
}
