use Rattle.std.proofs.Common.{◌≡◌, ◌≤◌, length}
use Rattle.warnc_run.proofs.read.no_readings_yet.Given as goal

abbrev pub invariant-loop : goal.invariant-loop
invariant-loop l = (length l.all.items ≡ l.counter) × (l.counter ≤ l.count)
