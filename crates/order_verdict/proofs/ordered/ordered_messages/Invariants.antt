use Rattle.std.proofs.Common.{◌≡◌, ◌++◌, drop, map, take}
use Rattle.order_verdict.specs.Kept.{ordered_kept}
use Rattle.order_verdict.specs.Ordered.{ordered_after, ordered_in}
use Rattle.order_verdict.proofs.ordered.ordered_messages.Given as goal

abbrev pub invariant-loop-place : goal.invariant-loop-place
invariant-loop-place l =
    map ordered_kept l.messages.items ++ ordered_after l.delay (take l.place l.rows) (drop l.place l.rows)
    ≡ ordered_in l.delay l.rows
