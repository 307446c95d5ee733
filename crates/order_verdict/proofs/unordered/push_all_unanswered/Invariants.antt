use Rattle.std.proofs.Common.{◌≡◌, ◌++◌, take}
use Rattle.std.specs.List.{flat_map}
use Rattle.order_verdict.specs.Verdict.{unanswered}
use Rattle.order_verdict.proofs.unordered.push_all_unanswered.Given as goal

abbrev pub invariant-loop-row : goal.invariant-loop-row
invariant-loop-row l = l.found.items ≡ l.fn.found.items ++ flat_map unanswered (take l.row-index l.rows)
