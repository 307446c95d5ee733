use Rattle.std.proofs.Common.{◌≡◌, take}
use Rattle.reply_outcome.specs.Replies.{cells_counted}
use Rattle.reply_outcome.proofs.outcome.cells_counted.Given as goal

abbrev pub invariant-loop-count : goal.invariant-loop-count
invariant-loop-count l = l.list.items ≡ cells_counted (take l.count-index l.completed)
