use Rattle.std.proofs.Common.{◌≡◌, ℕ, take}
use Rattle.handset.specs.Keeping.{messages_shown}
use Rattle.report.specs.Rows.{is_shown}
use Rattle.report.specs.RowSteps.{has_name}
use Rattle.report.proofs.names.ShownIds.of.Given as goal

abbrev pub invariant-loop-message : goal.invariant-loop-message
invariant-loop-message l =
    (id serial : ℕ) → has_name l.pairs.keys id serial ≡ is_shown (messages_shown (take l.message-index l.shown)) id
    serial
