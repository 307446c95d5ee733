use Rattle.std.proofs.Common.{◌≡◌, drop}
use Rattle.handset.specs.Keeping.{messages_shown}
use Rattle.chart.specs.Message.{text_shown}
use Rattle.chart.proofs.message.text_shown.Given as goal

abbrev pub invariant-loop-message : goal.invariant-loop-message
invariant-loop-message l =
    text_shown (messages_shown (drop l.message-index l.shown)) l.id l.serial
    ≡ text_shown (messages_shown l.shown) l.id l.serial
