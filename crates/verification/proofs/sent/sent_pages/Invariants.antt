use Rattle.std.proofs.Common.{◌≡◌, ◌++◌, drop}
use Rattle.verification.specs.Sent.{sent_from, sent_in}
use Rattle.verification.proofs.sent.sent_pages.Given as goal

abbrev pub invariant-loop-place : goal.invariant-loop-place
invariant-loop-place l = l.sent.items ++ sent_from l.place (drop l.place l.blocks) ≡ sent_in l.blocks
