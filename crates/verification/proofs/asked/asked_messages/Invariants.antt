use Rattle.std.proofs.Common.{◌≡◌, ◌++◌, drop, map}
use Rattle.verification.specs.Asked.{asked_of_log}
use Rattle.verification.specs.Kept.{asked_kept}
use Rattle.verification.proofs.asked.asked_messages.Given as goal

abbrev pub invariant-loop-place : goal.invariant-loop-place
invariant-loop-place l = map asked_kept l.messages.items ++ asked_of_log (drop l.place l.log) ≡ asked_of_log l.log
