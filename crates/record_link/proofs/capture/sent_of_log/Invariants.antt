use Rattle.std.proofs.Common.{◌≡◌, take}
use Rattle.std.specs.List.{flat_map}
use Rattle.record_link.specs.Sent.{sent_of_entry}
use Rattle.record_link.proofs.capture.sent_of_log.Given as goal

abbrev pub invariant-loop-entry : goal.invariant-loop-entry
invariant-loop-entry l = l.sent.items ≡ flat_map (sent_of_entry l.cell) (take l.entry-index l.log)
