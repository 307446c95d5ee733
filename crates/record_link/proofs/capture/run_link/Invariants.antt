use Rattle.std.proofs.Common.{◌≡◌, ◌++◌, drop}
use Rattle.record_link.specs.Sent.{connections_from, run_link}
use Rattle.record_link.proofs.capture.run_link.Given as goal

abbrev pub invariant-loop-place : goal.invariant-loop-place
invariant-loop-place l =
    l.output.items ++ connections_from l.start l.place (drop l.place l.records) ≡ run_link l.start l.records
