use Rattle.std.proofs.Common.{length, ◌-◌, ◌≡◌, ◌<◌, ◌≤◌, false, true, take}
use Rattle.std.specs.Io.KnownBytes.{Appends}
use Rattle.device_ends.specs.Sink.{sink_failed, writer_of}
use Rattle.device_ends.proofs.transfer.write_front.Given as goal

abbrev pub invariant-loop-out : goal.invariant-loop-out
invariant-loop-out g l = record {
  bound : l.out ≤ length l.octets;
  appended : Appends (g.W.Write.contents (writer_of l.initial.sink)) (g.W.Write.contents (writer_of l.sink))
      (take l.out l.octets);
  not_failed : 0 < l.out → sink_failed l.sink ≡ false;
  failed_stays : sink_failed l.initial.sink ≡ true → l.sink ≡ l.initial.sink;
}

abbrev pub decreases-loop-out : goal.decreases-loop-out
decreases-loop-out g l = length l.octets - l.out
