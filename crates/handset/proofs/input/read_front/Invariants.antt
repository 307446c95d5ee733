use Rattle.std.proofs.Common.{length, ◌-◌, ◌≡◌, ◌≤◌, false, take}
use Rattle.std.specs.Io.KnownBytes.{Consumes}
use Rattle.device_ends.specs.Source.{reader_of, source_failed}
use Rattle.handset.proofs.input.read_front.Given as goal

abbrev pub invariant-loop-filled : goal.invariant-loop-filled
invariant-loop-filled g l = record {
  bound : l.filled ≤ length l.buffer;
  consumed : Consumes (g.R.Read.remaining (reader_of l.initial.source)) (g.R.Read.remaining (reader_of l.source))
      (take l.filled l.buffer);
  not_failed : source_failed l.source ≡ false;
}

abbrev pub decreases-loop-filled : goal.decreases-loop-filled
decreases-loop-filled g l = length l.initial.buffer - l.filled
