use Rattle.std.proofs.Common.{◌-◌, ◌≡◌, ◌<◌, ◌≤◌, false, true, vec_len}
use Rattle.std.specs.Io.KnownBytes.{Consumes}
use Rattle.device_ends.specs.Source.{reader_of, source_failed}
use Rattle.device_ends.proofs.transfer.read_up_to.Given as goal

abbrev pub invariant-loop-source : goal.invariant-loop-source
invariant-loop-source g l = record {
  bound : vec_len l.octets ≤ l.most;
  consumed : Consumes (g.R.Read.remaining (reader_of l.initial.source)) (g.R.Read.remaining (reader_of l.source))
      l.octets.items;
  not_failed : 0 < vec_len l.octets → source_failed l.source ≡ false;
  failed_stays : source_failed l.initial.source ≡ true → l.source ≡ l.initial.source;
}

abbrev pub decreases-loop-source : goal.decreases-loop-source
decreases-loop-source g l = l.most - vec_len l.octets
