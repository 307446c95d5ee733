use Rattle.std.proofs.Common.{◌-◌, ◌≡◌, ◌<◌, ◌≤◌, ℕ, List, false, length, true}
use Rattle.std.specs.Io.KnownBytes.{Consumes}
use Rattle.device_ends.specs.Source.{reader_of, source_failed}
use Rattle.gsmtap.specs.Walk.{IsWalkOf}
use Rattle.warnc_air.specs.WalkSteps.{HasWalked}
use Rattle.warnc_air.proofs.reading.walk_over.Given as goal

abbrev pub invariant-loop-read : goal.invariant-loop-read
invariant-loop-read g l = record {
  walks :
      (octets : List ℕ)
      × Consumes (g.R.Read.remaining (reader_of l.initial.source)) (g.R.Read.remaining (reader_of l.source)) octets
      × (length octets ≡ l.read)
      × HasWalked (IsWalkOf g.T.TakesPackets.taking g.T.TakesPackets.HasTaken) l.initial.walk octets l.walk;
  bound : l.read ≤ 1073741825;
  not_failed : 0 < l.read → source_failed l.source ≡ false;
  failed_stays : source_failed l.initial.source ≡ true → l.source ≡ l.initial.source;
}

abbrev pub decreases-loop-read : goal.decreases-loop-read
decreases-loop-read g l = 1073741825 - l.read
