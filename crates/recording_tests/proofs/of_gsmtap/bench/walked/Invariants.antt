use Rattle.std.proofs.Common.{◌≡◌, ◌-◌, ◌≤◌, ℕ, List, length}
use Rattle.gsmtap.specs.TapesTaken.{IsWalkFor}
use Rattle.gsmtap.specs.declared.tape.Wanted.{Wanted}
use Rattle.recording_tests.proofs.of_gsmtap.bench.walked.Given as goal

abbrev pub invariant-parts : goal.invariant-parts
invariant-parts l = record {
  walk : (wanted : List Wanted) × (input : List ℕ) × IsWalkFor wanted input l.walk × (length input ≡ l.came);
  within : l.came ≤ length l.octets;
}

abbrev pub decreases-parts : goal.decreases-parts
decreases-parts l = length l.octets - l.came
