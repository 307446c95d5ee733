use Rattle.std.proofs.Common.{◌≡◌, ℕ, ◌*◌, ◌<◌, List, length, get_or}
use Rattle.septets.specs.Packing.{septet_at}
use Rattle.septets.proofs.unpack.Given as goal

-- the septets before this place are read
pub record AreRead (octets septets : List ℕ) (count : ℕ) : Type 0 where
  pub size : length septets ≡ 93
  pub read : (k : ℕ) → k < count → get_or septets k 0 ≡ septet_at octets k

abbrev pub invariant-loop-group : goal.invariant-loop-group
invariant-loop-group l = AreRead l.octets l.septets (8 * l.group)

abbrev pub invariant-loop-place : goal.invariant-loop-place
invariant-loop-place l = AreRead l.octets l.septets l.place
