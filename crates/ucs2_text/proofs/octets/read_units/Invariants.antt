-- Every unit up to the place is read.
use Rattle.std.proofs.Common.{◌≡◌, ℕ, ◌<◌, length, get_or}
use Rattle.ucs2_text.specs.Ucs2.{units_of_octets}
use Rattle.ucs2_text.proofs.octets.read_units.Given as goal

abbrev pub invariant-loop-place : goal.invariant-loop-place
invariant-loop-place l = (length l.units ≡ 41) × ((k : ℕ) → k < l.place
    → get_or l.units k 0 ≡ get_or (units_of_octets l.octets) k 0)
