-- The octets of each unit before the place are written.
use Rattle.std.proofs.Common.{◌≡◌, ℕ, ◌*◌, ◌<◌, length, get_or}
use Rattle.ucs2_text.proofs.Places.{octet_at_place}
use Rattle.ucs2_text.proofs.octets.octets_of.Given as goal

abbrev pub invariant-loop-place : goal.invariant-loop-place
invariant-loop-place l = (length l.octets ≡ 82) × ((k : ℕ) → k < 2 * l.place
    → get_or l.octets k 0 ≡ octet_at_place l.units k)
