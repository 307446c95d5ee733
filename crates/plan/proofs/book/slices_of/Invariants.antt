use Rattle.std.proofs.Common.{◌≡◌, Bor, ℕ, List, map, take}
use Rattle.plan.proofs.book.slices_of.Given as goal

abbrev pub invariant-loop-octets : goal.invariant-loop-octets
invariant-loop-octets l =
    map (λ (slice : Bor (List ℕ)). slice.now) l.slices.items ≡ take l.octets-index l.texts
