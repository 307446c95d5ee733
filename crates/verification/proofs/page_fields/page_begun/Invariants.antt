use Rattle.std.proofs.Common.{◌≡◌, ◌-◌, drop, find}
use Rattle.std.specs.List.{flat_map, range_with_len}
use Rattle.verification.specs.Explained.{is_named_by, octets_begun, octets_in_front}
use Rattle.verification.proofs.page_fields.page_begun.Given as goal

abbrev pub invariant-loop-place : goal.invariant-loop-place
invariant-loop-place l =
    find (is_named_by l.difference)
    (flat_map (λ place. octets_in_front (drop place l.blocks)) (range_with_len l.place (4 - l.place)))
    ≡ find (is_named_by l.difference) (octets_begun l.blocks)
