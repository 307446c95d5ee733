-- The octets of a stream, one by one.
use Rattle.std.proofs.Common.{◌≡◌, ℕ, zero, suc, ◌+◌, ◌-◌, ◌<◌, ◌≤◌, ◌∙◌, List, [], ◌∷◌, ◌++◌, ap, refl, sym, arith}
use Rattle.std.proofs.Common.{append-nil, append_assoc, Some, None}
use Rattle.link_streams.specs.Stream.{before_gap, first_octet_at, octets_from, sequence_after}
use Rattle.link_streams.specs.declared.waiting.Waiting.{Waiting}

-- one octet more that is there
pub octets_more : (most count : ℕ) (parts : List Waiting) (place octet : ℕ) (octets all : List ℕ) → count < most →
    first_octet_at parts place ≡ Some octet → octets ++ octets_from (most - count) parts place ≡ all →
    (octets ++ octet ∷ []) ++ octets_from (most - (count + 1)) parts (sequence_after place 1) ≡ all
unfolding octets_from
octets_more most count parts place octet octets all few here is =
    let rest : ℕ = most - (count + 1) in
    let one : most - count ≡ suc rest = omega (arith, few) in
    let step : octets_from (suc rest) parts place ≡ octet ∷ octets_from rest parts (sequence_after place 1) =
    ap (λ it. before_gap it (octets_from rest parts (sequence_after place 1))) here in
    append_assoc octets (octet ∷ []) (octets_from rest parts (sequence_after place 1))
    ∙ ap (λ it. octets ++ it) (sym (ap (λ n. octets_from n parts place) one ∙ step))
    ∙ is

-- none are there from a gap on
pub none_there : (most : ℕ) (parts : List Waiting) (place : ℕ) → first_octet_at parts place ≡ None →
    octets_from most parts place ≡ []
unfolding octets_from
none_there zero parts place none = refl
none_there (suc most) parts place none =
    ap (λ it. before_gap it (octets_from most parts (sequence_after place 1))) none

-- a gap ends them
pub octets_end : (most : ℕ) (parts : List Waiting) (place : ℕ) (octets all : List ℕ) →
    first_octet_at parts place ≡ None → octets ++ octets_from most parts place ≡ all → octets ≡ all
octets_end most parts place octets all none is =
    sym (append-nil octets) ∙ ap (λ it. octets ++ it) (sym (none_there most parts place none)) ∙ is

-- and so does their greatest number
pub octets_full : (most count : ℕ) (parts : List Waiting) (place : ℕ) (octets all : List ℕ) → most ≤ count →
    octets ++ octets_from (most - count) parts place ≡ all → octets ≡ all
unfolding octets_from
octets_full most count parts place octets all full is =
    let none : most - count ≡ 0 = omega (arith, full) in
    sym (append-nil octets) ∙ ap (λ n. octets ++ octets_from n parts place) (sym none) ∙ is
