use Rattle.std.proofs.Common.{◌≡◌, ℕ, ◌+◌, ◌*◌, ◌<◌, get_or, arith, ap, ◌∙◌, inl, inr}
use Rattle.std.proofs.lemmas.Bool.{cases_lt}
use Rattle.std.proofs.lemmas.List.{get_or-drop, get_or-take, get_or_past}
use Rattle.septets.proofs.Groups.{octet_of, septet_at-own}
use Rattle.septets.proofs.unpacked_group.Goals as goal

pub returns : goal.returns
returns c =
    let own = c.copy_from_slice.new.self in
    let same : (k : ℕ) → k < 8 → get_or own k 0 ≡ get_or c.args.octets.now (7 * c.args.group + k) 0 =
    λ k below. ap (λ xs. get_or xs k 0) c.copy_from_slice.ensures.after
    ∙ get_or-take _ _ k 0 (omega (arith, below)) ∙ get_or-drop _ c.args.octets.now k 0 in
    let fits : (k : ℕ) → get_or own k 0 < 256 =
    λ k. elim (cases_lt k 8) [
      | inl below ↦ rw (same k below) (c.fits-octets (7 * c.args.group + k))
      | inr past ↦ rw (get_or_past own k 0 (omega (arith, c.copy_from_slice.ensures.len))) (omega arith)
    ] in
    λ place within.
    ap (λ octets. get_or octets place 0) c.to_le_bytes.ensures
    ∙ octet_of c.spread.result place within
    ∙ c.spread.ensures place within
    ∙ septet_at-own c.args.octets.now own c.args.group c.copy_from_slice.ensures.len fits same c.from_le_bytes.result
    place c.from_le_bytes.ensures within
