-- Lists that have the same items.
use Rattle.std.proofs.Common.{◌≡◌, ◌∙◌, ℕ, zero, suc, ◌<◌, ◌≤◌, List, length, get_or, unwrap_or, ap, sym, refl, arith}
use Rattle.std.specs.List.{slice_get}
use Rattle.std.proofs.lemmas.List.{ext_get_or}
use Rattle.std.proofs.lemmas.Option.{slice_get_within, slice_get-get_or, unwrap_or-slice_get}

-- a list that is no longer than another, and has its items as far as that goes, is the other
pub same_lists : {X : Type 0} (d : X) (xs ys : List X) → length xs ≤ length ys
    → ((k : ℕ) → k < length ys → slice_get xs k ≡ slice_get ys k) → xs ≡ ys
same_lists d xs ys few same =
    let as_long : length ys ≤ length xs = reaches (length ys) refl in
    ext_get_or d xs ys (omega (arith, few, as_long)) (λ k within.
    sym (unwrap_or-slice_get xs k d)
    ∙ (ap (λ o. unwrap_or o d) (same k (omega (arith, few, within))) ∙ unwrap_or-slice_get ys k d))
  where
    reaches : (n : ℕ) → n ≡ length ys → length ys ≤ length xs
    reaches zero is = omega (arith, is)
    reaches (suc n) is =
        let last : n < length ys = omega (arith, is) in
        let there = slice_get_within xs n (get_or ys n d) (same n last ∙ slice_get-get_or ys n d last) in
        omega (arith, is, there)
