-- Lists, one step further.
use Rattle.std.proofs.Common.{◌≡◌, ℕ, ◌+◌, ◌<◌, List, [], ◌∷◌, ◌++◌, length, take, drop, sym}
use Rattle.std.proofs.Common.{◌∙◌, ap, append_assoc, append-nil, arith, slice_index_or}
use Rattle.std.proofs.Math.Seq.{take-add}
use Rattle.std.specs.List.{flat_map, range_with_len}
use Rattle.std.proofs.lemmas.Grind.{flat_map-append}
use Rattle.std.proofs.lemmas.List.{take_more}
use Rattle.handset.proofs.Lists.{range-more}

-- the octets of one item more, after those of the items before it
pub flat_map-next : {X Y : Type 0} (f : X → List Y) (xs : List X) (i : ℕ) (item : X) (front : List Y) → i < length xs →
    item ≡ slice_index_or xs i item →
    (front ++ flat_map f (take i xs)) ++ f item ≡ front ++ flat_map f (take (i + 1) xs)
flat_map-next f xs i item front within is =
    append_assoc front (flat_map f (take i xs)) (f item)
    ∙ ap (λ ys. front ++ (flat_map f (take i xs) ++ ys)) (sym (append-nil (f item)))
    ∙ ap (λ ys. front ++ ys) (sym (flat_map-append f (take i xs) (item ∷ [])))
    ∙ ap (λ x. front ++ flat_map f (take i xs ++ x ∷ [])) is
    ∙ ap (λ ys. front ++ flat_map f ys) (sym (take_more xs i item within))

-- and of some items more
pub flat_map-more : {X Y : Type 0} (f : X → List Y) (xs : List X) (i count : ℕ) (front : List Y) →
    (front ++ flat_map f (take i xs)) ++ flat_map f (take count (drop i xs)) ≡ front ++ flat_map f (take (i + count) xs)
flat_map-more f xs i count front =
    append_assoc front (flat_map f (take i xs)) (flat_map f (take count (drop i xs)))
    ∙ ap (λ ys. front ++ ys) (sym (flat_map-append f (take i xs) (take count (drop i xs))))
    ∙ ap (λ ys. front ++ flat_map f ys) (sym (take-add i count xs))

range-next : (place : ℕ) → range_with_len 0 (place + 1) ≡ range_with_len 0 place ++ place ∷ []
range-next place =
    let e : 0 + place ≡ place = omega arith in
    range-more 0 place ∙ ap (λ (n : ℕ). range_with_len 0 place ++ n ∷ []) e

-- and of the next place
pub flat_map-place : {Y : Type 0} (f : ℕ → List Y) (place : ℕ) (front : List Y) →
    (front ++ flat_map f (range_with_len 0 place)) ++ f place ≡ front ++ flat_map f (range_with_len 0 (place + 1))
flat_map-place f place front =
    append_assoc front (flat_map f (range_with_len 0 place)) (f place)
    ∙ ap (λ ys. front ++ (flat_map f (range_with_len 0 place) ++ ys)) (sym (append-nil (f place)))
    ∙ ap (λ ys. front ++ ys) (sym (flat_map-append f (range_with_len 0 place) (place ∷ [])))
    ∙ ap (λ ys. front ++ flat_map f ys) (sym (range-next place))
