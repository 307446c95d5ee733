-- Filters of lists of cells, and of what has cells.
use Rattle.std.proofs.Common.{◌≡◌, Bool, true, false, cond, List, [], ◌∷◌, map, filter, refl, ap, inl, inr}
use Rattle.std.specs.List.{list_any}
use Rattle.std.proofs.lemmas.Bool.{cases_Bool}

-- what passes one test passes another one: then the second leaves out none that the first lets pass
pub filter_first : {X : Type 0} (p q : X → Bool) → ((x : X) → p x ≡ true → q x ≡ true) → (xs : List X)
    → filter p (filter q xs) ≡ filter p xs
filter_first p q so [] = refl
filter_first p q so (x ∷ xs) = by_second (q x) (p x) refl (so x) (filter_first p q so xs)
  where
    by_second : (second first : Bool) → p x ≡ first → (p x ≡ true → second ≡ true)
        → filter p (filter q xs) ≡ filter p xs
        → filter p (cond second (x ∷ filter q xs) (filter q xs)) ≡ cond first (x ∷ filter p xs) (filter p xs)
    by_second true true is then rest = rw is (ap (λ (l : List _). x ∷ l) rest)
    by_second true false is then rest = rw is rest
    by_second false true is then rest = let also = then is in absurd (cc)
    by_second false false is then rest = rest

-- and none that it finds
pub any_first : {X : Type 0} (p q : X → Bool) → ((x : X) → p x ≡ true → q x ≡ true) → (xs : List X)
    → list_any p (filter q xs) ≡ list_any p xs
any_first p q so [] = refl
any_first p q so (x ∷ xs) = elim (cases_Bool (q x)) [
  | inl kept ↦ rw (kept, any_first p q so xs) refl
  | inr left ↦ elim (cases_Bool (p x)) [
    | inl found ↦ absurd (both found left)
    | inr other ↦ rw (left, other) (any_first p q so xs)
  ]
]
  where
    both : p x ≡ true → q x ≡ false → ⊥
    both found left = let also = so x found in cc

-- a filter of what a list is mapped to
pub filter_mapped : {X Y : Type 0} (p : Y → Bool) (f : X → Y) (xs : List X)
    → filter p (map f xs) ≡ map f (filter (λ x. p (f x)) xs)
filter_mapped p f [] = refl
filter_mapped p f (x ∷ xs) = by_first (p (f x)) (filter_mapped p f xs)
  where
    by_first : (first : Bool) → filter p (map f xs) ≡ map f (filter (λ y. p (f y)) xs)
        → cond first (f x ∷ filter p (map f xs)) (filter p (map f xs))
        ≡ map f (cond first (x ∷ filter (λ y. p (f y)) xs) (filter (λ y. p (f y)) xs))
    by_first true rest = ap (λ (l : List _). f x ∷ l) rest
    by_first false rest = rest

-- two filters, one after the other, in either order
pub filter_swap : {X : Type 0} (p q : X → Bool) (xs : List X) → filter p (filter q xs) ≡ filter q (filter p xs)
filter_swap p q [] = refl
filter_swap p q (x ∷ xs) = by_both (p x) (q x) refl refl (filter_swap p q xs)
  where
    by_both : (first second : Bool) → p x ≡ first → q x ≡ second
        → filter p (filter q xs) ≡ filter q (filter p xs)
        → filter p (cond second (x ∷ filter q xs) (filter q xs)) ≡ filter q (cond first (x ∷ filter p xs) (filter p xs))
    by_both true true one two rest = rw (one, two) (ap (λ (l : List _). x ∷ l) rest)
    by_both true false one two rest = rw two rest
    by_both false true one two rest = rw one rest
    by_both false false one two rest = rest
