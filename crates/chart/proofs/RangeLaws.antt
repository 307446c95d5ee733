-- What is drawn slot by slot.
use Rattle.std.proofs.Common.{◌≡◌, ◌<◌, ◌+◌, ◌-◌, ◌++◌, ◌∙◌, ◌∷◌, ℕ, suc, zero, List, ap, append_assoc, get_or, length}
use Rattle.std.proofs.Common.{map, refl}
use native.Mathlib.Omega.{arith}
use Rattle.std.specs.List.{flat_map, range_with_len}
use Rattle.std.proofs.lemmas.List.FromFn.{fill_by_all}

-- a slot that was drawn, and those after it, are those from it on
pub drawn_on : (f : ℕ → List ℕ) (slot end : ℕ) (page after whole : List ℕ)
    → slot < end
    → after ≡ page ++ f slot
    → page ++ flat_map f (range_with_len slot (end - slot)) ≡ whole
    → after ++ flat_map f (range_with_len (slot + 1) (end - (slot + 1))) ≡ whole
drawn_on f slot end page after whole within is so_far =
    ap (λ (octets : List ℕ). octets ++ flat_map f (range_with_len (slot + 1) (end - (slot + 1)))) is
    ∙ append_assoc page (f slot) (flat_map f (range_with_len (slot + 1) (end - (slot + 1))))
    ∙ ap (λ (n : ℕ). page ++ flat_map f (range_with_len slot n)) next
    ∙ so_far
  where
    next : suc (end - (slot + 1)) ≡ end - slot
    next = omega (arith, within)

-- what is made of each number of a range, by its place
placed : (f : ℕ → ℕ) (from start n : ℕ)
    → map (λ place. f (from + place)) (range_with_len start n) ≡ map f (range_with_len (from + start) n)
placed f from start zero = refl
placed f from start (suc n) =
    let next : from + (start + 1) ≡ from + start + 1 = omega arith in
    ap (λ (rest : List ℕ). f (from + start) ∷ rest)
    (placed f from (start + 1) n ∙ ap (λ (first : ℕ). map f (range_with_len first n)) next)

-- a list whose elements are made of their places from a number on
pub filled_from : (f : ℕ → ℕ) (xs : List ℕ) (from n d : ℕ) → length xs ≡ n
    → ((k : ℕ) → k < n → get_or xs k d ≡ f (from + k))
    → xs ≡ map f (range_with_len from n)
filled_from f xs from n d long each =
    let start : from + 0 ≡ from = omega arith in
    fill_by_all (λ place. f (from + place)) xs n d long each
    ∙ placed f from 0 n
    ∙ ap (λ (first : ℕ). map f (range_with_len first n)) start
