-- Where an element is first.
use Rattle.std.proofs.Common.{◌≡◌, ◌<◌, ◌≤◌, ℕ, Bool, not, List, length, Some, None, arith, ⊎_elim}
use Rattle.std.specs.Prelude.{position}
use Rattle.std.specs.List.{position_or_len}
use Rattle.std.proofs.lemmas.Bool.{cases_lt}
use Rattle.std.proofs.lemmas.List.Sums.{prefix_len-le-length}

-- the place of the first that passes a test, if there is one
pub place_some : {X : Type 0} (p : X → Bool) (xs : List X) (n : ℕ) → Some n ≡ position p xs → n ≡ position_or_len p xs
place_some p xs n e = grind arith

-- and the length, if there is none
pub place_none : {X : Type 0} (p : X → Bool) (xs : List X) → None ≡ position p xs → length xs ≡ position_or_len p xs
place_none p xs e =
    ⊎_elim (λ (less : position_or_len p xs < length xs). grind arith)
    (λ (all : length xs ≤ position_or_len p xs). omega (arith, all, prefix_len-le-length (λ x. not (p x)) xs))
    (cases_lt (position_or_len p xs) (length xs))
