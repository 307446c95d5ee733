-- Where an element is first, and the fields from a place on.
use Rattle.std.proofs.Common.{◌≡◌, ◌<◌, ◌≤◌, ℕ, zero, suc, Bool, not, List, [], ◌∷◌, length, drop, Some, None, arith}
use Rattle.std.proofs.Common.{◌+◌, add-one, refl, ⊎_elim}
use Rattle.std.specs.Prelude.{position}
use Rattle.std.specs.List.{position_or_len}
use Rattle.std.proofs.lemmas.Bool.{cases_lt}
use Rattle.std.proofs.lemmas.List.Sums.{prefix_len-le-length}
use Rattle.csv.specs.Records.{field_at}
use Rattle.orders_file.specs.Columns.{column}

-- the place of the first that passes a test, if there is one
pub place_some : {X : Type 0} (p : X → Bool) (xs : List X) (n : ℕ) → Some n ≡ position p xs → n ≡ position_or_len p xs
place_some p xs n e = grind arith

-- and the length, if there is none
pub place_none : {X : Type 0} (p : X → Bool) (xs : List X) → None ≡ position p xs → length xs ≡ position_or_len p xs
place_none p xs e =
    ⊎_elim (λ (less : position_or_len p xs < length xs). grind arith)
    (λ (all : length xs ≤ position_or_len p xs). omega (arith, all, prefix_len-le-length (λ x. not (p x)) xs))
    (cases_lt (position_or_len p xs) (length xs))

-- the same, with the number of the next place as a successor
next_column : (fields : List (List ℕ)) (place : ℕ) → place < length fields
    → drop place fields ≡ column fields place ∷ drop (suc place) fields
unfolding field_at
next_column [] place less = absurd (omega arith)
next_column (field ∷ fields) zero less = refl
next_column (field ∷ fields) (suc place) less = next_column fields place (omega arith)

-- the fields from a place on are the one there, and those behind it
pub from_column : (fields : List (List ℕ)) (place : ℕ) → place < length fields
    → drop place fields ≡ column fields place ∷ drop (place + 1) fields
from_column fields place less = rw add-one (next_column fields place less)
