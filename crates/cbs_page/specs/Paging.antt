-- The pages of a text. Own: 3GPP TS 23.041 leaves open how a text is cut; here each page takes all that it can.
use Rattle.std.specs.Prelude.{◌≡◌, ◌≢◌, ℕ, ◌+◌, ◌<◌, ◌≤◌, List, [], ◌∷◌, sum_by}
use Rattle.std.specs.List.{concat, AllByRecursion}

-- a piece could not have taken the first character of the piece after it
abbrev pub IsFilled : (cost : ℕ → ℕ) (limit : ℕ) → List ℕ → List (List ℕ) → Type 0
IsFilled cost limit piece [] = Unit {0}
IsFilled cost limit piece ([] ∷ rest) = Unit {0}
IsFilled cost limit piece ((c ∷ next) ∷ rest) = limit < sum_by cost piece + cost c

abbrev pub AreFilled : (cost : ℕ → ℕ) (limit : ℕ) → List (List ℕ) → Type 0
AreFilled cost limit [] = Unit {0}
AreFilled cost limit (piece ∷ rest) = IsFilled cost limit piece rest × AreFilled cost limit rest

-- the pieces of a text, one a page: in order they are the text, none is empty, the characters of each cost at most what
-- a page holds, and none could have taken the first character of the next
pub record IsPaging (cost : ℕ → ℕ) (limit : ℕ) (text : List ℕ) (pieces : List (List ℕ)) : Type 0 where
  pub whole : concat pieces ≡ text
  pub nonempty : AllByRecursion (λ piece. piece ≢ []) pieces
  pub within : AllByRecursion (λ piece. sum_by cost piece ≤ limit) pieces
  pub filled : AreFilled cost limit pieces
