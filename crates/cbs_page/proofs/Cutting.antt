-- Cutting in one pass, from the front: what the loops of `paginate` make. PagingLaws shows that it is the one list of
-- pieces that the definition of the pages of a text allows.
use Rattle.std.specs.Prelude.{ℕ, ◌+◌, List, [], ◌∷◌, ◌++◌, length, nat_le, sum_by, if◌then◌else◌}

-- the pieces of `piece ++ rest`, where `piece` is the piece at hand
abbrev pub pieces_from : (cost : ℕ → ℕ) (limit : ℕ) → List ℕ → List ℕ → List (List ℕ)
pieces_from cost limit piece [] = piece ∷ []
pieces_from cost limit piece (c ∷ rest) =
    if nat_le (sum_by cost piece + cost c) limit then pieces_from cost limit (piece ++ c ∷ []) rest
    else piece ∷ pieces_from cost limit (c ∷ []) rest

-- the same of the codes that the characters stand for
abbrev pub cuts_from : (codes : ℕ → List ℕ) (limit : ℕ) → List ℕ → List ℕ → List (List ℕ)
cuts_from codes limit piece [] = piece ∷ []
cuts_from codes limit piece (c ∷ rest) =
    if nat_le (length piece + length (codes c)) limit then cuts_from codes limit (piece ++ codes c) rest
    else piece ∷ cuts_from codes limit (codes c) rest

-- how many pieces there are, where `used` codes stand in the piece at hand
abbrev pub count_from : (codes : ℕ → List ℕ) (limit : ℕ) → ℕ → List ℕ → ℕ
count_from codes limit used [] = 1
count_from codes limit used (c ∷ rest) =
    if nat_le (used + length (codes c)) limit then count_from codes limit (used + length (codes c)) rest
    else 1 + count_from codes limit (length (codes c)) rest
