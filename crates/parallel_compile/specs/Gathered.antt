-- Pieces, each a number with a tape, and the tapes that they are gathered to.
use Rattle.std.specs.Prelude.{◌≡◌, ◌≢◌, ◌<◌, ⊤, ℕ, List, length, map, All, Some}
use Rattle.std.specs.List.{slice_get}
use Rattle.tickets.specs.Draws.{times, numbers_below, AreSame}
use Rattle.parallel_compile.specs.declared.fault.CompileFault.{CompileFault}
use Rattle.parallel_compile.specs.declared.fault.CompileFault.TheVariants as fault

-- the numbers of pieces
abbrev pub piece_numbers : List (ℕ × List ℕ) → List ℕ
piece_numbers pieces = map (λ (piece : ℕ × List ℕ). piece.0) pieces

-- the piece's tape is at the place of its number
abbrev pub IsAmongPieces : List (List ℕ) → (ℕ × List ℕ) → Type 0
IsAmongPieces tapes piece = slice_get tapes piece.0 ≡ Some piece.1

-- The numbers of the pieces are those below n, each once, and each piece is in its place.
pub record AreGathered (n : ℕ) (pieces : List (ℕ × List ℕ)) (tapes : List (List ℕ)) : Type 0 where
  pub numbered : AreSame (piece_numbers pieces) (numbers_below n)
  pub long : length tapes ≡ n
  pub placed : All (IsAmongPieces tapes) pieces

-- The number isn't given as often as it should be: once below n, and never from n on.
abbrev pub IsBad : ℕ → List ℕ → ℕ → Type 0
IsBad n numbers x = times x numbers ≢ times x (numbers_below n)

-- the least such number
abbrev pub IsLeastBad : ℕ → List ℕ → ℕ → Type 0
IsLeastBad n numbers index =
    IsBad n numbers index × ((x : ℕ) → x < index → times x numbers ≡ times x (numbers_below n))

-- a fault of gathering pieces with these numbers
abbrev pub IsOfPieces : ℕ → List ℕ → CompileFault → Type 0
IsOfPieces n numbers fault.Workers = ⊥
IsOfPieces n numbers fault.Refused = ⊤
IsOfPieces n numbers (fault.Piece index) = IsLeastBad n numbers index
