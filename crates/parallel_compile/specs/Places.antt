-- Places for tapes (own). The contracts of private functions alone speak of them.
use Rattle.std.specs.Prelude.{◌≡◌, ◌<◌, ◌≤◌, ℕ, Option, Some, None, List, length, All}
use Rattle.std.specs.List.{slice_get}
use Rattle.order_desk.specs.SettleSteps.{IsLeastFailing}
use Rattle.tickets.specs.Draws.{times, numbers_below}
use Rattle.parallel_compile.specs.Gathered.{piece_numbers}

-- the number isn't given more often than once below n, and never from n on
abbrev pub IsWithin : ℕ → List ℕ → ℕ → Type 0
IsWithin n numbers x = times x numbers ≤ times x (numbers_below n)

-- Pieces were put in n places, one after the other: those places are free whose number no piece has, and each piece
-- is in its place unless one is spoilt.
pub record ArePut (n : ℕ) (pieces : List (ℕ × List ℕ)) (places : List (Option (List ℕ)))
    (spoilt : Option ℕ) : Type 0 where
  pub long : length places ≡ n
  pub least : IsLeastFailing (IsWithin n (piece_numbers pieces)) spoilt
  pub free : (x : ℕ) → slice_get places x ≡ Some None → times x (piece_numbers pieces) ≡ 0
  pub taken : (x : ℕ) (t : List ℕ) → slice_get places x ≡ Some (Some t) → 0 < times x (piece_numbers pieces)
  pub placed : spoilt ≡ None → All (λ (piece : ℕ × List ℕ). slice_get places piece.0 ≡ Some (Some piece.1)) pieces
