-- A capture that is read part by part, each of which a walk takes. Contracts of private functions alone speak of it.
use Rattle.std.specs.Prelude.{◌≡◌, ℕ, ◌<◌, ◌≤◌, ◌^◌, List, [], ◌++◌, Option, length}
use Rattle.device_ends.specs.Moves.{ReadsUpTo}
use Rattle.gsmtap.specs.TapesTaken.{IsWalkFor}
use Rattle.gsmtap.specs.declared.tape.Wanted.{Wanted}
use Rattle.gsmtap.specs.declared.tapes.Tapes.{Tapes}
use Rattle.gsmtap.specs.declared.walk.Walk.{Walk}
use Rattle.warnc_air.specs.TapeOutput.{max_capture}

-- a walk took these octets, whatever it is for
abbrev pub HasWalked : {G T : Type 0} → (IsOf : G → List ℕ → Walk T → Type 0) → (old : Walk T) (octets : List ℕ)
    (new : Walk T) → Type 0
HasWalked {G} IsOf old octets new =
    (given : G) (input : List ℕ) → IsOf given input old → IsOf given (input ++ octets) new

-- a walk took what a reader gave, so many octets: all, or one more than a bound
pub record WalksUpTo {G T : Type 0} (IsOf : G → List ℕ → Walk T → Type 0) (first last : Walk T) (count most : ℕ)
    (old new : Option (List ℕ)) : Type 0
  where
    pub octets : List ℕ
    pub reads : ReadsUpTo old new octets most
    pub many : length octets ≡ count
    pub taken : HasWalked IsOf first octets last

-- nothing came yet of the file that a walk is over
pub record IsNewWalk {G T : Type 0} (IsOf : G → List ℕ → Walk T → Type 0) (walk : Walk T) : Type 0 where
  pub given : G
  pub is : IsOf given [] walk

-- some octets came of it, within the bound
pub record IsWithin {G T : Type 0} (IsOf : G → List ℕ → Walk T → Type 0) (walk : Walk T) : Type 0 where
  pub given : G
  pub input : List ℕ
  pub is : IsOf given input walk
  pub short : length input ≤ max_capture

-- a file came that isn't too long, and there are so few tapes that their places can be counted
abbrev pub IsWalkedOver : Walk Tapes → Type 0
IsWalkedOver walk =
    (wanted : List Wanted) × (input : List ℕ) × IsWalkFor wanted input walk × (length input ≤ max_capture)
    × (length wanted < 2 ^ 63)
