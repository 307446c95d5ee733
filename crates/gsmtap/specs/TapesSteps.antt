-- Steps over the packets of a file for many tapes. Contracts of private functions alone speak of it.
use Rattle.std.specs.Prelude.{◌≡◌, ℕ, ◌*◌, ◌≤◌, List, [], ◌∷◌, ◌++◌, length, map}
use Rattle.std.specs.List.{AllByRecursion}
use Rattle.gsmtap.specs.TapeOfCapture.{slots_taken, tape_of_known}
use Rattle.gsmtap.specs.TapeSteps.{known_of, last_slot}
use Rattle.gsmtap.specs.Track.{Known}
use Rattle.gsmtap.specs.declared.tape.Wanted.{Wanted}
use Rattle.gsmtap.specs.declared.track.Air.{Air}

-- what is known by now of each tape
abbrev pub known_of_each : List Air → List Known
known_of_each airs = map known_of airs

-- the latest slot of each tape is this one or one before it
abbrev pub AreNear : (slot : ℕ) → List Known → Type 0
AreNear slot known = AllByRecursion (λ (one : Known). last_slot one.track ≤ slot) known

-- each tape has four places for each of its slots
abbrev pub AreLong : List Wanted → List Known → Type 0
AreLong [] [] = Unit {0}
AreLong [] (known ∷ others) = ⊥
AreLong (one ∷ wanted) [] = ⊥
AreLong (one ∷ wanted) (known ∷ others) = (length known.blocks ≡ 4 * slots_taken one) × AreLong wanted others

-- the octets of the tapes of which this is known, one after the other
abbrev pub tapes_of_known : List Wanted → List Known → List ℕ
tapes_of_known [] known = []
tapes_of_known (one ∷ wanted) [] = []
tapes_of_known (one ∷ wanted) (known ∷ others) = tape_of_known one known.blocks ++ tapes_of_known wanted others
