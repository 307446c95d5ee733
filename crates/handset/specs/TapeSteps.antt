-- Steps over a tape: blocks that a handset reads, slots, and whole tapes. Contracts of private functions alone speak of
-- it.
use Rattle.std.specs.Prelude.{◌≡◌, ℕ, ◌+◌, ◌/◌, ◌<◌, ◌≤◌, List, ◌++◌, Option, IfSome, length}
use Rattle.std.specs.Simd.{first_chunks}
use Rattle.std.specs.Io.KnownBytes.{Consumes, IsAtEnd}
use Rattle.handset.specs.Reception.{ShownMessage, shown_in}
use Rattle.handset.specs.Keeping.{HandsetState, HasRead}
use Rattle.handset.specs.declared.tape.TapeFault.{TapeFault}
use Rattle.handset.specs.declared.tape.TapeFault.TheVariants as fault
use Rattle.handset.specs.Tape.{TapeReading, IsTape, AreSlots, IsCut, IsOversized, octets_of_blocks, slots_in}
use Rattle.handset.specs.Tape.{max_slots}
use Rattle.handset.specs.Tape.{tape_length}

-- the reader gave this many octets, and a handset has read the blocks that they are
pub record ReadsPiece (old new : Option (List ℕ)) (count : ℕ) (before after : HandsetState) : Type 0 where
  pub octets : List ℕ
  pub consumed : Consumes old new octets
  pub long : length octets ≡ count
  pub read :
      (blocks : List (List ℕ)) →
      HasRead before blocks → HasRead after (blocks ++ first_chunks 23 (count / 23) octets)

-- the reader gave the blocks of this many slots, and these are the messages that they show
pub record ReadsBlocks (old new : Option (List ℕ)) (slots : ℕ) (shown : List ShownMessage) : Type 0 where
  pub blocks : List (List ℕ)
  pub consumed : Consumes old new (octets_of_blocks blocks)
  pub slots_are : AreSlots slots blocks
  pub same : shown ≡ shown_in blocks

-- the reader gave a tape
pub record ReadsTape (old new : Option (List ℕ)) (reading : TapeReading) : Type 0 where
  pub octets : List ℕ
  pub consumed : Consumes old new octets
  pub tape : IsTape octets reading

-- the reader gave some octets, fewer than this many
abbrev pub ReadsFewer : Option (List ℕ) → Option (List ℕ) → ℕ → Type 0
ReadsFewer old new count = (octets : List ℕ) × Consumes old new octets × (length octets < count)

-- the reader gave this many octets
abbrev pub ReadsCount : Option (List ℕ) → Option (List ℕ) → ℕ → Type 0
ReadsCount old new count = (octets : List ℕ) × Consumes old new octets × (length octets ≡ count)

-- how far this many octets were read, by the fault
abbrev pub StopsInOctets : Option (List ℕ) → Option (List ℕ) → ℕ → TapeFault → Type 0
StopsInOctets old new count fault.Short = IsAtEnd new
StopsInOctets old new count fault.Long = ⊥
StopsInOctets old new count fault.ReadFailed = ReadsFewer old new count
StopsInOctets old new count fault.Refused = ReadsFewer old new (count + 1)

-- how far the next tape was read, by the fault
abbrev pub NextStopsAt : Option (List ℕ) → Option (List ℕ) → TapeFault → Type 0
NextStopsAt old new fault.Short = IsAtEnd new
NextStopsAt old new fault.Long = (part : List ℕ) × Consumes old new part × IsOversized part × (length part ≡ 8)
NextStopsAt old new fault.ReadFailed = (part : List ℕ) × Consumes old new part × (0 < length part → IsCut part)
NextStopsAt old new fault.Refused =
    (part : List ℕ) × Consumes old new part
    × (8 ≤ length part → slots_in part ≤ max_slots) × (8 ≤ length part → length part ≤ tape_length part)

-- why an input gives no next tape, but for out of memory and a reader that failed
abbrev pub IsNextTapeFault : List ℕ → TapeFault → Type 0
IsNextTapeFault input fault.Short = IsCut input
IsNextTapeFault input fault.Long = IsOversized input
IsNextTapeFault input fault.ReadFailed = Unit {0}
IsNextTapeFault input fault.Refused = Unit {0}

-- the reader gave a header that may be
pub record ReadsHeader (old new : Option (List ℕ)) (header : List ℕ) : Type 0 where
  pub consumed : Consumes old new header
  pub eight : length header ≡ 8
  pub few : slots_in header ≤ max_slots

-- an input has as many tapes as it may, and isn't at its end: one octet more was read, or the read failed
abbrev pub IsMoreThanAll : (left : Option (List ℕ)) → TapeFault → Type 0
IsMoreThanAll left fault.Short = ⊥
IsMoreThanAll left fault.Long = IfSome left (λ octets. 0 < length octets)
IsMoreThanAll left fault.ReadFailed = Unit {0}
IsMoreThanAll left fault.Refused = ⊥

abbrev pub LastStopsAt : (old new : Option (List ℕ)) → TapeFault → Type 0
LastStopsAt old new fault.Short = ⊥
LastStopsAt old new fault.Long = ReadsCount old new 1
LastStopsAt old new fault.ReadFailed = ReadsFewer old new 1
LastStopsAt old new fault.Refused = ⊥
