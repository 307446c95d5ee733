-- How far an input of tapes is read (own): some whole tapes of it are gone, and then a part of what follows.
use Rattle.std.specs.Prelude.{◌≡◌, ℕ, ◌<◌, ◌≤◌, List, ◌++◌, Option, length}
use Rattle.std.specs.Io.KnownBytes.{Consumes, IsAtEnd}
use Rattle.handset.specs.declared.tape.TapeFault.{TapeFault}
use Rattle.handset.specs.declared.tape.TapeFault.TheVariants as fault
use Rattle.handset.specs.Tape.{TapeReading, AreJoined, IsCut, IsOversized, max_slots, slots_in, tape_length}

-- whole tapes with these readings are gone of the input, and then this part
pub record AreGone (old new : Option (List ℕ)) (readings : List TapeReading) (part : List ℕ) : Type 0 where
  pub front : List ℕ
  pub joined : AreJoined front readings
  pub consumed : Consumes old new (front ++ part)

-- after a long input: of a header that says too many slots its eight octets are gone, and after the last tape that the
-- input
-- may have one octet; nothing more
pub record StopsAtLong (most : ℕ) (old new : Option (List ℕ)) : Type 0 where
  pub readings : List TapeReading
  pub part : List ℕ
  pub gone : AreGone old new readings part
  pub few : length readings ≤ most
  pub oversized : length readings < most → IsOversized part × (length part ≡ 8)
  pub more : length readings ≡ most → length part ≡ 1

-- after a failed read: it was a read of what is missing of a tape, or of whether there is a next one
pub record StopsAtFailure (most : ℕ) (old new : Option (List ℕ)) : Type 0 where
  pub readings : List TapeReading
  pub part : List ℕ
  pub gone : AreGone old new readings part
  pub few : length readings ≤ most
  pub cut : 0 < length part → (length readings < most) × IsCut part

-- out of memory: the part is within a tape that the input may have
pub record StopsWithin (most : ℕ) (old new : Option (List ℕ)) : Type 0 where
  pub readings : List TapeReading
  pub part : List ℕ
  pub gone : AreGone old new readings part
  pub few : length readings < most
  pub slots : 8 ≤ length part → slots_in part ≤ max_slots
  pub inside : 8 ≤ length part → length part ≤ tape_length part

-- how far an input of at most this many tapes was read when it gave no readings, by the fault; a short input is read to
-- its end
abbrev pub StopsAt : (most : ℕ) (old new : Option (List ℕ)) → TapeFault → Type 0
StopsAt most old new fault.Short = IsAtEnd new
StopsAt most old new fault.Long = StopsAtLong most old new
StopsAt most old new fault.ReadFailed = StopsAtFailure most old new
StopsAt most old new fault.Refused = StopsWithin most old new
