-- Tapes: the blocks that a cell's broadcast channel sent, slot by slot, and what a handset shows of them. The format is
-- this project's own.
use Rattle.std.specs.Prelude.{◌≡◌, ℕ, ◌+◌, ◌*◌, ◌/◌, ◌%◌, ◌<◌, ◌≤◌, List, [], ◌∷◌, ◌++◌, length, map, slice_index}
use Rattle.std.specs.Prelude.{Option, IfSome, Bool, false, true, Result, Ok, Err}
use Rattle.std.specs.List.{flat_map, AllByRecursion}
use Rattle.cbsp_wire.specs.declared.message.Cell.{Cell}
use Rattle.handset.specs.declared.tape.Reading.{Reading}
use Rattle.handset.specs.declared.tape.TapeFault.{TapeFault}
use Rattle.handset.specs.declared.tape.TapeFault.TheVariants as fault
use Rattle.handset.specs.Reception.{ShownMessage, shown_in}
use Rattle.handset.specs.Keeping.{messages_shown}

-- the most slots of a tape, and the most tapes of an input
abbrev pub max_slots : ℕ
max_slots = 65535

abbrev pub max_tapes : ℕ
max_tapes = 64

-- the octets of a block: its type, and a quarter of a page. 3GPP TS 44.012
abbrev pub block_octets : ℕ
block_octets = 23

-- the octets of a slot: four blocks
abbrev pub slot_octets : ℕ
slot_octets = 92

-- what a tape says and shows: its cell, how many slots it has, and the messages that its blocks show
pub record TapeReading : Type 0 where
  pub cell : Cell
  pub slots : ℕ
  pub shown : List ShownMessage

abbrev pub reading_of : Reading → TapeReading
reading_of reading = record { cell = reading.cell; slots = reading.slots; shown = messages_shown reading.shown.items }

abbrev pub readings_of : List Reading → List TapeReading
readings_of readings = map reading_of readings

-- the octets of blocks, one after another
abbrev pub octets_of_blocks : List (List ℕ) → List ℕ
octets_of_blocks blocks = flat_map (λ block. block) blocks

-- the octets of a tape: two each of the location area and the cell identity and four of the number of slots, high
-- octets first,
-- and then the blocks
abbrev pub tape_octets : Cell → ℕ → List (List ℕ) → List ℕ
tape_octets cell slots blocks =
    (cell.lac / 256) ∷ (cell.lac % 256) ∷ (cell.ci / 256) ∷ (cell.ci % 256)
    ∷ (slots / 16777216) ∷ (slots / 65536 % 256) ∷ (slots / 256 % 256) ∷ (slots % 256) ∷ octets_of_blocks blocks

-- what the first eight octets of a tape say
abbrev pub cell_in : List ℕ → Cell
cell_in octets = record {
  lac = 256 * slice_index octets 0 + slice_index octets 1;
  ci = 256 * slice_index octets 2 + slice_index octets 3;
}

abbrev pub slots_in : List ℕ → ℕ
slots_in octets =
    16777216 * slice_index octets 4 + 65536 * slice_index octets 5 + 256 * slice_index octets 6 + slice_index octets 7

abbrev pub reading_from : List ℕ → List ShownMessage → TapeReading
reading_from header shown = record { cell = cell_in header; slots = slots_in header; shown = shown }

-- how many octets the whole tape has that begins so
abbrev pub tape_length : List ℕ → ℕ
tape_length octets = 8 + slot_octets * slots_in octets

-- blocks of 23 octets, four for each slot
pub record AreSlots (slots : ℕ) (blocks : List (List ℕ)) : Type 0 where
  pub four : length blocks ≡ 4 * slots
  pub each : AllByRecursion (λ block. length block ≡ block_octets) blocks

-- octets are a tape: a header of eight, and the blocks of as many slots as it says; the reading is what these say and
-- show
pub record IsTape (octets : List ℕ) (reading : TapeReading) : Type 0 where
  pub header : List ℕ
  pub blocks : List (List ℕ)
  pub joined : octets ≡ header ++ octets_of_blocks blocks
  pub eight : length header ≡ 8
  pub few : slots_in header ≤ max_slots
  pub slots : AreSlots (slots_in header) blocks
  pub reading_is : reading ≡ reading_from header (shown_in blocks)

-- octets are whole tapes, one after another, with these readings
abbrev pub AreJoined : List ℕ → List TapeReading → Type 0
AreJoined octets [] = octets ≡ []
AreJoined octets (reading ∷ rest) =
    (tape : List ℕ) × (after : List ℕ) × (octets ≡ tape ++ after) × IsTape tape reading × AreJoined after rest

-- the end comes inside a tape: in its header, or in the blocks of a header that may be
pub record IsCut (octets : List ℕ) : Type 0 where
  pub some : 0 < length octets
  pub few : 8 ≤ length octets → slots_in octets ≤ max_slots
  pub inside : 8 ≤ length octets → length octets < tape_length octets

-- a header says more slots than a tape has
pub record IsOversized (octets : List ℕ) : Type 0 where
  pub headed : 8 ≤ length octets
  pub many : max_slots < slots_in octets

-- one tape and then the end; an input that ends before its tape does; and one that goes on after it, or whose header
-- says too many slots
abbrev pub IsShortTape : List ℕ → Type 0
IsShortTape input = (8 ≤ length input) → (slots_in input ≤ max_slots) × (length input < tape_length input)

abbrev pub IsLongTape : List ℕ → Type 0
IsLongTape input = (8 ≤ length input) × (slots_in input ≤ max_slots → tape_length input < length input)

-- an input begins with whole tapes, which have these readings, and a rest follows them
pub record BeginsWith (input : List ℕ) (readings : List TapeReading) (rest : List ℕ) : Type 0 where
  pub front : List ℕ
  pub split : input ≡ front ++ rest
  pub joined : AreJoined front readings

-- tapes up to the end, at most this many, with these readings
pub record AreTapesWithin (most : ℕ) (input : List ℕ) (readings : List TapeReading) : Type 0 where
  pub joined : AreJoined input readings
  pub few : length readings ≤ most

-- an input that ends inside one of its tapes, which are at most this many
pub record IsShortWithin (most : ℕ) (input : List ℕ) : Type 0 where
  pub readings : List TapeReading
  pub rest : List ℕ
  pub begins : BeginsWith input readings rest
  pub few : length readings < most
  pub cut : IsCut rest

-- an input that goes on after the last tape that it may have, or in which a header says too many slots
pub record IsLongWithin (most : ℕ) (input : List ℕ) : Type 0 where
  pub readings : List TapeReading
  pub rest : List ℕ
  pub begins : BeginsWith input readings rest
  pub few : length readings ≤ most
  pub oversized : length readings < most → IsOversized rest
  pub more : length readings ≡ most → 0 < length rest

-- the definitions above, for the most tapes that an input may have
abbrev pub AreTapes : List ℕ → List TapeReading → Type 0
AreTapes input readings = AreTapesWithin max_tapes input readings

abbrev pub IsShort : List ℕ → Type 0
IsShort input = IsShortWithin max_tapes input

abbrev pub IsLong : List ℕ → Type 0
IsLong input = IsLongWithin max_tapes input

-- what takes readings took those of the input's tapes, in order, and of some octets' tapes where the input isn't known;
-- `HasTaken` says which readings it has
pub record AreTaken {T : Type 0} (HasTaken : T → List TapeReading → Type 0) (input : Option (List ℕ)) (old new : T) :
    Type 0 where
  pub readings : List TapeReading
  pub of_input : IfSome input (λ octets. AreTapes octets readings)
  pub of_some : (octets : List ℕ) × AreTapes octets readings
  pub taken : (before : List TapeReading) → HasTaken old before → HasTaken new (before ++ readings)

-- why an input gives no readings, but for out of memory and a reader that failed
abbrev pub IsTapeFault : List ℕ → TapeFault → Type 0
IsTapeFault input fault.Short = IsShortTape input
IsTapeFault input fault.Long = IsLongTape input
IsTapeFault input fault.ReadFailed = Unit {0}
IsTapeFault input fault.Refused = Unit {0}

abbrev pub IsTapesFault : List ℕ → TapeFault → Type 0
IsTapesFault input fault.Short = IsShort input
IsTapesFault input fault.Long = IsLong input
IsTapesFault input fault.ReadFailed = Unit {0}
IsTapesFault input fault.Refused = Unit {0}

-- a result reports that the reader failed
abbrev pub reports_read_failed : {T : Type 0} → Result T TapeFault → Bool
reports_read_failed (Ok _) = false
reports_read_failed (Err fault.Short) = false
reports_read_failed (Err fault.Long) = false
reports_read_failed (Err fault.ReadFailed) = true
reports_read_failed (Err fault.Refused) = false
