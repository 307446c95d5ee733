-- Laws of reading (own): of what a list of blocks shows, and of which octets are tapes. Each is over its definitions
-- alone.
use Rattle.std.specs.Prelude.{◌≡◌, ◌⊎◌, ℕ, ◌≤◌, true, nat_le, Option, List, ◌++◌, length, map}
use Rattle.std.specs.List.{flat_map}
use Rattle.std.specs.Option.{option_to_list}
use Rattle.cbs_page.specs.declared.octets.PageView.{PageView}
use Rattle.cbs_page.specs.Text.{text_of_page}
use Rattle.cbsp_wire.specs.declared.message.Cell.{Cell}
use Rattle.handset.specs.Reception.{Name, is_complete, text_of, ShownMessage, readable_pages, shown_in}
use Rattle.handset.specs.Counting.{whole_among}
use Rattle.handset.specs.Showing.{AreTheComplete}
use Rattle.handset.specs.OneMessage.{AreFrom, IsLeastCount, IsMessage}
use Rattle.handset.specs.Recording.{TapeRecording, reading_of_recording, AreRecordings, HoldsRecording}
use Rattle.handset.specs.Tape.{TapeReading, tape_octets, max_slots, AreSlots, IsTape, IsShortTape, IsLongTape}
use Rattle.handset.specs.Tape.{AreTapes, IsShort, IsLong}

-- any list of blocks shows the messages that its pages make complete
abbrev pub ShownAreTheComplete : Type 0
ShownAreTheComplete = (blocks : List (List ℕ)) → AreTheComplete (readable_pages blocks) (shown_in blocks)

-- blocks with at most one page more show at most one message more, after those that were shown
abbrev pub OnePageShowsOne : Type 0
OnePageShowsOne = (blocks more : List (List ℕ)) (page : Option PageView)
    → readable_pages more ≡ readable_pages blocks ++ option_to_list page
    → (message : Option ShownMessage) × (shown_in more ≡ shown_in blocks ++ option_to_list message)

-- a message is complete exactly if a whole broadcast of it was read; here its pages may be any
abbrev pub CompleteIsWhole : Type 0
CompleteIsWhole = (name : Name) (pages : List PageView) → is_complete name pages ≡ nat_le 1 (whole_among name pages)

-- if all pages of a name are pages of one message, its whole broadcasts are the least count of its pages
abbrev pub WholeIsTheLeastCount : Type 0
WholeIsTheLeastCount = (name : Name) (sent pages : List PageView) (least : ℕ)
    → IsMessage name sent
    → AreFrom name sent pages
    → IsLeastCount name pages (length sent) least
    → whole_among name pages ≡ least

-- and its text, once it is complete, joins the texts of the pages that were sent
abbrev pub TextIsTheMessages : Type 0
TextIsTheMessages = (name : Name) (sent pages : List PageView)
    → IsMessage name sent
    → AreFrom name sent pages
    → is_complete name pages ≡ true
    → text_of name pages ≡ flat_map text_of_page sent

-- read as one tape, an input has one reading at most, and is of one kind at most
pub record HasOneTapeKind (input : List ℕ) : Type 0 where
  pub unique : (reading other : TapeReading) → IsTape input reading → IsTape input other → reading ≡ other
  pub not_short : (reading : TapeReading) → IsTape input reading → ¬ IsShortTape input
  pub not_long : (reading : TapeReading) → IsTape input reading → ¬ IsLongTape input
  pub apart : IsShortTape input → ¬ IsLongTape input

-- read as tapes up to the end, an input has one list of readings at most, and is of one kind at most
pub record HasOneTapesKind (input : List ℕ) : Type 0 where
  pub unique : (readings others : List TapeReading) → AreTapes input readings → AreTapes input others →
      readings ≡ others
  pub not_short : (readings : List TapeReading) → AreTapes input readings → ¬ IsShort input
  pub not_long : (readings : List TapeReading) → AreTapes input readings → ¬ IsLong input
  pub apart : IsShort input → ¬ IsLong input

abbrev pub TapeIsOneKind : Type 0
TapeIsOneKind = (input : List ℕ) → HasOneTapeKind input

abbrev pub TapesAreOneKind : Type 0
TapesAreOneKind = (input : List ℕ) → HasOneTapesKind input

-- each input is of one of the kinds: readable, short or long
abbrev pub TapeHasKind : Type 0
TapeHasKind =
    (input : List ℕ) → ((reading : TapeReading) × IsTape input reading) ⊎ (IsShortTape input ⊎ IsLongTape input)

abbrev pub TapesHaveKind : Type 0
TapesHaveKind =
    (input : List ℕ) → ((readings : List TapeReading) × AreTapes input readings) ⊎ (IsShort input ⊎ IsLong input)

-- the octets that are made of a cell, a number of slots and their blocks are a tape, and say and show just these
abbrev pub MadeAreTapes : Type 0
MadeAreTapes =
    (cell : Cell) → (slots : ℕ) → (blocks : List (List ℕ)) → slots ≤ max_slots → AreSlots slots blocks →
    IsTape (tape_octets cell slots blocks) (record { cell = cell; slots = slots; shown = shown_in blocks })

-- what the tapes of an input hold is unique
abbrev pub RecordingsAreOne : Type 0
RecordingsAreOne = (input : List ℕ) (recordings others : List TapeRecording) → AreRecordings input recordings
    → AreRecordings input others
    → recordings ≡ others

-- and a handset reads it
abbrev pub RecordingsAreRead : Type 0
RecordingsAreRead = (input : List ℕ) (recordings : List TapeRecording) → AreRecordings input recordings
    → AreTapes input (map reading_of_recording recordings)

-- the octets that are made of a cell, a number of slots and their blocks hold just these
abbrev pub MadeAreRecordings : Type 0
MadeAreRecordings =
    (cell : Cell) → (slots : ℕ) → (blocks : List (List ℕ)) → slots ≤ max_slots → AreSlots slots blocks →
    HoldsRecording (tape_octets cell slots blocks) (record { cell = cell; slots = slots; blocks = blocks })
