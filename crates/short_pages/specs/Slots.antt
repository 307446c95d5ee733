-- Short pages on a cell's broadcast channel: a page is sent in one to four blocks, numbered from 0, of which the last
-- alone is marked, and block i of a slot has the number i (3GPP TS 44.012, 3.3). So a page begins with the first block
-- of a slot, and whatever follows its last block there is no part of a page.
use Rattle.std.specs.Prelude.{◌≡◌, ℕ, Option, Some, None, List, [], ◌∷◌, ◌++◌, map, take, if◌then◌else◌}
use Rattle.std.specs.Option.{option_map_or}
use Rattle.std.specs.Str.{bytes_eq}
use Rattle.handset.specs.Reception.{ShownMessage, block_type, page_octets, page_types, shown_in}
use Rattle.handset.specs.Recording.{TapeRecording, AreRecordings}
use Rattle.handset.specs.Tape.{TapeReading}
use Rattle.cbch_blocks.specs.Blocks.{blocks_of_page}
use Rattle.short_pages.specs.WholePage.{whole_page}
use Rattle.short_pages.specs.declared.pages.Pages.{Pages}
use Rattle.short_pages.specs.declared.pages.Pages.TheVariants.{OfAny, OfFour}

-- the octets that came of the page in a slot, if it is sent in fewer blocks than four: the first blocks of the slot
-- have these types, of which bit 5 marks the last block and bits 4 to 1 are the number
abbrev pub short_page : List (List ℕ) → Option (List ℕ)
short_page slot =
    if bytes_eq (map block_type (take 1 slot)) (0x30 ∷ []) then Some (page_octets (take 1 slot))
    else if bytes_eq (map block_type (take 2 slot)) (0x20 ∷ 0x31 ∷ []) then Some (page_octets (take 2 slot))
    else if bytes_eq (map block_type (take 3 slot)) (0x20 ∷ 0x21 ∷ 0x32 ∷ []) then Some (page_octets (take 3 slot))
    else None

-- the octets that came of the page in a slot, if there is one: of four blocks, or of fewer
abbrev pub page_of_slot : List (List ℕ) → Option (List ℕ)
page_of_slot slot =
    if bytes_eq (map block_type (take 4 slot)) page_types then Some (page_octets (take 4 slot)) else short_page slot

-- the slot with four blocks of its page; a slot without a short page is as it is
abbrev pub completed_slot : List (List ℕ) → List (List ℕ)
completed_slot slot = option_map_or (λ octets. blocks_of_page (whole_page octets)) (short_page slot) slot

-- the slots of a list of blocks, four blocks each; up to three blocks at its end are no slot
abbrev pub completed : List (List ℕ) → List (List ℕ)
completed (first ∷ second ∷ third ∷ fourth ∷ rest) =
    completed_slot (first ∷ second ∷ third ∷ fourth ∷ []) ++ completed rest
completed blocks = blocks

-- a recording with four blocks of each page
abbrev pub completed_recording : TapeRecording → TapeRecording
completed_recording r = record { cell = r.cell; slots = r.slots; blocks = completed r.blocks }

-- a recording as it is read by the wanted pages
abbrev pub recording_by : Pages → TapeRecording → TapeRecording
recording_by OfFour r = r
recording_by OfAny r = completed_recording r

-- the messages that the slots show, short pages and whole ones: those that they show with four blocks of each page
abbrev pub shown_on_air : List (List ℕ) → List ShownMessage
shown_on_air blocks = shown_in (completed blocks)

-- what a tape says and shows so
abbrev pub reading_on_air : TapeRecording → TapeReading
reading_on_air tape = record { cell = tape.cell; slots = tape.slots; shown = shown_on_air tape.blocks }

-- tapes up to the end of an input say and show so
pub record AreReadingsOnAir (input : List ℕ) (readings : List TapeReading) : Type 0 where
  pub recordings : List TapeRecording
  pub tapes : AreRecordings input recordings
  pub read : readings ≡ map reading_on_air recordings
