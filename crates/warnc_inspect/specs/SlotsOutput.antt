-- What `warnc read --slots` makes of the octets that it reads: a table of the pages that the slots of tapes send, as
-- CSV. Own.
use Rattle.std.specs.Prelude.{◌≡◌, ℕ, ◌+◌, ◌/◌, ◌%◌, List, [], ◌∷◌, ◌++◌, Option, codes}
use Rattle.std.specs.Fmt.{decimal}
use Rattle.std.specs.List.{flat_map}
use Rattle.hex.specs.Hex.{encode_lower}
use Rattle.cbs_page.specs.declared.octets.PageView.{PageView}
use Rattle.cbsp_wire.specs.declared.message.Cell.{Cell}
use Rattle.handset.specs.Reception.{readable_pages}
use Rattle.handset.specs.Recording.{TapeRecording, AreRecordings}
use Rattle.short_pages.specs.Slots.{completed_slot}
use Rattle.short_pages.specs.declared.pages.Pages.{Pages}
use Rattle.short_pages.specs.declared.pages.Pages.TheVariants.{OfAny, OfFour}
use Rattle.warnc_inspect.specs.ReadOutput.{csv_row, IsFaultOf}
use Rattle.warnc_inspect.specs.declared.read.ReadCommandFault.{ReadCommandFault}

-- the first row has the names of the columns
abbrev pub slot_columns : List ℕ
slot_columns =
    csv_row (codes "lac" ∷ codes "ci" ∷ codes "slot" ∷ codes "id" ∷ codes "serial" ∷ codes "page" ∷ codes "pages" ∷ [])

-- the row of a page that a cell sends in a slot: the serial number has four lower hexadecimal digits, and all other
-- numbers are decimal
abbrev pub slot_row : Cell → (slot : ℕ) → PageView → List ℕ
slot_row cell slot page =
    csv_row (decimal cell.lac ∷ decimal cell.ci ∷ decimal slot ∷ decimal page.id
    ∷ encode_lower ((page.serial / 256) ∷ (page.serial % 256) ∷ []) ∷ decimal page.number ∷ decimal page.total ∷ [])

-- the blocks of a slot as they are read by the wanted pages: with four blocks of a short page, if these are wanted
abbrev pub slot_read : Pages → (blocks : List (List ℕ)) → List (List ℕ)
slot_read OfFour blocks = blocks
slot_read OfAny blocks = completed_slot blocks

-- the rows of a slot: of the page that a handset reads of its four blocks alone, if it reads one and can show it
abbrev pub slot_rows : Pages → Cell → (slot : ℕ) → (blocks : List (List ℕ)) → List ℕ
slot_rows wanted cell slot blocks = flat_map (slot_row cell slot) (readable_pages (slot_read wanted blocks))

-- the rows of the slots from this number on, four blocks each; up to three blocks at the end are no slot
abbrev pub rows_from : Pages → Cell → (slot : ℕ) → (blocks : List (List ℕ)) → List ℕ
rows_from wanted cell slot (first ∷ second ∷ third ∷ fourth ∷ rest) =
    slot_rows wanted cell slot (first ∷ second ∷ third ∷ fourth ∷ []) ++ rows_from wanted cell (slot + 1) rest
rows_from wanted cell slot blocks = []

-- the rows of a tape, whose slots count from 0
abbrev pub tape_rows : Pages → TapeRecording → List ℕ
tape_rows wanted tape = rows_from wanted tape.cell 0 tape.blocks

-- the table of tapes, in their order
abbrev pub table_of_slots : Pages → List TapeRecording → List ℕ
table_of_slots wanted tapes = slot_columns ++ flat_map (tape_rows wanted) tapes

-- what is written for the octets that were read: they are whole tapes, and this is the table of these
pub record IsSlotsOutput (wanted : Pages) (input output : List ℕ) : Type 0 where
  pub recordings : List TapeRecording
  pub tapes : AreRecordings input recordings
  pub written : output ≡ table_of_slots wanted recordings

-- why no table is written
abbrev pub IsSlotsFault : Pages → (input : List ℕ) (old new : Option (List ℕ)) → ReadCommandFault → Type 0
IsSlotsFault wanted = IsFaultOf (IsSlotsOutput wanted)
