-- What `warnc page` makes of the octets that it reads: the blocks of the text's pages as hexadecimal digits, a line
-- each, and then what a handset shows of these blocks; or a table of the pages as CSV. The forms of the lines and the
-- columns are this project's own.
use Rattle.std.specs.Prelude.{◌≡◌, ◌≢◌, ℕ, ◌+◌, ◌-◌, ◌/◌, ◌%◌, ◌<◌, ◌≤◌, ◌==◌, if◌then◌else◌, Option, List, [], ◌∷◌}
use Rattle.std.specs.Prelude.{◌++◌, length, take, drop, map, slice_index, codes, encode_utf8_all}
use Rattle.std.specs.Fmt.{decimal}
use Rattle.std.specs.Io.KnownBytes.{Keeps}
use Rattle.std.specs.List.{flat_map}
use Rattle.std.specs.Str.{IsUtf8, chars}
use Rattle.hex.specs.Hex.{encode_lower}
use Rattle.cbs_page.specs.declared.content.Content.{Content}
use Rattle.cbs_page.specs.declared.paging.Paged.{Paged}
use Rattle.cbs_page.specs.Page.{octets_of_page, view_of}
use Rattle.cbs_page.specs.Text.{IsPagedText, IsTextFault, text_of_page}
use Rattle.device_ends.specs.Moves.{AppendsFront}
use Rattle.handset.specs.Reception.{ShownMessage, shown_in}
use Rattle.cbch_blocks.specs.Blocks.{blocks_of_page}
use Rattle.cbs_page.specs.declared.paging.TextFault.TheVariants as text
use Rattle.warnc_inspect.specs.declared.page.PageFault.{PageFault}
use Rattle.warnc_inspect.specs.declared.page.PageFault.TheVariants as fault
use Rattle.warnc_inspect.specs.declared.page.PageForm.{PageForm}
use Rattle.warnc_inspect.specs.declared.page.PageForm.TheVariants.{Lines, Table}
use Rattle.warnc_inspect.specs.ReadOutput.{csv_row}

-- the most octets that are read
abbrev pub max_page_input : ℕ
max_page_input = 16777216

-- one LF at the end is no part of the text
abbrev pub without_final_lf : List ℕ → List ℕ
without_final_lf input = if slice_index input (length input - 1) == 10 then take (length input - 1) input else input

-- the octets of a message's pages, from the page of this number on
abbrev pub page_octets_from : (id serial dcs total number : ℕ) → List Content → List (List ℕ)
page_octets_from id serial dcs total number [] = []
page_octets_from id serial dcs total number (content ∷ rest) =
    octets_of_page id serial dcs number total content.octets ∷ page_octets_from id serial dcs total (number + 1) rest

-- the octets of all pages of a message
abbrev pub pages_of_message : (id serial : ℕ) → Paged → List (List ℕ)
pages_of_message id serial paged =
    page_octets_from id serial paged.dcs.0 (length paged.pages.items) 1 paged.pages.items

-- the blocks of a message: those of its pages, in order
abbrev pub blocks_of_message : (id serial : ℕ) → Paged → List (List ℕ)
blocks_of_message id serial paged = flat_map blocks_of_page (pages_of_message id serial paged)

-- a block's line: two lower hexadecimal digits for each octet
abbrev pub block_line : List ℕ → List ℕ
block_line block = encode_lower block ++ 10 ∷ []

-- a shown message's line: its identifier, its serial number in four lower hexadecimal digits, and its text
abbrev pub shown_line : ShownMessage → List ℕ
shown_line message =
    decimal message.id ++ 32 ∷ encode_lower ((message.serial / 256) ∷ (message.serial % 256) ∷ []) ++ 32 ∷ message.text
    ++ 10 ∷ []

abbrev pub lines_of : List (List ℕ) → List ℕ
lines_of blocks = flat_map block_line blocks ++ flat_map shown_line (shown_in blocks)

-- the names of the columns of a table of pages
abbrev pub page_columns : List ℕ
page_columns =
    csv_row (codes "page" ∷ codes "pages" ∷ codes "serial" ∷ codes "identifier" ∷ codes "coding" ∷ codes "used"
    ∷ codes "block_1" ∷ codes "block_2" ∷ codes "block_3" ∷ codes "block_4" ∷ codes "text" ∷ [])

-- the row of a page: its number and the total of its message, and then, of its octets, the serial number (0 and 1), the
-- message identifier (2 and 3) and the data coding (4), two lower hexadecimal digits for each octet; how many octets of
-- its content the text takes; its four blocks in the same digits; and the text that a phone shows of this page alone
abbrev pub page_row : (number total used : ℕ) → (page : List ℕ) → List ℕ
page_row number total used page =
    csv_row (decimal number ∷ decimal total ∷ encode_lower (take 2 page) ∷ encode_lower (take 2 (drop 2 page))
    ∷ encode_lower (take 1 (drop 4 page)) ∷ decimal used
    ∷ map encode_lower (blocks_of_page page) ++ encode_utf8_all (text_of_page (view_of page)) ∷ [])

-- the row of the page of this number, with this content
abbrev pub content_row : (id serial dcs total number : ℕ) → Content → List ℕ
content_row id serial dcs total number content =
    page_row number total content.used (octets_of_page id serial dcs number total content.octets)

-- the rows of a message's pages, from the page of this number on
abbrev pub page_rows : (id serial dcs total number : ℕ) → List Content → List ℕ
page_rows id serial dcs total number [] = []
page_rows id serial dcs total number (content ∷ rest) =
    content_row id serial dcs total number content ++ page_rows id serial dcs total (number + 1) rest

-- the table of a message's pages
abbrev pub table_of_pages : (id serial : ℕ) → Paged → List ℕ
table_of_pages id serial paged =
    page_columns ++ page_rows id serial paged.dcs.0 (length paged.pages.items) 1 paged.pages.items

-- a message as it is written in a form
abbrev pub written_as : PageForm → (id serial : ℕ) → Paged → List ℕ
written_as Lines id serial paged = lines_of (blocks_of_message id serial paged)
written_as Table id serial paged = table_of_pages id serial paged

-- what is written for the octets that were read: the lines of the blocks that carry the text, or the table of its
-- pages. These blocks show the text, once, and the texts of these pages, joined, are the text
pub record IsPageOutput (form : PageForm) (language : List ℕ) (id serial : ℕ) (input output : List ℕ) : Type 0 where
  pub bounded : length input ≤ max_page_input
  pub utf8 : IsUtf8 (without_final_lf input)
  pub paged : Paged
  pub sent : IsPagedText language (chars (without_final_lf input)) paged
  pub written : output ≡ written_as form id serial paged
  pub shown : shown_in (blocks_of_message id serial paged)
      ≡ record { id = id; serial = serial; text = without_final_lf input } ∷ []
  pub page_by_page : flat_map (λ page. text_of_page (view_of page)) (pages_of_message id serial paged)
      ≡ chars (without_final_lf input)

-- why nothing is written: the first of these that applies, out of memory and devices aside. Out of memory is reported
-- as `Refused` alone
abbrev pub IsPageFault : (language input : List ℕ) → PageFault → Type 0
IsPageFault language input fault.TooLong = max_page_input < length input
IsPageFault language input fault.NotUtf8 = (length input ≤ max_page_input) × ¬ IsUtf8 (without_final_lf input)
IsPageFault language input (fault.Text text_fault) =
    (length input ≤ max_page_input) × IsUtf8 (without_final_lf input)
    × IsTextFault language (chars (without_final_lf input)) text_fault × (text_fault ≢ text.Refused)
IsPageFault language input fault.Refused = Unit {0}
IsPageFault language input fault.ReadFailed = ⊥
IsPageFault language input fault.WriteFailed = ⊥

-- why a run from a reader to a writer ends with a fault, where these are the writer's octets before and after: after a
-- fault of the writer a front of the output was written, and after any other fault nothing
abbrev pub IsStreamFault : (form : PageForm) (language : List ℕ) (id serial : ℕ) (input : List ℕ)
    (old new : Option (List ℕ)) → PageFault → Type 0
IsStreamFault form language id serial input old new fault.ReadFailed = Keeps old new
IsStreamFault form language id serial input old new fault.TooLong =
    IsPageFault language input fault.TooLong × Keeps old new
IsStreamFault form language id serial input old new fault.NotUtf8 =
    IsPageFault language input fault.NotUtf8 × Keeps old new
IsStreamFault form language id serial input old new (fault.Text text_fault) =
    IsPageFault language input (fault.Text text_fault) × Keeps old new
IsStreamFault form language id serial input old new fault.Refused = Keeps old new
IsStreamFault form language id serial input old new fault.WriteFailed =
    (output : List ℕ) × IsPageOutput form language id serial input output × AppendsFront old new output

-- the fault of a failed writer
abbrev pub IsPageWriteFault : PageFault → Type 0
IsPageWriteFault f = f ≡ fault.WriteFailed
