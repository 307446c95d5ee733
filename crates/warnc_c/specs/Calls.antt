-- What calls from C answer, and what they put where. The numbers are those of include/warnc.h: 0 done, 1 no language,
-- 2 no text, 3 a character that can't be sent, 4 too many pages, 5 out of memory, 6 no UTF-8, 7 no page number, 8 no
-- page that is shown, 9 too little room, 10 a tape is short, 11 a tape is long, 12 GSM 7-bit has all. Own.
use Rattle.std.specs.Prelude.{◌≡◌, ◌⊎◌, ℕ, ◌<◌, ◌≤◌, Bool, true, false, if◌then◌else◌, not, is_some, List, ◌++◌, map}
use Rattle.std.specs.Prelude.{take, drop, length}
use Rattle.std.specs.Prelude.{Some, None, position, encode_utf8_all}
use Rattle.std.specs.Str.{chars, IsUtf8}
use Rattle.gsm_alphabet.specs.Alphabet.{code_of}
use Rattle.cbs_page.specs.Page.{is_readable, octets_of_page, view_of}
use Rattle.cbs_page.specs.Text.{IsPagedText, IsTextFault, text_of_page, max_pages}
use Rattle.cbs_page.specs.declared.content.Content.{Content}
use Rattle.cbs_page.specs.declared.paging.Paged.{Paged}
use Rattle.cbs_page.specs.declared.paging.TextFault.{TextFault}
use Rattle.cbs_page.specs.declared.paging.TextFault.TheVariants as fault
use Rattle.handset.specs.Tape.{IsShort, IsLong}
use Rattle.handset.specs.declared.tape.TapeFault.{TapeFault}
use Rattle.handset.specs.declared.tape.TapeFault.TheVariants as tape
use Rattle.warnc_inspect.specs.ReadOutput.{IsReadOutput}
use Rattle.short_pages.specs.declared.pages.Pages.{Pages as Wanted}
use Rattle.short_pages.specs.declared.pages.Pages.TheVariants.{OfAny, OfFour}
use Rattle.warnc_c.specs.declared.paging.Pages.{Pages}

-- the octets of contents, and how many of them each takes
abbrev pub octets_of : List Content → List (List ℕ)
octets_of contents = map (λ content. content.octets) contents

abbrev pub used_of : List Content → List ℕ
used_of contents = map (λ content. content.used) contents

-- these are the pages of a text
pub record HoldsText (language text : List ℕ) (pages : Pages) : Type 0 where
  pub paged : Paged
  pub is : IsPagedText language text paged
  pub coding : pages.coding ≡ paged.dcs.0
  pub count : pages.count ≡ length paged.pages.items
  pub octets : take pages.count pages.octets ≡ octets_of paged.pages.items
  pub used : take pages.count pages.used ≡ used_of paged.pages.items

-- in the room for pages, what stands after this many of them stays
abbrev pub KeepsRest : (count : ℕ) → (old new : Pages) → Type 0
KeepsRest count old new = (drop count new.octets ≡ drop count old.octets) × (drop count new.used ≡ drop count old.used)

-- the number of a fault of a text, and its place
abbrev pub IsFaultNumber : TextFault → (number place : ℕ) → Type 0
IsFaultNumber fault.BadLanguage number place = number ≡ 1
IsFaultNumber fault.Empty number place = number ≡ 2
IsFaultNumber (fault.BadCharacter at) number place = (number ≡ 3) × (place ≡ at)
IsFaultNumber fault.TooManyPages number place = number ≡ 4
IsFaultNumber fault.Refused number place = number ≡ 5

-- a text has a fault, which has this number
pub record HasFault (language text : List ℕ) (number place : ℕ) : Type 0 where
  pub fault : TextFault
  pub is : IsTextFault language text fault
  pub numbered : IsFaultNumber fault number place

-- what a text in a language is answered: its pages or its fault where both are UTF-8; and no language has a word that
-- isn't
abbrev pub IsPaginated : (language text : List ℕ) → (number place : ℕ) → Pages → Type 0
IsPaginated language text number place pages =
    (IsUtf8 text × (number ≡ 0) × HoldsText language (chars text) pages)
    ⊎ (IsUtf8 text × HasFault language (chars text) number place)
    ⊎ (IsUtf8 text × (IsUtf8 language → ⊥) × (number ≡ 1))
    ⊎ ((IsUtf8 text → ⊥) × (number ≡ 6))

-- the first character that GSM 7-bit lacks has this place
abbrev pub IsFirstUcs2 : (text : List ℕ) → (number place : ℕ) → Type 0
IsFirstUcs2 text number place =
    (IsUtf8 text × (number ≡ 0) × (position (λ character. not (is_some (code_of character))) (chars text) ≡ Some place))
    ⊎ (IsUtf8 text × (number ≡ 12) × (position (λ character. not (is_some (code_of character))) (chars text) ≡ None))
    ⊎ ((IsUtf8 text → ⊥) × (number ≡ 6))

-- a page of a message has a number from 1 to the total, and that is at most 15
abbrev pub IsPageNumber : (number total : ℕ) → Type 0
IsPageNumber number total = (1 ≤ number) × (number ≤ total) × (total ≤ max_pages)

abbrev pub IsPage : (id serial coding number total : ℕ) → (content : List ℕ) → (answer : ℕ) → (page : List ℕ) → Type 0
IsPage id serial coding number total content answer page =
    (IsPageNumber number total × (answer ≡ 0) × (page ≡ octets_of_page id serial coding number total content))
    ⊎ ((IsPageNumber number total → ⊥) × (answer ≡ 7))

-- octets are put at the front of a room that has as many, and into none that has fewer
abbrev pub Puts : (octets : List ℕ) → (number : ℕ) → (old new : List ℕ) → Type 0
Puts octets number old new =
    ((length octets ≤ length old) × (number ≡ 0) × (new ≡ octets ++ drop (length octets) old))
    ⊎ ((length old < length octets) × (number ≡ 9) × (new ≡ old))

-- and how many they are is told in each case
abbrev pub Gives : (octets : List ℕ) → (number : ℕ) → (old new : List ℕ) → (written : ℕ) → Type 0
Gives octets number old new written = Puts octets number old new × (written ≡ length octets)

-- the text of a page, if it is shown
abbrev pub IsPageText : (page : List ℕ) → (number : ℕ) → (old new : List ℕ) → (written : ℕ) → Type 0
IsPageText page number old new written =
    ((is_readable (view_of page) ≡ true)
    × Gives (encode_utf8_all (text_of_page (view_of page))) number old new written)
    ⊎ ((is_readable (view_of page) ≡ true) × (number ≡ 5))
    ⊎ ((is_readable (view_of page) ≡ false) × (number ≡ 8))

-- why tapes have no table, but for out of memory
abbrev pub IsTableFault : (tapes : List ℕ) → TapeFault → Type 0
IsTableFault tapes tape.Short = IsShort tapes
IsTableFault tapes tape.Long = IsLong tapes
IsTableFault tapes tape.ReadFailed = Unit {0}
IsTableFault tapes tape.Refused = Unit {0}

abbrev pub number_of_table_fault : TapeFault → ℕ
number_of_table_fault tape.Short = 10
number_of_table_fault tape.Long = 11
number_of_table_fault tape.ReadFailed = 5
number_of_table_fault tape.Refused = 5

-- the pages that are read
abbrev pub wanted_pages : Bool → Wanted
wanted_pages short_pages = if short_pages then OfAny else OfFour

-- tapes have a table, which is given
pub record GivesTable (wanted : Wanted) (tapes : List ℕ) (number : ℕ) (old new : List ℕ) (written : ℕ) : Type 0 where
  pub output : List ℕ
  pub is : IsReadOutput wanted tapes output
  pub given : Gives output number old new written

-- the table of tapes, or why there is none
abbrev pub IsTable : (wanted : Wanted) (tapes : List ℕ) → (number : ℕ) → (old new : List ℕ) → (written : ℕ) → Type 0
IsTable wanted tapes number old new written =
    GivesTable wanted tapes number old new written
    ⊎ (IsShort tapes × (number ≡ 10))
    ⊎ (IsLong tapes × (number ≡ 11))
    ⊎ (number ≡ 5)
