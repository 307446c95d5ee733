-- What `warnc texts` makes of a book, of a network book or of a group of one: a table of what the texts of its orders
-- cost, as CSV. Own.
use Rattle.std.specs.Prelude.{◌≡◌, ⊤, ℕ, ◌<◌, ◌≤◌, List, [], ◌∷◌, ◌++◌, length, Option, None, Some, codes, encode_utf8}
use Rattle.std.specs.Prelude.{is_some}
use Rattle.std.specs.Prelude.{if◌then◌else◌, position, Bool}
use Rattle.std.specs.Fmt.{decimal}
use Rattle.std.specs.Io.KnownBytes.{Keeps}
use Rattle.std.specs.Str.{chars}
use Rattle.csv.specs.Writing.{default_writer, row_text}
use Rattle.device_ends.specs.Moves.{AppendsFront}
use Rattle.cbs_page.specs.Text.{is_bad}
use Rattle.cbs_page.specs.declared.coding.Alphabet.{Alphabet}
use Rattle.cbs_page.specs.declared.coding.Alphabet.TheVariants.{Gsm, Ucs2}
use Rattle.alert_book.specs.Book.{sending_of}
use Rattle.alert_book.specs.Extent.{bounds_of, most_octets, AreOrdersFor, IsRowFaultFor, LacksGroupOf}
use Rattle.alert_book.specs.declared.judging.bounds.Extent.{Extent}
use Rattle.alert_book.specs.declared.book.order.Order.{Order}
use Rattle.alert_book.specs.declared.book.order.Sending.{Sending}
use Rattle.book_texts.specs.Cost.{first_forcing, place_of_forcing, IsCostOf}
use Rattle.book_texts.specs.Fit.{IsCut}
use Rattle.book_texts.specs.declared.cost.TextCost.{TextCost}
use Rattle.book_texts.specs.declared.texts.TextsFault.{TextsFault}
use Rattle.book_texts.specs.declared.texts.TextsFault.TheVariants as fault

-- a line of fields, as CSV quotes them, with LF at its end
abbrev pub line : List (List ℕ) → List ℕ
line fields = row_text default_writer fields

-- the last column is there where a number of pages is asked for
abbrev pub last_name : (pages : Option ℕ) → List (List ℕ)
last_name None = []
last_name (Some pages) = codes "fits" ∷ []

-- the first line has the names of the columns
abbrev pub header_line : (pages : Option ℕ) → List ℕ
header_line pages =
    line (codes "row" ∷ codes "name" ∷ codes "lang" ∷ codes "coding" ∷ codes "characters" ∷ codes "pages"
    ∷ codes "room" ∷ codes "first_ucs2" ∷ codes "place" ∷ last_name pages)

abbrev pub coding_text : Alphabet → List ℕ
coding_text Gsm = codes "GSM 7-bit"
coding_text Ucs2 = codes "UCS-2"

-- a number, or nothing where there is none
abbrev pub number_text : Option ℕ → List ℕ
number_text None = []
number_text (Some number) = decimal number

abbrev pub character_text : Option ℕ → List ℕ
character_text None = []
character_text (Some character) = encode_utf8 character

-- whether a text has a character that can't be sent: then it takes no pages
abbrev pub has_bad : List ℕ → Bool
has_bad text = is_some (position is_bad text)

abbrev pub unless_bad : (text : List ℕ) → ℕ → Option ℕ
unless_bad text number = if has_bad text then None else Some number

-- of how many characters the front is to which a text is cut for the number of pages that is asked for
abbrev pub IsCutFor : (pages : Option ℕ) (text : List ℕ) → Option ℕ → Type 0
IsCutFor None text cut = cut ≡ None
IsCutFor (Some pages) text cut = (n : ℕ) × IsCut pages text n × (cut ≡ Some n)

-- and its column
abbrev pub last_field : (text : List ℕ) → Option ℕ → List (List ℕ)
last_field text None = []
last_field text (Some cut) = number_text (unless_bad text cut) ∷ []

-- the line of an order's text: pages, room and cut are empty where the text can't be sent whatever its length, and the
-- first character that GSM 7-bit lacks where it lacks none
abbrev pub text_line : Order → Sending → TextCost → (cut : Option ℕ) → List ℕ
text_line order sending cost cut =
    let text = chars sending.text in
    line (decimal order.row ∷ order.name ∷ sending.language ∷ coding_text cost.alphabet ∷ decimal cost.characters
    ∷ number_text (unless_bad text cost.pages) ∷ number_text (unless_bad text cost.room)
    ∷ character_text (first_forcing text) ∷ number_text (place_of_forcing text) ∷ last_field text cut)

-- the line of an order, if it sends a text
abbrev pub IsLineOf : (pages : Option ℕ) → Option Sending → Order → List ℕ → Type 0
IsLineOf pages None order octets = octets ≡ []
IsLineOf pages (Some sending) order octets =
    (cost : TextCost) × IsCostOf (chars sending.text) cost × ((cut : Option ℕ) × IsCutFor pages (chars sending.text) cut
    × (octets ≡ text_line order sending cost cut))

-- the lines of orders, one after the other
abbrev pub AreLinesOf : (pages : Option ℕ) → List Order → List ℕ → Type 0
AreLinesOf pages [] octets = octets ≡ []
AreLinesOf pages (order ∷ orders) octets =
    (first rest : List ℕ) × IsLineOf pages (sending_of order.action) order first × AreLinesOf pages orders rest
    × (octets ≡ first ++ rest)

-- what is written for the octets that were read: their rows are right, but their texts needn't be such as can be sent
pub record IsTextsOutput (what : Extent) (pages : Option ℕ) (input output : List ℕ) : Type 0 where
  pub bounded : length input ≤ most_octets (bounds_of what)
  pub orders : List Order
  pub read : AreOrdersFor what input orders
  pub lines : List ℕ
  pub lines_are : AreLinesOf pages orders lines
  pub written : output ≡ header_line pages ++ lines

-- why no table is written: the input is too long, or a row has a fault, the first of them, or there is no such group;
-- or out of memory, or a device failed; after a fault of the writer a front of the table was written, and after any
-- other fault nothing
abbrev pub IsTextsFault : Extent → (pages : Option ℕ) (input : List ℕ) (old new : Option (List ℕ)) → TextsFault
    → Type 0
IsTextsFault what pages input old new fault.TooLong =
    (most_octets (bounds_of what) < length input) × Keeps old new
IsTextsFault what pages input old new (fault.Row f) =
    (length input ≤ most_octets (bounds_of what)) × IsRowFaultFor what input f × Keeps old new
IsTextsFault what pages input old new (fault.NoGroup groups) =
    (length input ≤ most_octets (bounds_of what)) × LacksGroupOf what input groups × Keeps old new
IsTextsFault what pages input old new fault.ReadFailed = Keeps old new
IsTextsFault what pages input old new fault.Refused = Keeps old new
IsTextsFault what pages input old new fault.WriteFailed =
    (output : List ℕ) × IsTextsOutput what pages input output × AppendsFront old new output

-- a fault of what was read to its end
abbrev pub IsOfRow : TextsFault → Type 0
IsOfRow (fault.Row f) = ⊤
IsOfRow (fault.NoGroup groups) = ⊤
IsOfRow other = ⊥

-- the fault of a failed writer
abbrev pub IsTextsWriteFault : TextsFault → Type 0
IsTextsWriteFault f = f ≡ fault.WriteFailed
