-- The words of what is told of a book's faults: the names of columns, values as they are shown, and what is wanted.
-- Own.
use Rattle.std.specs.Prelude.{ℕ, zero, suc, ◌+◌, ◌-◌, ◌==◌, ◌&&◌, ◌||◌, nat_le, nat_lt, Bool, if◌then◌else◌}
use Rattle.std.specs.Prelude.{Option}
use Rattle.std.specs.Prelude.{Some, None, List, [], ◌∷◌, ◌++◌, codes, encode_utf8, length}
use Rattle.std.specs.Prelude.{slice_get, take, unwrap_or}
use Rattle.std.specs.Fmt.{decimal}
use Rattle.std.specs.List.{flat_map, list_any}
use Rattle.std.specs.Str.{chars, is_utf8}
use Rattle.hex.specs.Hex.{encode_lower}
use Rattle.book_texts.specs.Cost.{first_forcing, pages_needed, place_of_forcing}
use Rattle.cbs_page.specs.declared.paging.TextFault.{TextFault}
use Rattle.cbs_page.specs.declared.paging.TextFault.TheVariants as text
use Rattle.cbsp_wire.specs.declared.message.Cell.{Cell}
use Rattle.alert_book.specs.Fields.{are_texts, column}
use Rattle.alert_book.specs.Judging.{Counted, columns_after, row_with_name, text_or_none, undeclared_in}
use Rattle.alert_book.specs.Row.{columns_of}
use Rattle.alert_book.specs.declared.book.row.Verb.{Verb}
use Rattle.alert_book.specs.declared.book.row.Verb.TheVariants as verbs
use Rattle.alert_book.specs.declared.fault.RowFault.{RowFault}
use Rattle.alert_book.specs.declared.fault.RowFault.TheVariants as fault
use Rattle.alert_book.specs.declared.judging.bounds.Bounds.{Bounds}
use Rattle.alert_book.specs.declared.judging.bounds.Bounds.TheVariants as bounds
use Rattle.alert_book.specs.declared.judging.columns.Column.{Column}
use Rattle.alert_book.specs.declared.judging.columns.Column.TheVariants as columns

-- The names of columns

-- what the column of a place is, counted from 1, where a row's verb is known; the first is the verb's own
abbrev pub column_of : Option Verb → (place : ℕ) → Option Column
column_of None place = None
column_of (Some verb) place = if nat_lt place 2 then None else slice_get (columns_after verb) (place - 2)

abbrev pub name_of : Column → List ℕ
name_of columns.Lac = codes "LAC"
name_of columns.Ci = codes "CI"
name_of columns.At = codes "AT"
name_of columns.Name = codes "NAME"
name_of columns.Id = codes "ID"
name_of columns.Scope = codes "SCOPE"
name_of columns.Code = codes "CODE"
name_of columns.Language = codes "LANG"
name_of columns.Category = codes "CATEGORY"
name_of columns.Period = codes "PERIOD"
name_of columns.Broadcasts = codes "BROADCASTS"
name_of columns.Cells = codes "CELLS"
name_of columns.Text = codes "TEXT"

abbrev pub name_or_none : Option Column → List ℕ
name_or_none None = []
name_or_none (Some kind) = name_of kind

-- the name of the column of a place; a column that no verb has is without a name
abbrev pub field_name : Option Verb → (place : ℕ) → List ℕ
field_name verb place = if place == 1 then codes "VERB" else name_or_none (column_of verb place)

-- Values

-- an octet that isn't the first of a character in UTF-8
abbrev pub is_continuation : ℕ → Bool
is_continuation octet = nat_le 128 octet && nat_lt octet 192

-- how many octets this number of characters has, or all of them where there are fewer characters
abbrev pub cut_length : (characters : ℕ) → List ℕ → ℕ
cut_length characters [] = 0
cut_length zero (octet ∷ octets) = if is_continuation octet then cut_length 0 octets + 1 else 0
cut_length (suc characters) (octet ∷ octets) =
    if is_continuation octet then cut_length (suc characters) octets + 1 else cut_length characters octets + 1

-- no more than 80 characters of a field
abbrev pub cut_field : List ℕ → List ℕ
cut_field field = take (cut_length 80 field) field

-- an octet of what isn't UTF-8: itself, if it is a printable one of ASCII, or else its number in hexadecimal
abbrev pub shown_octet : ℕ → List ℕ
shown_octet octet =
    if nat_le 32 octet && nat_lt octet 127 then octet ∷ [] else 92 ∷ 120 ∷ encode_lower (octet ∷ [])

abbrev pub shown_value : List ℕ → List ℕ
shown_value field = if is_utf8 field then cut_field field else flat_map shown_octet (cut_field field)

-- What is wanted

-- a field, or no text where it isn't UTF-8
abbrev pub text_of : List ℕ → List ℕ
text_of field = unwrap_or (text_or_none field) []

-- a number, or the form of a list of cells
abbrev pub number_words : Option Column → List ℕ
number_words None = []
number_words (Some columns.Lac) = codes "a number from 0 to 65535"
number_words (Some columns.Ci) = codes "a number from 0 to 65535"
number_words (Some columns.At) = codes "a number from 0 to 65535"
number_words (Some columns.Name) = []
number_words (Some columns.Id) = codes "a number from 0 to 65535"
number_words (Some columns.Scope) = codes "a number from 0 to 3"
number_words (Some columns.Code) = codes "a number from 0 to 1023"
number_words (Some columns.Language) = []
number_words (Some columns.Category) = codes "0 (high), 1 (background) or 2 (normal)"
number_words (Some columns.Period) = codes "a number from 1 to 1024"
number_words (Some columns.Broadcasts) = codes "a number from 0 to 65535"
number_words (Some columns.Cells) = codes "* or LAC-CI with one space between"
number_words (Some columns.Text) = []

-- a semicolon, or a tab
abbrev pub is_separator : ℕ → Bool
is_separator octet = (octet == 59) || (octet == 9)

-- no verb, in a row with this number of columns
abbrev pub verb_words : (columns : ℕ) → (word : List ℕ) → List ℕ
verb_words columns word =
    if (columns == 1) && list_any is_separator word then codes "columns are separated by commas"
    else codes "cell, write, update or stop"

abbrev pub verb_name : Verb → List ℕ
verb_name verbs.Cell = codes "cell"
verb_name verbs.Write = codes "write"
verb_name verbs.Update = codes "update"
verb_name verbs.Stop = codes "stop"

-- a wrong number of columns
abbrev pub count_words : Option Verb → (columns : ℕ) → List ℕ
count_words None columns = []
count_words (Some verb) columns =
    decimal columns ++ (codes " columns, " ++ (verb_name verb ++ (codes " has " ++ decimal (columns_of verb))))

abbrev pub columns_words : Option Verb → List (List ℕ) → List ℕ
columns_words verb fields =
    if are_texts fields then count_words verb (length fields) else codes "not UTF-8: save as CSV UTF-8"

-- a cell that isn't declared
abbrev pub undeclared_words : Option Cell → List ℕ
undeclared_words None = codes "no earlier row declares a cell"
undeclared_words (Some cell) =
    codes "no earlier row declares this cell: " ++ (decimal cell.lac ++ (codes "-" ++ decimal cell.ci))

-- a cell, or a name, that was given before
abbrev pub twice_words : Option Column → (named : Option ℕ) → List ℕ
twice_words None named = []
twice_words (Some columns.Lac) named = []
twice_words (Some columns.Ci) named = codes "an earlier row declares this cell"
twice_words (Some columns.At) named = []
twice_words (Some columns.Name) None = []
twice_words (Some columns.Name) (Some row) = codes "row " ++ (decimal row ++ codes " has this name")
twice_words (Some columns.Id) named = []
twice_words (Some columns.Scope) named = []
twice_words (Some columns.Code) named = []
twice_words (Some columns.Language) named = []
twice_words (Some columns.Category) named = []
twice_words (Some columns.Period) named = []
twice_words (Some columns.Broadcasts) named = []
twice_words (Some columns.Cells) named = codes "a cell comes twice"
twice_words (Some columns.Text) named = []

-- no name, or an unknown one
abbrev pub unknown_words : Option Verb → List ℕ
unknown_words None = []
unknown_words (Some verbs.Cell) = []
unknown_words (Some verbs.Write) = codes "a name"
unknown_words (Some verbs.Update) = codes "no earlier row writes this name"
unknown_words (Some verbs.Stop) = codes "no earlier row writes this name"

-- a cell too many in a network book, or another row too many
abbrev pub many_of_verb : Option Verb → List ℕ
many_of_verb None = codes "a network book has 4096 rows besides cells at most"
many_of_verb (Some verbs.Cell) = codes "a network book has 65536 cells at most"
many_of_verb (Some verbs.Write) = codes "a network book has 4096 rows besides cells at most"
many_of_verb (Some verbs.Update) = codes "a network book has 4096 rows besides cells at most"
many_of_verb (Some verbs.Stop) = codes "a network book has 4096 rows besides cells at most"

-- a row too many, or a cell too many
abbrev pub too_many_words : Bounds → Option Verb → (row : ℕ) → List ℕ
too_many_words bounds.Book verb row =
    if nat_lt 4096 row then codes "a book has 4096 rows at most" else codes "a book has 64 cells at most"
too_many_words bounds.Network verb row =
    if nat_lt 69633 row then codes "a network book has 69632 rows at most" else many_of_verb verb

-- what is said of a fault in the column of a place of a row; `after` is what counts after the row
abbrev pub says_of_row : (row : ℕ) → (after : Counted) → List (List ℕ) → Option Verb → (place : ℕ) → RowFault → List ℕ
says_of_row row after fields verb place fault.Columns = columns_words verb fields
says_of_row row after fields verb place fault.Verb = verb_words (length fields) (column fields 0)
says_of_row row after fields verb place fault.Number = number_words (column_of verb place)
says_of_row row after fields verb place fault.UnknownCell =
    undeclared_words (undeclared_in after.known.cells (text_of (column fields (place - 1))))
says_of_row row after fields verb place fault.TwiceNamed =
    twice_words (column_of verb place) (row_with_name after.known.orders (text_of (column fields (place - 1))))
says_of_row row after fields verb place fault.UnknownName = unknown_words verb
says_of_row row after fields verb place fault.TooManyUpdates = codes "an alert has 15 updates at most"
says_of_row row after fields verb place fault.TooManyRows = too_many_words after.bounds verb row
says_of_row row after fields verb place fault.Refused = []

-- of a text by its number of pages, and why it is UCS-2: its first such character, and the place of that character,
-- counted from 0
abbrev pub pages_words_by : (pages : ℕ) → (character place : Option ℕ) → List ℕ
pages_words_by pages None place = decimal pages ++ codes " pages, 15 is the most"
pages_words_by pages (Some character) None = decimal pages ++ codes " pages, 15 is the most"
pages_words_by pages (Some character) (Some place) =
    decimal pages ++ (codes " pages, 15 is the most: UCS-2 because of " ++ (encode_utf8 character ++ (codes " at "
    ++ decimal place)))

abbrev pub pages_words : List ℕ → List ℕ
pages_words field =
    pages_words_by (pages_needed (chars field)) (first_forcing (chars field)) (place_of_forcing (chars field))

-- what is said of a text's fault
abbrev pub says_of_text : List ℕ → TextFault → List ℕ
says_of_text field text.BadLanguage =
    codes "unknown language: de, en, it, fr, es, nl, sv, da, pt, fi, no, el, tr, hu, pl, und, cs, he, ar, ru or is"
says_of_text field text.Empty = codes "a text"
says_of_text field (text.BadCharacter place) = codes "bad character at " ++ decimal place
says_of_text field text.TooManyPages = pages_words (text_of field)
says_of_text field text.Refused = []

-- where a row's text stands, and its language
abbrev pub text_place : Option Verb → ℕ
text_place None = 1
text_place (Some verbs.Cell) = 1
text_place (Some verbs.Write) = 12
text_place (Some verbs.Update) = 9
text_place (Some verbs.Stop) = 1

abbrev pub language_place : Option Verb → ℕ
language_place None = 1
language_place (Some verbs.Cell) = 1
language_place (Some verbs.Write) = 7
language_place (Some verbs.Update) = 4
language_place (Some verbs.Stop) = 1

-- the column of a text's fault
abbrev pub place_of_text : Option Verb → TextFault → ℕ
place_of_text verb text.BadLanguage = language_place verb
place_of_text verb text.Empty = text_place verb
place_of_text verb (text.BadCharacter place) = text_place verb
place_of_text verb text.TooManyPages = text_place verb
place_of_text verb text.Refused = text_place verb
