-- The fields of a row, judged from left to right. Own.
use Rattle.std.specs.Prelude.{ℕ, ◌+◌, ◌==◌, Bool, if◌then◌else◌, Option, is_some, unwrap_or, List, []}
use Rattle.std.specs.Prelude.{length, find, Result, Ok, Err}
use Rattle.std.specs.List.{list_all}
use Rattle.std.specs.Option.{ok_or}
use Rattle.std.specs.Str.{bytes_eq, is_utf8}
use Rattle.csv.specs.Records.{field_at}
use Rattle.cbsp_wire.specs.declared.message.Cell.{Cell}
use Rattle.alert_book.specs.declared.fault.RowFault.{RowFault}
use Rattle.alert_book.specs.declared.fault.RowFault.TheVariants as fault
use Rattle.alert_book.specs.declared.book.order.Alert.{Alert}
use Rattle.alert_book.specs.declared.book.order.Order.{Order}
use Rattle.alert_book.specs.declared.book.order.Sending.{Sending}
use Rattle.alert_book.specs.Number.{number_within}
use Rattle.alert_book.specs.Cells.{cells_of_field}

-- what comes of a field that is right; a wrong one's fault is the row's
abbrev pub if_right : {A B : Type 0} → Result A RowFault → (A → Result B RowFault) → Result B RowFault
if_right (Ok value) next = next value
if_right (Err kind) next = Err kind

-- the field at a place, counted from 0; no octets where there is none
abbrev pub column : List (List ℕ) → ℕ → List ℕ
column fields place = unwrap_or (field_at fields place) []

abbrev pub are_texts : List (List ℕ) → Bool
are_texts fields = list_all is_utf8 fields

abbrev pub number : (least most : ℕ) → List ℕ → Result ℕ RowFault
number least most field = ok_or (number_within least most field) fault.Number

-- a category is 0, high, 1, background, or 2, normal
abbrev pub category : List ℕ → Result ℕ RowFault
category field = number 0 2 field

-- whether an order is for the alert of this name
abbrev pub is_named : List ℕ → Order → Bool
is_named name order = bytes_eq order.name name

-- the first order of a name: its write, since no other row may name what no earlier one wrote
abbrev pub first_order : List Order → List ℕ → Option Order
first_order orders name = find (is_named name) orders

-- a name that a row may write: some text, which none of the earlier orders has
abbrev pub new_name : List Order → List ℕ → Result (List ℕ) RowFault
new_name orders name =
    if length name == 0 then Err fault.UnknownName
    else if is_some (first_order orders name) then Err fault.TwiceNamed
    else Ok name

-- and one that a row may update or stop, with its first order
abbrev pub known_name : List Order → List ℕ → Result Order RowFault
known_name orders name = ok_or (first_order orders name) fault.UnknownName

abbrev pub alert_with : (id scope code : ℕ) → Alert
alert_with id scope code = record { id = id; scope = scope; code = code }

-- ID, SCOPE and CODE, from this place on
abbrev pub alert_at : List (List ℕ) → ℕ → Result Alert RowFault
alert_at fields place =
    if_right (number 0 65535 (column fields place)) (λ id.
    if_right (number 0 3 (column fields (place + 1))) (λ scope.
    if_right (number 0 1023 (column fields (place + 2))) (λ code.
    Ok (alert_with id scope code))))

abbrev pub sending_with : (language : List ℕ) (category period broadcasts : ℕ) → List Cell → List ℕ → Sending
sending_with language category period broadcasts cells text =
    record {
      language = language;
      category = category;
      period = period;
      broadcasts = broadcasts;
      cells = cells;
      text = text;
    }

-- LANG, CATEGORY, PERIOD, BROADCASTS, CELLS and TEXT, from this place on, where a field of cells comes to this
abbrev pub sending_by : (cells_of : List ℕ → Result (List Cell) RowFault) → List (List ℕ) → ℕ → Result Sending RowFault
sending_by cells_of fields place =
    if_right (category (column fields (place + 1))) (λ category.
    if_right (number 1 1024 (column fields (place + 2))) (λ period.
    if_right (number 0 65535 (column fields (place + 3))) (λ broadcasts.
    if_right (cells_of (column fields (place + 4))) (λ cells.
    Ok (sending_with (column fields place) category period broadcasts cells (column fields (place + 5)))))))

-- the same where earlier rows declare these cells
abbrev pub sending_at : List Cell → List (List ℕ) → ℕ → Result Sending RowFault
sending_at declared fields place = sending_by (cells_of_field declared) fields place
