-- A row of an orders file, or its fault: of several the first, from left to right, after the verb and the number of
-- columns. Own.
use Rattle.std.specs.Prelude.{ℕ, ◌+◌, ◌==◌, ◌&&◌, nat_le, Bool, if◌then◌else◌, Option, Some, None, List, length, drop}
use Rattle.std.specs.Prelude.{codes, Result, Ok, Err}
use Rattle.std.specs.Str.{bytes_eq}
use Rattle.cbs_page.specs.declared.content.Content.{Content}
use Rattle.cbs_page.specs.declared.coding.Dcs.{Dcs}
use Rattle.cell_orders.specs.declared.row.CellAnswer.{CellAnswer}
use Rattle.cell_orders.specs.declared.row.CellOrder.{CellOrder}
use Rattle.cell_orders.specs.declared.row.CellOrder.TheVariants as rows
use Rattle.cell_orders.specs.declared.row.OrderRow.{OrderRow}
use Rattle.orders_file.specs.declared.fault.OrdersFileFaultKind.{OrdersFileFaultKind}
use Rattle.orders_file.specs.declared.fault.OrdersFileFaultKind.TheVariants as faults
use Rattle.orders_file.specs.declared.row.Head.{Head}
use Rattle.orders_file.specs.declared.row.Terms.{Terms}
use Rattle.orders_file.specs.declared.row.Verb.{Verb}
use Rattle.orders_file.specs.declared.row.Verb.TheVariants as verbs
use Rattle.orders_file.specs.Columns.{column, if_right}
use Rattle.orders_file.specs.Fields.{answer_of, coding, old_serial}
use Rattle.orders_file.specs.Number.{number, serial}
use Rattle.orders_file.specs.Page.{pages_of}

-- the last slot
abbrev pub last_slot : ℕ
last_slot = 2147483647

unfoldable pub verb_of : List ℕ → Option Verb
verb_of word =
    if bytes_eq word (codes "write") then Some verbs.Write
    else if bytes_eq word (codes "kill") then Some verbs.Kill
    else if bytes_eq word (codes "clear") then Some verbs.Clear
    else None

-- whether a row of a verb has this many columns, the verb's own among them
abbrev pub has_columns : Verb → ℕ → Bool
has_columns verbs.Write count = nat_le 12 count && nat_le count 26
has_columns verbs.Kill count = count == 6
has_columns verbs.Clear count = count == 2

abbrev pub row_with : (at : ℕ) → CellOrder → OrderRow
row_with at order = record { at = at; time = 0; packet = 0; order = order }

-- AT, ID and SERIAL
abbrev pub head_with : (at id serial : ℕ) → Head
head_with at id serial = record { at = at; id = id; serial = serial }

abbrev pub head_of : List (List ℕ) → Result Head OrdersFileFaultKind
head_of fields =
    if_right (number last_slot (column fields 1)) (λ at.
    if_right (number 65535 (column fields 2)) (λ id.
    if_right (serial (column fields 3)) (λ serial.
    Ok (head_with at id serial))))

-- OLD, CATEGORY, PERIOD, BROADCASTS and CODING
abbrev pub terms_with : (old_serial : Option ℕ) → (category period broadcasts : ℕ) → Dcs → Terms
terms_with old_serial category period broadcasts dcs =
    record {
      old_serial = old_serial;
      category = category;
      period = period;
      broadcasts = broadcasts;
      dcs = dcs;
    }

abbrev pub terms_of : List (List ℕ) → Result Terms OrdersFileFaultKind
terms_of fields =
    if_right (old_serial (column fields 4)) (λ old_serial.
    if_right (number 255 (column fields 5)) (λ category.
    if_right (number 4095 (column fields 6)) (λ period.
    if_right (number 65535 (column fields 7)) (λ broadcasts.
    if_right (coding (column fields 8)) (λ dcs.
    Ok (terms_with old_serial category period broadcasts dcs))))))

-- ANSWER and DONE, from this place on
abbrev pub answer_at : List (List ℕ) → ℕ → Result (Option CellAnswer) OrdersFileFaultKind
answer_at fields place = answer_of (column fields place) (column fields (place + 1))

abbrev pub write_with : Head → Terms → Option CellAnswer → List Content → CellOrder
write_with head terms answer contents =
    rows.Write head.id head.serial terms.old_serial terms.category terms.period terms.broadcasts terms.dcs contents
    answer

-- `write`, AT, ID, SERIAL, OLD, CATEGORY, PERIOD, BROADCASTS, CODING, ANSWER, DONE, PAGE ..
abbrev pub write_row : List (List ℕ) → Result OrderRow OrdersFileFaultKind
write_row fields =
    if_right (head_of fields) (λ head.
    if_right (terms_of fields) (λ terms.
    if_right (answer_at fields 9) (λ answer.
    if_right (pages_of (drop 11 fields)) (λ contents.
    Ok (row_with head.at (write_with head terms answer contents))))))

-- `kill`, AT, ID, SERIAL, ANSWER, DONE
abbrev pub kill_row : List (List ℕ) → Result OrderRow OrdersFileFaultKind
kill_row fields =
    if_right (head_of fields) (λ head.
    if_right (answer_at fields 4) (λ answer.
    Ok (row_with head.at (rows.Kill head.id head.serial answer))))

-- `clear`, AT
abbrev pub clear_row : List (List ℕ) → Result OrderRow OrdersFileFaultKind
clear_row fields = if_right (number last_slot (column fields 1)) (λ at. Ok (row_with at rows.Clear))

abbrev pub row_of_verb : Verb → List (List ℕ) → Result OrderRow OrdersFileFaultKind
row_of_verb verbs.Write fields = write_row fields
row_of_verb verbs.Kill fields = kill_row fields
row_of_verb verbs.Clear fields = clear_row fields

abbrev pub row_after_verb : Option Verb → List (List ℕ) → Result OrderRow OrdersFileFaultKind
row_after_verb None fields = Err faults.Verb
row_after_verb (Some verb) fields =
    if has_columns verb (length fields) then row_of_verb verb fields else Err faults.Columns

-- the row that fields say
abbrev pub order_of_fields : List (List ℕ) → Result OrderRow OrdersFileFaultKind
order_of_fields fields = row_after_verb (verb_of (column fields 0)) fields
