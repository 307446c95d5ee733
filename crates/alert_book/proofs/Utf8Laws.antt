-- The texts of a book's orders are UTF-8, since the fields of its rows are.
use Rattle.std.proofs.Common.{◌≡◌, ℕ, zero, suc, ◌+◌, Bool, true, false, cond, Option, Some, None, List, [], ◌∷◌}
use Rattle.std.proofs.Common.{Result, Ok, Err, refl, subst, sym, ◌&&◌}
use Rattle.std.specs.Prelude.{⊤, nat_le, nat_lt, not, count_by, ◌==◌, length}
use Rattle.std.specs.List.{All, list_all}
use Rattle.std.specs.Str.{IsUtf8, is_utf8}
use Rattle.std.proofs.lemmas.Bool.{and_parts}
use Rattle.std.proofs.lemmas.Str.{IsUtf8-from_is_utf8, IsUtf8-nil}
use Rattle.std.proofs.lemmas.List.Elements.{All-filter, All-nil, All-push}
use Rattle.csv.specs.Records.{field_at}
use Rattle.cbsp_wire.specs.declared.message.Cell.{Cell}
use Rattle.alert_book.specs.declared.fault.RowFault.{RowFault}
use Rattle.alert_book.specs.declared.fault.RowFault.TheVariants as fault
use Rattle.alert_book.specs.declared.book.order.Action.TheVariants as action
use Rattle.alert_book.specs.declared.book.order.Alert.{Alert}
use Rattle.alert_book.specs.declared.book.order.Order.{Order}
use Rattle.alert_book.specs.declared.book.order.Sending.{Sending}
use Rattle.alert_book.specs.declared.book.row.Row.{Row}
use Rattle.alert_book.specs.declared.book.row.Row.TheVariants as rows
use Rattle.alert_book.specs.declared.book.row.Verb.{Verb}
use Rattle.alert_book.specs.declared.book.row.Verb.TheVariants as verbs
use Rattle.alert_book.specs.Cells.{cell_with, cells_of_field, is_among}
use Rattle.alert_book.specs.Fields.{alert_at, are_texts, category, column, if_right, known_name, new_name, number}
use Rattle.alert_book.specs.Fields.{sending_by, sending_with}
use Rattle.alert_book.specs.Row.{cell_row_within, columns_of, is_update_of, is_write, max_cells, max_rows, new_cell}
use Rattle.alert_book.specs.Row.{max_updates, order_with, row_after_verb_by, row_of, row_of_verb_by, stop_row_by}
use Rattle.alert_book.specs.Row.{update_row_by, update_with, verb_of, write_row_by, FieldCells}
use Rattle.alert_book.specs.declared.network.Origin.TheVariants as origin
use Rattle.alert_book.specs.Book.{after_row, Rows, rows_read_by, rows_with, with_row, RowMeaning}
use Rattle.alert_book.specs.Network.{cells_in_group, declares_cell, has_cells, max_network_cells, max_orders}
use Rattle.alert_book.specs.Network.{row_in_group}
use Rattle.alert_book.specs.Texts.{HasUtf8Text, TextsAreUtf8}

-- the columns of a row whose fields are texts
column_is_text : (fields : List (List ℕ)) (place : ℕ) → are_texts fields ≡ true → IsUtf8 (column fields place)
unfolding field_at
column_is_text [] place texts = IsUtf8-nil
column_is_text (f ∷ fs) zero texts = IsUtf8-from_is_utf8 f (and_parts (is_utf8 f) (list_all is_utf8 fs) texts).0
column_is_text (f ∷ fs) (suc place) texts =
    column_is_text fs place (and_parts (is_utf8 f) (list_all is_utf8 fs) texts).1

-- what a field's value leads to
abbrev IfOk : {A : Type 0} → (A → Type 0) → Result A RowFault → Type 0
IfOk P (Ok value) = P value
IfOk P (Err kind) = ⊤

if_right-ok : {A B : Type 0} (P : B → Type 0) (field : Result A RowFault) (next : A → Result B RowFault)
    → ((value : A) → IfOk P (next value)) → IfOk P (if_right field next)
if_right-ok P (Ok value) next each = each value
if_right-ok P (Err kind) next each = tt

-- and what it leads to with what is known of it
if_right-known : {A B : Type 0} (P : B → Type 0) (Q : A → Type 0) (field : Result A RowFault)
    (next : A → Result B RowFault) → IfOk Q field → ((value : A) → Q value → IfOk P (next value))
    → IfOk P (if_right field next)
if_right-known P Q (Ok value) next known each = each value known
if_right-known P Q (Err kind) next known each = tt

-- a test that leads to a fault
fault-ok : {A : Type 0} (P : A → Type 0) (test : Bool) (kind : RowFault) (else : Result A RowFault)
    → IfOk P else → IfOk P (cond test (Err kind) else)
fault-ok P true kind else ok = tt
fault-ok P false kind else ok = ok

-- a row that gives no order, or one with a text that is UTF-8
abbrev RowHasText : Row → Type 0
RowHasText (rows.Declare cell) = ⊤
RowHasText (rows.Give order) = HasUtf8Text order

abbrev SendsText : Sending → Type 0
SendsText sending = IsUtf8 sending.text

sends_text : (cells_of : FieldCells) (fields : List (List ℕ)) (place : ℕ) → are_texts fields ≡ true
    → IfOk SendsText (sending_by cells_of fields place)
sends_text cells_of fields place texts =
    if_right-ok SendsText (category (column fields (place + 1)))
    (λ category. if_right (number 1 1024 (column fields (place + 2))) (λ period.
    if_right (number 0 65535 (column fields (place + 3))) (λ broadcasts.
    if_right (cells_of (column fields (place + 4))) (λ cells.
    Ok (sending_with (column fields place) category period broadcasts cells (column fields (place + 5)))))))
    (λ category. if_right-ok SendsText (number 1 1024 (column fields (place + 2)))
    (λ period. if_right (number 0 65535 (column fields (place + 3))) (λ broadcasts.
    if_right (cells_of (column fields (place + 4))) (λ cells.
    Ok (sending_with (column fields place) category period broadcasts cells (column fields (place + 5))))))
    (λ period. if_right-ok SendsText (number 0 65535 (column fields (place + 3)))
    (λ broadcasts. if_right (cells_of (column fields (place + 4))) (λ cells.
    Ok (sending_with (column fields place) category period broadcasts cells (column fields (place + 5)))))
    (λ broadcasts. if_right-ok SendsText (cells_of (column fields (place + 4)))
    (λ cells. Ok (sending_with (column fields place) category period broadcasts cells (column fields (place + 5))))
    (λ cells. column_is_text fields (place + 5) texts))))

-- an order that sends what has a text
sends : (sending : Sending) → SendsText sending → (same : Sending) → Some sending ≡ Some same → IsUtf8 same.text
sends sending text same is = let one : sending ≡ same = cc in subst (λ (s : Sending). IsUtf8 s.text) one text

sends_none : (sending : Sending) → None ≡ Some sending → IsUtf8 sending.text
sends_none sending none = cc

cell_row_has : (most : ℕ) (declared : List Cell) (fields : List (List ℕ))
    → IfOk RowHasText (cell_row_within most declared fields)
cell_row_has most declared fields =
    fault-ok RowHasText (nat_le most (length declared)) fault.TooManyRows
    (if_right (number 0 65535 (column fields 1)) (λ lac. if_right (number 0 65535 (column fields 2)) (λ ci.
    new_cell declared (cell_with lac ci))))
    (if_right-ok RowHasText (number 0 65535 (column fields 1))
    (λ lac. if_right (number 0 65535 (column fields 2)) (λ ci. new_cell declared (cell_with lac ci)))
    (λ lac. if_right-ok RowHasText (number 0 65535 (column fields 2)) (λ ci. new_cell declared (cell_with lac ci))
    (λ ci. fault-ok RowHasText (is_among declared (cell_with lac ci)) fault.TwiceNamed
    (Ok (rows.Declare (cell_with lac ci))) tt)))

write_row_has : (row : ℕ) (cells_of : FieldCells) (orders : List Order) (fields : List (List ℕ))
    → are_texts fields ≡ true → IfOk RowHasText (write_row_by row cells_of orders fields)
write_row_has row cells_of orders fields texts =
    let given : ℕ → List ℕ → Alert → Sending → Result Row RowFault = λ at name alert sending.
    Ok (rows.Give (order_with row at name (count_by is_write orders) alert (action.Write sending))) in
    if_right-ok RowHasText (number 0 65535 (column fields 1))
    (λ at. if_right (new_name orders (column fields 2)) (λ name. if_right (alert_at fields 3) (λ alert.
    if_right (sending_by cells_of fields 6) (given at name alert))))
    (λ at. if_right-ok RowHasText (new_name orders (column fields 2))
    (λ name. if_right (alert_at fields 3) (λ alert. if_right (sending_by cells_of fields 6) (given at name alert)))
    (λ name. if_right-ok RowHasText (alert_at fields 3)
    (λ alert. if_right (sending_by cells_of fields 6) (given at name alert))
    (λ alert. if_right-known RowHasText SendsText (sending_by cells_of fields 6) (given at name alert)
    (sends_text cells_of fields 6 texts) sends)))

update_row_has : (row : ℕ) (cells_of : FieldCells) (orders : List Order) (fields : List (List ℕ))
    → are_texts fields ≡ true → IfOk RowHasText (update_row_by row cells_of orders fields)
update_row_has row cells_of orders fields texts =
    let earlier : ℕ = count_by (is_update_of (column fields 2)) orders in
    let given : ℕ → Order → Sending → Result Row RowFault = λ at first sending.
    update_with row at (column fields 2) first earlier sending in
    if_right-ok RowHasText (number 0 65535 (column fields 1))
    (λ at. if_right (known_name orders (column fields 2)) (λ first.
    if_right (sending_by cells_of fields 3) (given at first)))
    (λ at. if_right-ok RowHasText (known_name orders (column fields 2))
    (λ first. if_right (sending_by cells_of fields 3) (given at first))
    (λ first. if_right-known RowHasText SendsText (sending_by cells_of fields 3) (given at first)
    (sends_text cells_of fields 3 texts)
    (λ sending text. fault-ok RowHasText (nat_le max_updates earlier) fault.TooManyUpdates
    (Ok (rows.Give (order_with row at (column fields 2) first.number first.alert
    (action.Update (earlier + 1) sending))))
    (sends sending text))))

stop_row_has : (row : ℕ) (cells_of : FieldCells) (orders : List Order) (fields : List (List ℕ))
    → IfOk RowHasText (stop_row_by row cells_of orders fields)
stop_row_has row cells_of orders fields =
    let given : ℕ → Order → List Cell → Result Row RowFault = λ at first cells.
    Ok (rows.Give (order_with row at (column fields 2) first.number first.alert (action.Stop cells))) in
    if_right-ok RowHasText (number 0 65535 (column fields 1))
    (λ at. if_right (known_name orders (column fields 2)) (λ first.
    if_right (cells_of (column fields 3)) (given at first)))
    (λ at. if_right-ok RowHasText (known_name orders (column fields 2))
    (λ first. if_right (cells_of (column fields 3)) (given at first))
    (λ first. if_right-ok RowHasText (cells_of (column fields 3)) (given at first)
    (λ cells. sends_none)))

row_of_verb_has : (verb : Verb) (most row : ℕ) (declared : List Cell) (cells_of : FieldCells) (orders : List Order)
    (fields : List (List ℕ)) → are_texts fields ≡ true → IfOk RowHasText
    (row_of_verb_by verb (cell_row_within most declared fields) row cells_of orders fields)
row_of_verb_has verbs.Cell most row declared cells_of orders fields texts = cell_row_has most declared fields
row_of_verb_has verbs.Write most row declared cells_of orders fields texts =
    write_row_has row cells_of orders fields texts
row_of_verb_has verbs.Update most row declared cells_of orders fields texts =
    update_row_has row cells_of orders fields texts
row_of_verb_has verbs.Stop most row declared cells_of orders fields texts = stop_row_has row cells_of orders fields

row_after_verb_has : (verb : Option Verb) (most row : ℕ) (declared : List Cell) (cells_of : FieldCells)
    (orders : List Order) (fields : List (List ℕ)) → are_texts fields ≡ true → IfOk RowHasText
    (row_after_verb_by verb (cell_row_within most declared fields) row cells_of orders fields)
row_after_verb_has None most row declared cells_of orders fields texts = tt
row_after_verb_has (Some verb) most row declared cells_of orders fields texts =
    by_columns (length fields == columns_of verb)
    (row_of_verb_by verb (cell_row_within most declared fields) row cells_of orders fields)
    (row_of_verb_has verb most row declared cells_of orders fields texts)
  where
    by_columns : (test : Bool) (right : Result Row RowFault) → IfOk RowHasText right
        → IfOk RowHasText (cond test right (Err fault.Columns))
    by_columns true right ok = ok
    by_columns false right ok = tt

-- a row that is right, where there is room for it
row_has : (full : Bool) (most row : ℕ) (declared : List Cell) (cells_of : FieldCells) (orders : List Order)
    (fields : List (List ℕ)) → IfOk RowHasText (cond full (Err fault.TooManyRows)
    (cond (not (are_texts fields)) (Err fault.Columns) (row_after_verb_by (verb_of (column fields 0))
    (cell_row_within most declared fields) row cells_of orders fields)))
row_has full most row declared cells_of orders fields =
    fault-ok RowHasText full fault.TooManyRows
    (cond (not (are_texts fields)) (Err fault.Columns) (row_after_verb_by (verb_of (column fields 0))
    (cell_row_within most declared fields) row cells_of orders fields))
    (by_texts (are_texts fields) refl)
  where
    by_texts : (texts : Bool) → are_texts fields ≡ texts → IfOk RowHasText (cond (not texts) (Err fault.Columns)
        (row_after_verb_by (verb_of (column fields 0)) (cell_row_within most declared fields) row cells_of orders
        fields))
    by_texts true texts = row_after_verb_has (verb_of (column fields 0)) most row declared cells_of orders fields texts
    by_texts false texts = tt

-- a way to read rows of which each that is right has such a text
abbrev HaveTexts : RowMeaning → Type 0
HaveTexts meaning = (row : ℕ) (declared : List Cell) (orders : List Order) (fields : List (List ℕ))
    → IfOk RowHasText (meaning row declared orders fields)

-- so the orders of rows have such texts
with_row_has : (before : Rows) (row : Row) → All HasUtf8Text before.orders → RowHasText row
    → All HasUtf8Text (with_row before row).orders
with_row_has before (rows.Declare cell) all here = all
with_row_has before (rows.Give order) all here = All-push HasUtf8Text before.orders order all here

rows_have : (meaning : RowMeaning) → HaveTexts meaning → (records : List (List (List ℕ))) (row : ℕ)
    (before after : Rows) → All HasUtf8Text before.orders
    → rows_read_by meaning row before records ≡ Ok after → All HasUtf8Text after.orders
rows_have meaning have [] row before after all read =
    let same : before ≡ after = cc in subst (λ (r : Rows). All HasUtf8Text r.orders) same all
rows_have meaning have (fields ∷ more) row before after all read =
    by_row (meaning row before.cells before.orders fields) (have row before.cells before.orders fields)
    (λ next. rows_have meaning have more (row + 1) next after) read
  where
    by_row : (meant : Result Row RowFault) → IfOk RowHasText meant
        → ((next : Rows) → All HasUtf8Text next.orders → rows_read_by meaning (row + 1) next more ≡ Ok after
        → All HasUtf8Text after.orders)
        → after_row row before meant (λ next. rows_read_by meaning (row + 1) next more) ≡ Ok after
        → All HasUtf8Text after.orders
    by_row (Ok meant) here later right = later (with_row before meant) (with_row_has before meant all here) right
    by_row (Err kind) here later right = cc

-- the texts of a book are UTF-8, and those of a group's
pub texts_are_utf8 : TextsAreUtf8
texts_are_utf8 origin.Book input book is =
    rows_have row_of
    (λ row declared orders fields. row_has (nat_lt max_rows row) max_cells row declared (cells_of_field declared) orders
    fields)
    is.rows.records 1 (rows_with [] []) (rows_with book.cells book.orders) (All-nil HasUtf8Text) is.rows.meant
texts_are_utf8 (origin.Group group) input book is =
    subst (λ (orders : List Order). All HasUtf8Text orders) (sym is.orders)
    (All-filter has_cells HasUtf8Text is.rows.orders
    (rows_have (row_in_group group)
    (λ row declared orders fields. row_has (not (declares_cell fields) && nat_le max_orders (length orders))
    max_network_cells row declared (cells_in_group group declared) orders fields)
    is.network.meant.records 1 (rows_with [] []) is.rows (All-nil HasUtf8Text) is.network.meant.meant))
