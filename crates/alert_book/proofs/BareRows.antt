-- What a network book's rows mean but for the cells of their orders, which no group changes: bare rows.
use Rattle.std.proofs.Common.{◌≡◌, ◌⊎◌, ℕ, ◌+◌, ◌&&◌, ◌∙◌, Bool, true, false, cond, not, nat_le, eqb, Result, Ok, Err}
use Rattle.std.proofs.Common.{Option, Some, None, List, [], ◌∷◌, length, map, count_by, refl, sym, ap, inl, inr}
use Rattle.std.specs.Option.{is_some, ok_or}
use Rattle.std.proofs.lemmas.List.{length-map, map-append}
use Rattle.std.proofs.lemmas.List.Sums.{sum_by-cons}
use Rattle.cbs_page.specs.declared.paging.Paged.{Paged}
use Rattle.cbsp_wire.specs.declared.message.Cell.{Cell}
use Rattle.alert_book.specs.declared.fault.BookFault.{BookFault}
use Rattle.alert_book.specs.declared.fault.RowFault.{RowFault}
use Rattle.alert_book.specs.declared.fault.RowFault.TheVariants as fault
use Rattle.alert_book.specs.declared.book.order.Action.{Action}
use Rattle.alert_book.specs.declared.book.order.Action.TheVariants as action
use Rattle.alert_book.specs.declared.book.order.Order.{Order}
use Rattle.alert_book.specs.declared.book.order.Sending.{Sending}
use Rattle.alert_book.specs.declared.book.row.Row.{Row}
use Rattle.alert_book.specs.declared.book.row.Row.TheVariants as rows
use Rattle.alert_book.specs.declared.book.row.Verb.{Verb}
use Rattle.alert_book.specs.declared.book.row.Verb.TheVariants as verbs
use Rattle.alert_book.specs.Book.{after_row, rows_by, rows_read_by, rows_with, sending_of, with_row, AreRowsBy}
use Rattle.alert_book.specs.Book.{ArePagesOf, HasTextFaultBy, HasWrongText, HavePages, IsRowFaultBy, RowMeaning, Rows}
use Rattle.alert_book.specs.Cells.{cell_with, cells_of_field, is_among}
use Rattle.alert_book.specs.Fields.{alert_at, are_texts, category, column, first_order, if_right, is_named, known_name}
use Rattle.alert_book.specs.Fields.{new_name, number, sending_by}
use Rattle.alert_book.specs.Network.{action_to, cells_in_group, declares_cell, order_to, row_in_group, sending_to}
use Rattle.alert_book.specs.Row.{cell_row_within, is_update_of, is_write, order_with, row_after_verb_by}
use Rattle.alert_book.specs.Row.{stop_row_by, update_row_by, update_with, updates, verb_of, write_row_by, writes}
use Rattle.alert_book.specs.Row.{FieldCells}

-- no cells are left of any
abbrev pub no_cells : List Cell → List Cell
no_cells cells = []

-- a sending without its cells
abbrev bare_sending : Sending → Sending
bare_sending s = sending_to s []

-- an action without its cells
abbrev pub bare_action : Action → Action
bare_action a = action_to a []

-- an order without its cells is bare
abbrev pub bare : Order → Order
bare o = order_to o []

-- a row is bare if its order is
abbrev pub bare_row : Row → Row
bare_row (rows.Declare cell) = rows.Declare cell
bare_row (rows.Give order) = rows.Give (bare order)

-- rows are bare if all their orders are
abbrev pub bare_rows : Rows → Rows
bare_rows before = rows_with before.cells (map bare before.orders)

-- what is right is changed, and a fault stays
abbrev pub right_by : {A B : Type 0} → (A → B) → Result A RowFault → Result B RowFault
right_by change r = if_right r (λ value. Ok (change value))

-- what comes of rows is bare if they are, and a fault stays
abbrev pub bare_result : Result Rows BookFault → Result Rows BookFault
bare_result (Ok before) = Ok (bare_rows before)
bare_result (Err f) = Err f

-- a row means this but for the cells of its order
abbrev pub bare_meaning : RowMeaning
bare_meaning row declared orders fields =
    cond (not (declares_cell fields) && nat_le 4096 (length orders)) (Err fault.TooManyRows)
    (cond (not (are_texts fields)) (Err fault.Columns)
    (row_after_verb_by (verb_of (column fields 0)) (cell_row_within 65536 declared fields) row
    (λ field. right_by no_cells (cells_of_field declared field)) orders fields))

-- a field changes so, and so does what comes of it
then_bare : {A B C D : Type 0} (r : Result A RowFault) (s : Result B RowFault) (before : A → B) (change : C → D)
    (next : A → Result C RowFault) (later : B → Result D RowFault) → right_by before r ≡ s →
    ((value : A) → right_by change (next value) ≡ later (before value)) →
    right_by change (if_right r next) ≡ if_right s later
then_bare {B = B} (Ok value) s before change next later is so =
    so value ∙ ap (λ (t : Result B RowFault). if_right t later) is
then_bare {B = B} (Err kind) s before change next later is so = ap (λ (t : Result B RowFault). if_right t later) is

itself : {A : Type 0} (r : Result A RowFault) → right_by (λ value. value) r ≡ r
itself (Ok value) = refl
itself (Err kind) = refl

-- a field stays, and what comes of it changes
pub then_same : {A C D : Type 0} (r : Result A RowFault) (change : C → D) (next : A → Result C RowFault)
    (later : A → Result D RowFault) → ((value : A) → right_by change (next value) ≡ later value) →
    right_by change (if_right r next) ≡ if_right r later
then_same (Ok value) change next later so = so value
then_same (Err kind) change next later so = refl

-- what is bare either way is bare
pub either_bare : {C D : Type 0} (test : Bool) (change : C → D) (a b : Result C RowFault) (c d : Result D RowFault) →
    right_by change a ≡ c → right_by change b ≡ d → right_by change (cond test a b) ≡ cond test c d
either_bare true change a b c d first second = first
either_bare false change a b c d first second = second

-- bare orders have the names and the counts of the orders
count_bare : (p : Order → Bool) → ((order : Order) → p (bare order) ≡ p order) → (orders : List Order) →
    count_by p orders ≡ count_by p (map bare orders)
count_bare p same [] = refl
count_bare p same (order ∷ orders) =
    sum_by-cons (λ (o : Order). cond (p o) 1 0) order orders
    ∙ rw (count_bare p same orders, sym (same order)) refl
    ∙ sym (sum_by-cons (λ (o : Order). cond (p o) 1 0) (bare order) (map bare orders))

writes_bare : (order : Order) → is_write (bare order) ≡ is_write order
writes_bare order = by_action order.action
  where
    by_action : (a : Action) → writes (bare_action a) ≡ writes a
    by_action (action.Write sending) = refl
    by_action (action.Update update sending) = refl
    by_action (action.Stop cells) = refl

updates_bare : (name : List ℕ) (order : Order) → is_update_of name (bare order) ≡ is_update_of name order
updates_bare name order = ap (λ (b : Bool). b && is_named name order) (by_action order.action)
  where
    by_action : (a : Action) → updates (bare_action a) ≡ updates a
    by_action (action.Write sending) = refl
    by_action (action.Update update sending) = refl
    by_action (action.Stop cells) = refl

some_bare : (orders : List Order) (name : List ℕ) →
    is_some (first_order orders name) ≡ is_some (first_order (map bare orders) name)
some_bare [] name = refl
some_bare (order ∷ orders) name = by_name (is_named name order) (some_bare orders name)
  where
    by_name : (here : Bool) → is_some (first_order orders name) ≡ is_some (first_order (map bare orders) name) →
        is_some (cond here (Some order) (first_order orders name))
        ≡ is_some (cond here (Some (bare order)) (first_order (map bare orders) name))
    by_name true later = refl
    by_name false later = later

new_bare : (orders : List Order) (name : List ℕ) → new_name orders name ≡ new_name (map bare orders) name
new_bare orders name = rw (some_bare orders name) refl

known_bare : (orders : List Order) (name : List ℕ) →
    right_by bare (known_name orders name) ≡ known_name (map bare orders) name
known_bare [] name = refl
known_bare (order ∷ orders) name = by_name (is_named name order) (known_bare orders name)
  where
    by_name : (here : Bool) → right_by bare (known_name orders name) ≡ known_name (map bare orders) name →
        right_by bare (ok_or (cond here (Some order) (first_order orders name)) fault.UnknownName)
        ≡ ok_or (cond here (Some (bare order)) (first_order (map bare orders) name)) fault.UnknownName
    by_name true later = refl
    by_name false later = later

-- two meanings of a field of cells are the same but for the cells
abbrev AreBare : FieldCells → FieldCells → Type 0
AreBare f g = (field : List ℕ) → right_by no_cells (f field) ≡ g field

sending_bare : (f g : FieldCells) (fields : List (List ℕ)) (place : ℕ) → AreBare f g →
    right_by bare_sending (sending_by f fields place) ≡ sending_by g fields place
sending_bare f g fields place same =
    then_same (category (column fields (place + 1))) bare_sending _ _ (λ category.
    then_same (number 1 1024 (column fields (place + 2))) bare_sending _ _ (λ period.
    then_same (number 0 65535 (column fields (place + 3))) bare_sending _ _ (λ broadcasts.
    then_bare (f (column fields (place + 4))) (g (column fields (place + 4))) no_cells bare_sending _ _
    (same (column fields (place + 4))) (λ cells. refl))))

write_bare : (row : ℕ) (f g : FieldCells) (orders : List Order) (fields : List (List ℕ)) → AreBare f g →
    right_by bare_row (write_row_by row f orders fields) ≡ write_row_by row g (map bare orders) fields
write_bare row f g orders fields same =
    then_same (number 0 65535 (column fields 1)) bare_row _ _ (λ at.
    then_bare (new_name orders (column fields 2)) (new_name (map bare orders) (column fields 2)) (λ name. name) bare_row
    _ _ (itself (new_name orders (column fields 2)) ∙ new_bare orders (column fields 2)) (λ name.
    then_same (alert_at fields 3) bare_row _ _ (λ alert.
    then_bare (sending_by f fields 6) (sending_by g fields 6) bare_sending bare_row _ _
    (sending_bare f g fields 6 same) (λ sending.
    ap (λ (n : ℕ). Ok (rows.Give (order_with row at name n alert (action.Write (bare_sending sending)))))
    (count_bare is_write writes_bare orders)))))

update_bare : (row : ℕ) (f g : FieldCells) (orders : List Order) (fields : List (List ℕ)) → AreBare f g →
    right_by bare_row (update_row_by row f orders fields) ≡ update_row_by row g (map bare orders) fields
update_bare row f g orders fields same =
    then_same (number 0 65535 (column fields 1)) bare_row _ _ (λ at.
    then_bare (known_name orders (column fields 2)) (known_name (map bare orders) (column fields 2)) bare bare_row
    _ _ (known_bare orders (column fields 2)) (λ first.
    then_bare (sending_by f fields 3) (sending_by g fields 3) bare_sending bare_row _ _
    (sending_bare f g fields 3 same) (λ sending.
    either_bare (nat_le 15 (count_by (is_update_of (column fields 2)) orders)) bare_row _ _ _ _ refl refl
    ∙ ap (λ (n : ℕ). update_with row at (column fields 2) (bare first) n (bare_sending sending))
    (count_bare (is_update_of (column fields 2)) (updates_bare (column fields 2)) orders))))

stop_bare : (row : ℕ) (f g : FieldCells) (orders : List Order) (fields : List (List ℕ)) → AreBare f g →
    right_by bare_row (stop_row_by row f orders fields) ≡ stop_row_by row g (map bare orders) fields
stop_bare row f g orders fields same =
    then_same (number 0 65535 (column fields 1)) bare_row _ _ (λ at.
    then_bare (known_name orders (column fields 2)) (known_name (map bare orders) (column fields 2)) bare bare_row
    _ _ (known_bare orders (column fields 2)) (λ first.
    then_bare (f (column fields 3)) (g (column fields 3)) no_cells bare_row _ _ (same (column fields 3)) (λ cells.
    refl)))

declares_bare : (declared : List Cell) (fields : List (List ℕ)) →
    right_by bare_row (cell_row_within 65536 declared fields) ≡ cell_row_within 65536 declared fields
declares_bare declared fields =
    either_bare (nat_le 65536 (length declared)) bare_row _ _ _ _ refl
    (then_same (number 0 65535 (column fields 1)) bare_row _ _ (λ lac.
    then_same (number 0 65535 (column fields 2)) bare_row _ _ (λ ci.
    either_bare (is_among declared (cell_with lac ci)) bare_row _ _ _ _ refl refl)))

-- a row of a verb is bare where its field is
pub verb_bare : (verb : Option Verb) (row : ℕ) (declared : List Cell) (f g : FieldCells) (orders : List Order)
    (fields : List (List ℕ)) → AreBare f g →
    right_by bare_row (row_after_verb_by verb (cell_row_within 65536 declared fields) row f orders fields)
    ≡ row_after_verb_by verb (cell_row_within 65536 declared fields) row g (map bare orders) fields
verb_bare None row declared f g orders fields same = refl
verb_bare (Some verbs.Cell) row declared f g orders fields same =
    either_bare (eqb (length fields) 3) bare_row _ _ _ _ (declares_bare declared fields) refl
verb_bare (Some verbs.Write) row declared f g orders fields same =
    either_bare (eqb (length fields) 12) bare_row _ _ _ _ (write_bare row f g orders fields same) refl
verb_bare (Some verbs.Update) row declared f g orders fields same =
    either_bare (eqb (length fields) 9) bare_row _ _ _ _ (update_bare row f g orders fields same) refl
verb_bare (Some verbs.Stop) row declared f g orders fields same =
    either_bare (eqb (length fields) 4) bare_row _ _ _ _ (stop_bare row f g orders fields same) refl

-- the row of a group is the bare row but for the cells
pub row_bare : (group row : ℕ) (declared : List Cell) (orders : List Order) (fields : List (List ℕ)) →
    right_by bare_row (row_in_group group row declared orders fields)
    ≡ bare_meaning row declared (map bare orders) fields
row_bare group row declared orders fields =
    rw (length-map orders bare)
    (either_bare (not (declares_cell fields) && nat_le 4096 (length orders)) bare_row _ _ _ _ refl
    (either_bare (not (are_texts fields)) bare_row _ _ _ _ refl
    (verb_bare (verb_of (column fields 0)) row declared (cells_in_group group declared)
    (λ field. right_by no_cells (cells_of_field declared field)) orders fields
    (λ field. then_same (cells_of_field declared field) no_cells _ _ (λ cells. refl)))))

-- rows that are bare before one more are bare after it
with_bare : (before : Rows) (meant : Row) →
    bare_rows (with_row before meant) ≡ with_row (bare_rows before) (bare_row meant)
with_bare before (rows.Declare cell) = refl
with_bare before (rows.Give order) = ap (rows_with before.cells) (map-append bare before.orders (order ∷ []))

rows_bare : (group : ℕ) (records : List (List (List ℕ))) (row : ℕ) (before : Rows) →
    bare_result (rows_read_by (row_in_group group) row before records)
    ≡ rows_read_by bare_meaning row (bare_rows before) records
rows_bare group [] row before = refl
rows_bare group (fields ∷ more) row before =
    by_row (row_in_group group row before.cells before.orders fields)
    (λ next. rows_bare group more (row + 1) next)
    ∙ ap (λ (s : Result Row RowFault). after_row row (bare_rows before) s
    (λ next. rows_read_by bare_meaning (row + 1) next more))
    (row_bare group row before.cells before.orders fields)
  where
    by_row : (r : Result Row RowFault) → ((next : Rows) →
        bare_result (rows_read_by (row_in_group group) (row + 1) next more)
        ≡ rows_read_by bare_meaning (row + 1) (bare_rows next) more) →
        bare_result (after_row row before r (λ next. rows_read_by (row_in_group group) (row + 1) next more))
        ≡ after_row row (bare_rows before) (right_by bare_row r)
        (λ next. rows_read_by bare_meaning (row + 1) next more)
    by_row (Ok meant) later =
        later (with_row before meant)
        ∙ ap (λ (next : Rows). rows_read_by bare_meaning (row + 1) next more) (with_bare before meant)
    by_row (Err kind) later = refl

-- records mean the same to each group but for the cells of orders
pub records_bare : (group : ℕ) (records : List (List (List ℕ))) →
    bare_result (rows_by (row_in_group group) records) ≡ rows_by bare_meaning records
records_bare group records = rows_bare group records 1 (rows_with [] [])

-- octets that mean rows to a group mean the bare rows
pub bare_are : (group : ℕ) (input : List ℕ) (meant : Rows) → AreRowsBy (row_in_group group) input meant →
    AreRowsBy bare_meaning input (bare_rows meant)
bare_are group input meant are = record {
  records = are.records;
  read = are.read;
  meant = sym (records_bare group are.records) ∙ ap bare_result are.meant;
}

-- orders and bare orders have the same pages
pub pages_bare : (orders : List Order) (pages : List (Option Paged)) →
    (HavePages orders pages → HavePages (map bare orders) pages)
    × (HavePages (map bare orders) pages → HavePages orders pages)
pages_bare [] [] = (λ have. have, λ have. have)
pages_bare [] (paged ∷ pages) = (λ have. have, λ have. have)
pages_bare (order ∷ orders) [] = (λ have. have, λ have. have)
pages_bare (order ∷ orders) (paged ∷ pages) =
    let here = by_action order.action paged in
    let later = pages_bare orders pages in
    (λ have. (here.0 have.0, later.0 have.1), λ have. (here.1 have.0, later.1 have.1))
  where
    by_action : (a : Action) (p : Option Paged) →
        (ArePagesOf (sending_of a) p → ArePagesOf (sending_of (bare_action a)) p)
        × (ArePagesOf (sending_of (bare_action a)) p → ArePagesOf (sending_of a) p)
    by_action (action.Write sending) None = (λ are. are, λ are. are)
    by_action (action.Write sending) (Some p) = (λ are. are, λ are. are)
    by_action (action.Update update sending) None = (λ are. are, λ are. are)
    by_action (action.Update update sending) (Some p) = (λ are. are, λ are. are)
    by_action (action.Stop cells) None = (λ are. are, λ are. are)
    by_action (action.Stop cells) (Some p) = (λ are. are, λ are. are)

sent_bare : (a : Action) (sending : Sending) → sending_of a ≡ Some sending →
    sending_of (bare_action a) ≡ Some (bare_sending sending)
sent_bare (action.Write s) sending is = ap (λ (o : Option Sending). some_sending o) is
  where
    some_sending : Option Sending → Option Sending
    some_sending None = None
    some_sending (Some x) = Some (bare_sending x)
sent_bare (action.Update update s) sending is = ap (λ (x : Sending). Some (bare_sending x)) (same is)
  where
    same : Some s ≡ Some sending → s ≡ sending
    same e = cc
sent_bare (action.Stop cells) sending is = absurd (cc is)

-- orders and bare orders have the same wrong text
pub wrong_bare : (orders : List Order) (f : BookFault) → HasWrongText orders f → HasWrongText (map bare orders) f
wrong_bare orders f w = record {
  before = map bare w.before;
  order = bare w.order;
  after = map bare w.after;
  split = ap (map bare) w.split ∙ map-append bare w.before (w.order ∷ w.after);
  pages = w.pages;
  paged = (pages_bare w.before w.pages).0 w.paged;
  sending = bare_sending w.sending;
  sent = sent_bare w.order.action w.sending w.sent;
  why = w.why;
  wrong = w.wrong;
  told = w.told;
  named = w.named;
}

-- a fault that a group finds is a fault of the bare rows
pub fault_bare : (group : ℕ) (input : List ℕ) (f : BookFault) →
    IsRowFaultBy (row_in_group group) input f ⊎ HasTextFaultBy (row_in_group group) input f →
    IsRowFaultBy bare_meaning input f ⊎ HasTextFaultBy bare_meaning input f
fault_bare group input f (inl row) = inl record {
  records = row.records;
  state = row.state;
  rest = row.rest;
  read = row.read;
  wrong = sym (records_bare group row.records) ∙ ap bare_result row.wrong;
}
fault_bare group input f (inr named) = inr record {
  rows = bare_rows named.rows;
  meant = bare_are group input named.rows named.meant;
  wrong = wrong_bare named.rows.orders f named.wrong;
}
