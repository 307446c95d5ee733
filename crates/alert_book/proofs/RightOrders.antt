-- What the rows of a book order is in range: periods, categories and cells.
use Rattle.std.proofs.Common.{◌≡◌, ℕ, ◌+◌, ◌≤◌, Bool, true, false, cond, not, ◌&&◌, ◌||◌, nat_le, nat_lt, eqb}
use Rattle.std.proofs.Common.{Option, Some, None, List, [], ◌∷◌, ◌++◌, length, filter, Result, Ok, Err, refl}
use Rattle.std.proofs.Common.{arith, ap, inl, inr, subst, codes, count_by, All}
use Rattle.std.specs.List.{list_all, list_any}
use Rattle.std.specs.Option.{ok_or}
use Rattle.std.specs.Str.{bytes_eq}
use Rattle.std.proofs.lemmas.Bool.{and_from, and_parts, cases_Bool, le-leb, leb-true, not-true, not_from_false}
use Rattle.std.proofs.lemmas.Bool.{both_ways, or_from, or_parts}
use Rattle.std.proofs.lemmas.List.Elements.{All-nil, All-push}
use Rattle.std.proofs.lemmas.List.Filters.{length-filter_both}
use Rattle.cbsp_wire.specs.declared.message.Cell.{Cell}
use Rattle.cbsp_wire.specs.Range.{are_distinct, cells_are_valid, is_cell, is_nothing, is_period}
use Rattle.alert_book.specs.declared.fault.RowFault.{RowFault}
use Rattle.alert_book.specs.declared.fault.RowFault.TheVariants as fault
use Rattle.alert_book.specs.declared.book.order.Action.{Action}
use Rattle.alert_book.specs.declared.book.order.Action.TheVariants as action
use Rattle.alert_book.specs.declared.book.order.Order.{Order}
use Rattle.alert_book.specs.declared.book.order.Sending.{Sending}
use Rattle.std.specs.Str.Parse.{digits_value}
use Rattle.alert_book.specs.declared.book.row.Row.{Row}
use Rattle.alert_book.specs.declared.book.row.Row.TheVariants as rows
use Rattle.alert_book.specs.declared.book.row.Verb.{Verb}
use Rattle.alert_book.specs.declared.book.row.Verb.TheVariants as verbs
use Rattle.alert_book.specs.Book.{rows_with, with_row, Contents, IsBook, Rows}
use Rattle.alert_book.specs.Fields.{alert_at, are_texts, known_name, new_name}
use Rattle.alert_book.specs.Row.{cell_row_within, is_update_of, is_write, new_cell, order_with, row_after_verb_by}
use Rattle.alert_book.specs.Row.{row_of, verb_of, FieldCells}
use Rattle.alert_book.proofs.FewRows.{rows_keep, valid_with}
use Rattle.alert_book.specs.Cells.{cell_with, all_named, all_of, before_all, cell_named, cells_listed, cells_of_field}
use Rattle.alert_book.specs.Cells.{is_among}
use Rattle.alert_book.specs.Cells.{is_space, cells_judged, parts_after}
use Rattle.alert_book.specs.Fields.{category, column, if_right, number, sending_by, sending_with}
use Rattle.alert_book.specs.Number.{in_range, is_number, number_within}
use Rattle.alert_book.proofs.TurnsAsk.{cell_same, filter_more, one_if}

-- cells that a message may ask: at least one, at most 64, none twice
pub record AreAsked (cells : List Cell) : Type 0 where
  pub valid : cells_are_valid cells ≡ true
  pub some : is_nothing cells ≡ false

-- a filter keeps cells distinct
any_filter : {X : Type 0} (q p : X → Bool) (xs : List X) → list_any q xs ≡ false → list_any q (filter p xs) ≡ false
any_filter {X} q p [] none = refl
any_filter {X} q p (x ∷ xs) none =
    let parts = or_parts (q x) (list_any q xs) none in
    let rest = any_filter q p xs parts.1 in
    elim (p x) as (λ here. list_any q (cond here (x ∷ filter p xs) (filter p xs)) ≡ false) [
      | true ↦ or_from (q x) (list_any q (filter p xs)) parts.0 rest
      | false ↦ rest
    ]

-- the cells that a filter keeps of distinct ones are distinct
pub distinct_filter : (p : Cell → Bool) (cells : List Cell) → are_distinct cells ≡ true →
    are_distinct (filter p cells) ≡ true
distinct_filter p [] distinct = refl
distinct_filter p (c ∷ cs) distinct =
    let parts = and_parts (not (list_any (is_cell c) cs)) (are_distinct cs) distinct in
    let rest = distinct_filter p cs parts.1 in
    let alone = any_filter (is_cell c) p cs (not-true (list_any (is_cell c) cs) parts.0) in
    elim (p c) as (λ here. are_distinct (cond here (c ∷ filter p cs) (filter p cs)) ≡ true) [
      | true ↦ and_from (not (list_any (is_cell c) (filter p cs))) (are_distinct (filter p cs))
          (not_from_false (list_any (is_cell c) (filter p cs)) alone) rest
      | false ↦ rest
    ]

-- distinct cells that are all among some others are no more than these
none_kept : {X : Type 0} (p : X → Bool) (xs : List X) → list_any p xs ≡ false → length (filter p xs) ≡ 0
none_kept {X} p [] none = refl
none_kept {X} p (x ∷ xs) none =
    let parts = or_parts (p x) (list_any p xs) none in
    let rest = none_kept p xs parts.1 in
    let more = filter_more p x xs in
    let here : one_if (p x) ≡ 0 = ap one_if parts.0 in
    omega (arith, rest, more, here)

one_kept : (d : Cell) (cells : List Cell) → are_distinct cells ≡ true → length (filter (is_cell d) cells) ≤ 1
one_kept d [] distinct = omega arith
one_kept d (c ∷ cs) distinct =
    let parts = and_parts (not (list_any (is_cell c) cs)) (are_distinct cs) distinct in
    let more = filter_more (is_cell d) c cs in
    elim (cases_Bool (is_cell d c)) [
      | inl same ↦
          let none = none_kept (is_cell c) cs (not-true (list_any (is_cell c) cs) parts.0) in
          let is : length (filter (is_cell d) cs) ≡ length (filter (is_cell c) cs) =
          ap (λ (x : Cell). length (filter (is_cell x) cs)) (cell_same d c same) in
          let here : one_if (is_cell d c) ≡ 1 = ap one_if same in
          omega (arith, none, is, more, here)
      | inr other ↦
          let rest = one_kept d cs parts.1 in
          let here : one_if (is_cell d c) ≡ 0 = ap one_if other in
          omega (arith, rest, more, here)
    ]

others_among : (d : Cell) (ds cells : List Cell) → list_all (is_among (d ∷ ds)) cells ≡ true →
    list_all (is_among ds) (filter (λ c. not (is_cell d c)) cells) ≡ true
others_among d ds [] all = refl
others_among d ds (c ∷ cs) all =
    let parts = and_parts (is_among (d ∷ ds) c) (list_all (is_among (d ∷ ds)) cs) all in
    let rest = others_among d ds cs parts.1 in
    elim (is_cell d c)
    as (λ here. (here || is_among ds c) ≡ true → list_all (is_among ds)
    (cond (not here) (c ∷ filter (λ x. not (is_cell d x)) cs) (filter (λ x. not (is_cell d x)) cs)) ≡ true) [
      | true ↦ λ among. rest
      | false ↦ λ among. and_from (is_among ds c) (list_all (is_among ds) (filter (λ x. not (is_cell d x)) cs)) among
          rest
    ] parts.0

-- a list of distinct cells that are all declared is no longer than that of those
pub no_more_than : (declared cells : List Cell) → list_all (is_among declared) cells ≡ true →
    are_distinct cells ≡ true → length cells ≤ length declared
no_more_than [] [] all distinct = omega arith
no_more_than [] (c ∷ cs) all distinct = absurd (both_ways false refl all)
no_more_than (d ∷ ds) cells all distinct =
    let others = λ (c : Cell). not (is_cell d c) in
    let rest = no_more_than ds (filter others cells) (others_among d ds cells all)
    (distinct_filter others cells distinct) in
    let one = one_kept d cells distinct in
    let both = length-filter_both (is_cell d) others (λ c. refl) cells in
    omega (arith, rest, one, both)

-- a list of cells is never empty
before_some : (cell : Option Cell) (rest : Option (List Cell)) (cells : List Cell) →
    before_all cell rest ≡ Some cells → is_nothing cells ≡ false
before_some None rest cells is = absurd (cc is)
before_some (Some cell) None cells is = absurd (cc is)
before_some (Some cell) (Some rest) [] is = absurd (cc is)
before_some (Some cell) (Some rest) (c ∷ cs) is = refl

-- a list that is right names some cells
pub listed_some : (part text : List ℕ) (cells : List Cell) → all_named (parts_after part text) ≡ Some cells →
    is_nothing cells ≡ false
listed_some part [] cells is = before_some (cell_named part) (Some []) cells is
listed_some part (octet ∷ text) cells is = elim (cases_Bool (is_space octet)) [
  | inl space ↦ before_some (cell_named part) (all_named (parts_after [] text)) cells (rw space at is)
  | inr other ↦ listed_some (part ++ octet ∷ []) text cells (rw other at is)
]

-- the cells of a field may be asked where those declared are valid
same_cells : (r : Result (List Cell) RowFault) (a b : List Cell) → r ≡ Ok a → r ≡ Ok b → a ≡ b
same_cells r a b one other = cc

all_asked : (declared cells : List Cell) → cells_are_valid declared ≡ true → all_of declared ≡ Ok cells →
    AreAsked cells
all_asked [] cells valid is = absurd (cc is)
all_asked (c ∷ cs) cells valid is =
    subst AreAsked (same_cells (all_of (c ∷ cs)) (c ∷ cs) cells refl is) (record { valid = valid; some = refl })

judged_asked : (declared : List Cell) (named : Option (List Cell)) (cells : List Cell) →
    cells_are_valid declared ≡ true → ((listed : List Cell) → named ≡ Some listed → is_nothing listed ≡ false) →
    cells_judged declared named ≡ Ok cells → AreAsked cells
judged_asked declared None cells valid some is = absurd (cc is)
judged_asked declared (Some listed) cells valid some is =
    let few = and_parts (nat_le (length declared) 64) (are_distinct declared) valid in
    elim (cases_Bool (list_all (is_among declared) listed)) [
      | inr other ↦ absurd (cc (rw other at is))
      | inl all ↦ elim (cases_Bool (are_distinct listed)) [
        | inr other ↦ absurd (cc (rw (all, other) at is))
        | inl distinct ↦
            let most = no_more_than declared listed all distinct in
            let bound = leb-true (length declared) 64 few.0 in
            subst AreAsked (same_cells (Ok listed) listed cells refl (rw (all, distinct) at is)) (record {
              valid = and_from (nat_le (length listed) 64) (are_distinct listed)
                  (le-leb (length listed) 64 (omega (arith, most, bound))) distinct;
              some = some listed refl;
            })
      ]
    ]

-- the cells of a row's field are
pub field_asked : (declared : List Cell) (field : List ℕ) (cells : List Cell) → cells_are_valid declared ≡ true →
    cells_of_field declared field ≡ Ok cells → AreAsked cells
field_asked declared field cells valid is = elim (cases_Bool (bytes_eq field (codes "*"))) [
  | inl all ↦ all_asked declared cells valid (rw all at is)
  | inr some ↦ judged_asked declared (cells_listed field) cells valid (listed_some [] field) (rw some at is)
]

-- numbers are in their ranges
ok_some : (o : Option ℕ) (n : ℕ) → ok_or o fault.Number ≡ Ok n → o ≡ Some n
ok_some None n is = absurd (cc is)
ok_some (Some m) n is = cc

same_number : (o : Option ℕ) (a b : ℕ) → o ≡ Some a → o ≡ Some b → a ≡ b
same_number o a b one other = cc

range_is : (least most value n : ℕ) → in_range least most value ≡ Some n → (nat_le least n && nat_le n most) ≡ true
range_is least most value n is = elim (cases_Bool (nat_le least value && nat_le value most)) [
  | inl within ↦ subst (λ m. (nat_le least m && nat_le m most) ≡ true)
      (same_number (Some value) value n refl (rw within at is)) within
  | inr outside ↦ absurd (cc (rw outside at is))
]

number_is : (least most : ℕ) (field : List ℕ) (n : ℕ) → number least most field ≡ Ok n →
    (nat_le least n && nat_le n most) ≡ true
number_is least most field n is =
    let some = ok_some (number_within least most field) n is in
    elim (cases_Bool (is_number field)) [
      | inl digits ↦ range_is least most (digits_value 10 field) n (rw digits at some)
      | inr other ↦ absurd (cc (rw other at some))
    ]

-- what is sent is in range, and its cells are good
pub record IsRightBy (Good : List Cell → Type 0) (sending : Sending) : Type 0 where
  pub category : nat_le sending.category 2 ≡ true
  pub period : is_period sending.period ≡ true
  pub cells : Good sending.cells

-- it may be sent
abbrev pub IsRight : Sending → Type 0
IsRight sending = IsRightBy AreAsked sending

-- a field comes to good cells
abbrev pub AreGood : (Good : List Cell → Type 0) → FieldCells → (field : List ℕ) → Type 0
AreGood Good cells_of field = (cells : List Cell) → cells_of field ≡ Ok cells → Good cells

-- the column of a row's cells
abbrev pub cells_column : Option Verb → ℕ
cells_column None = 0
cells_column (Some verbs.Cell) = 0
cells_column (Some verbs.Write) = 10
cells_column (Some verbs.Update) = 7
cells_column (Some verbs.Stop) = 3

-- what all that comes next makes is, the whole makes is
pub right_gives : {A B : Type 0} (P : B → Type 0) (r : Result A RowFault) (next : A → Result B RowFault) →
    ((value : A) → r ≡ Ok value → (made : B) → next value ≡ Ok made → P made) →
    (made : B) → if_right r next ≡ Ok made → P made
right_gives {A} {B} P (Ok value) next gives made is = gives value refl made is
right_gives {A} {B} P (Err kind) next gives made is = absurd (cc is)

same_sending : (r : Result Sending RowFault) (a b : Sending) → r ≡ Ok a → r ≡ Ok b → a ≡ b
same_sending r a b one other = cc

-- what a row has cells send is
pub sending_right : (Good : List Cell → Type 0) (cells_of : FieldCells) (fields : List (List ℕ)) (place : ℕ) →
    AreGood Good cells_of (column fields (place + 4)) → (sending : Sending) →
    sending_by cells_of fields place ≡ Ok sending → IsRightBy Good sending
sending_right Good cells_of fields place good =
    right_gives (IsRightBy Good) (category (column fields (place + 1))) _ (λ c categorized.
    right_gives (IsRightBy Good) (number 1 1024 (column fields (place + 2))) _ (λ p periodic.
    right_gives (IsRightBy Good) (number 0 65535 (column fields (place + 3))) _ (λ b counted.
    right_gives (IsRightBy Good) (cells_of (column fields (place + 4))) _ (λ cells listed sending is.
    subst (IsRightBy Good)
    (same_sending (Ok (sending_with (column fields place) c p b cells (column fields (place + 5))))
    (sending_with (column fields place) c p b cells (column fields (place + 5))) sending refl is)
    (record {
      category = (and_parts (nat_le 0 c) (nat_le c 2)
          (number_is 0 2 (column fields (place + 1)) c categorized)).1;
      period = number_is 1 1024 (column fields (place + 2)) p periodic;
      cells = good cells listed;
    })))))

-- what an action sends or stops is
abbrev pub IsRightActionBy : (Good : List Cell → Type 0) → Action → Type 0
IsRightActionBy Good (action.Write sending) = IsRightBy Good sending
IsRightActionBy Good (action.Update version sending) = IsRightBy Good sending
IsRightActionBy Good (action.Stop cells) = Good cells

-- it may be sent, or stopped
abbrev pub IsRightAction : Action → Type 0
IsRightAction sends = IsRightActionBy AreAsked sends

-- a row gives no order, or one that is right
abbrev pub IsRightRow : (Good : List Cell → Type 0) → Row → Type 0
IsRightRow Good (rows.Declare cell) = Unit {0}
IsRightRow Good (rows.Give order) = IsRightActionBy Good order.action

same_row : (r : Result Row RowFault) (a b : Row) → r ≡ Ok a → r ≡ Ok b → a ≡ b
same_row r a b one other = cc

given_right : (Good : List Cell → Type 0) (order : Order) (r : Result Row RowFault) →
    IsRightActionBy Good order.action → r ≡ Ok (rows.Give order) → (meant : Row) → r ≡ Ok meant →
    IsRightRow Good meant
given_right Good order r right is meant same =
    subst (IsRightRow Good) (same_row r (rows.Give order) meant is same) right

-- a fault is no row
pub fault_right : (Good : List Cell → Type 0) (kind : RowFault) (meant : Row) → Err kind ≡ Ok meant →
    IsRightRow Good meant
fault_right Good kind meant is = absurd (cc is)

-- what is right either way is right
pub either_right : (Good : List Cell → Type 0) (test : Bool) (a b : Result Row RowFault) →
    ((meant : Row) → a ≡ Ok meant → IsRightRow Good meant) →
    ((meant : Row) → b ≡ Ok meant → IsRightRow Good meant) →
    (meant : Row) → cond test a b ≡ Ok meant → IsRightRow Good meant
either_right Good true a b first second = first
either_right Good false a b first second = second

new_right : (Good : List Cell → Type 0) (declared : List Cell) (cell : Cell) (meant : Row) →
    new_cell declared cell ≡ Ok meant → IsRightRow Good meant
new_right Good declared cell =
    either_right Good (is_among declared cell) _ _ (fault_right Good fault.TwiceNamed)
    (λ meant is. subst (IsRightRow Good) (same_row (Ok (rows.Declare cell)) (rows.Declare cell) meant refl is) tt)

-- a row is right if its field comes to good cells
pub verb_right : (Good : List Cell → Type 0) (verb : Option Verb) (most row : ℕ) (declared : List Cell)
    (cells_of : FieldCells) (orders : List Order) (fields : List (List ℕ)) →
    AreGood Good cells_of (column fields (cells_column verb)) → (meant : Row) →
    row_after_verb_by verb (cell_row_within most declared fields) row cells_of orders fields ≡ Ok meant →
    IsRightRow Good meant
verb_right Good None most row declared cells_of orders fields good = fault_right Good fault.Verb
verb_right Good (Some verbs.Cell) most row declared cells_of orders fields good =
    either_right Good (eqb (length fields) 3) _ _
    (either_right Good (nat_le most (length declared)) _ _ (fault_right Good fault.TooManyRows)
    (right_gives (IsRightRow Good) (number 0 65535 (column fields 1)) _ (λ lac is.
    right_gives (IsRightRow Good) (number 0 65535 (column fields 2)) _ (λ ci same.
    new_right Good declared (cell_with lac ci)))))
    (fault_right Good fault.Columns)
verb_right Good (Some verbs.Write) most row declared cells_of orders fields good =
    either_right Good (eqb (length fields) 12) _ _
    (right_gives (IsRightRow Good) (number 0 65535 (column fields 1)) _ (λ at is.
    right_gives (IsRightRow Good) (new_name orders (column fields 2)) _ (λ name named.
    right_gives (IsRightRow Good) (alert_at fields 3) _ (λ alert known.
    right_gives (IsRightRow Good) (sending_by cells_of fields 6) _ (λ sending sent.
    given_right Good (order_with row at name (count_by is_write orders) alert (action.Write sending)) _
    (sending_right Good cells_of fields 6 good sending sent) refl)))))
    (fault_right Good fault.Columns)
verb_right Good (Some verbs.Update) most row declared cells_of orders fields good =
    either_right Good (eqb (length fields) 9) _ _
    (right_gives (IsRightRow Good) (number 0 65535 (column fields 1)) _ (λ at is.
    right_gives (IsRightRow Good) (known_name orders (column fields 2)) _ (λ first named.
    right_gives (IsRightRow Good) (sending_by cells_of fields 3) _ (λ sending sent.
    either_right Good (nat_le 15 (count_by (is_update_of (column fields 2)) orders)) _ _
    (fault_right Good fault.TooManyUpdates)
    (given_right Good (order_with row at (column fields 2) first.number first.alert
    (action.Update (count_by (is_update_of (column fields 2)) orders + 1) sending)) _
    (sending_right Good cells_of fields 3 good sending sent) refl)))))
    (fault_right Good fault.Columns)
verb_right Good (Some verbs.Stop) most row declared cells_of orders fields good =
    either_right Good (eqb (length fields) 4) _ _
    (right_gives (IsRightRow Good) (number 0 65535 (column fields 1)) _ (λ at is.
    right_gives (IsRightRow Good) (known_name orders (column fields 2)) _ (λ first named.
    right_gives (IsRightRow Good) (cells_of (column fields 3)) _ (λ cells listed.
    given_right Good (order_with row at (column fields 2) first.number first.alert (action.Stop cells)) _
    (good cells listed) refl))))
    (fault_right Good fault.Columns)

row_right : (row : ℕ) (declared : List Cell) (orders : List Order) (fields : List (List ℕ)) →
    cells_are_valid declared ≡ true → (meant : Row) → row_of row declared orders fields ≡ Ok meant →
    IsRightRow AreAsked meant
row_right row declared orders fields valid =
    either_right AreAsked (nat_lt 4096 row) _ _ (fault_right AreAsked fault.TooManyRows)
    (either_right AreAsked (not (are_texts fields)) _ _ (fault_right AreAsked fault.Columns)
    (verb_right AreAsked (verb_of (column fields 0)) 64 row declared (cells_of_field declared) orders fields
    (λ cells. field_asked declared (column fields (cells_column (verb_of (column fields 0)))) cells valid)))

-- so the orders of a book are right
abbrev IsRightOrder : Order → Type 0
IsRightOrder order = IsRightAction order.action

AreRight : ℕ → Rows → Type 0
AreRight row rows = (cells_are_valid rows.cells ≡ true) × All IsRightOrder rows.orders

-- one more order that is right
pub orders_with_row : (Good : List Cell → Type 0) (before : Rows) (meant : Row) →
    All (λ (o : Order). IsRightActionBy Good o.action) before.orders → IsRightRow Good meant →
    All (λ (o : Order). IsRightActionBy Good o.action) (with_row before meant).orders
orders_with_row Good before (rows.Declare cell) right is = right
orders_with_row Good before (rows.Give order) right is =
    All-push (λ (o : Order). IsRightActionBy Good o.action) before.orders order right is

right_more : (row : ℕ) (before : Rows) (fields : List (List ℕ)) (meant : Row) → AreRight row before →
    row_of row before.cells before.orders fields ≡ Ok meant → AreRight (row + 1) (with_row before meant)
unfolding AreRight
right_more row before fields meant right is = (
  valid_with before meant row fields right.0 is,
  orders_with_row AreAsked before meant right.1 (row_right row before.cells before.orders fields right.0 meant is),
)

-- each order of a book sends or stops what is in range
pub orders_are_right : (input : List ℕ) (book : Contents) → IsBook input book →
    All (λ order. IsRightAction order.action) book.orders
unfolding AreRight
orders_are_right input book is =
    (rows_keep row_of AreRight right_more 1 (rows_with [] []) (rows_with book.cells book.orders) is.rows.records
    (refl, All-nil IsRightOrder) is.rows.meant).1.1
