-- Books as network books, and the one book of a group.
use Rattle.std.proofs.Common.{◌≡◌, ℕ, ◌+◌, ◌<◌, ◌≤◌, ◌&&◌, Bool, true, false, cond, not, ◌∙◌, nat_le, nat_lt, eqb}
use Rattle.std.proofs.Common.{List, [], ◌∷◌, length, filter, refl, subst, sym, ap, arith, inl, inr, codes}
use Rattle.std.proofs.Common.{Result, Ok, Err, Option, Some, None, All}
use Rattle.std.specs.List.{list_all, AllZip}
use Rattle.std.specs.Str.{bytes_eq}
use Rattle.std.proofs.lemmas.Bool.{and_parts, cases_Bool, leb-false, leb-true}
use Rattle.std.proofs.lemmas.List.Elements.{All-head, All-tail}
use Rattle.cbsp_wire.specs.declared.message.Cell.{Cell}
use Rattle.cbsp_wire.specs.Range.{are_distinct, cells_are_valid}
use Rattle.alert_book.specs.declared.fault.RowFault.{RowFault}
use Rattle.alert_book.specs.declared.fault.RowFault.TheVariants as fault
use Rattle.alert_book.specs.declared.book.order.Action.{Action}
use Rattle.alert_book.specs.declared.book.order.Action.TheVariants as action
use Rattle.alert_book.specs.declared.book.order.Order.{Order}
use Rattle.alert_book.specs.declared.book.row.Row.{Row}
use Rattle.alert_book.specs.declared.book.row.Verb.{Verb}
use Rattle.alert_book.specs.declared.book.row.Verb.TheVariants as verbs
use Rattle.alert_book.specs.Book.{after_row, rows_read, rows_read_by, rows_with, with_row, HavePages}
use Rattle.alert_book.specs.Book.{Contents, Rows}
use Rattle.alert_book.specs.Cells.{all_of, cells_judged, cells_listed, cells_of_field, is_among}
use Rattle.alert_book.specs.Fields.{are_texts, column, if_right}
use Rattle.alert_book.specs.Network.{cells_in_group, cells_of_group, declares_cell, groups_of, has_cells, row_in_group}
use Rattle.alert_book.specs.Network.{IsGroupBook, IsNetwork}
use Rattle.alert_book.specs.Laws.{HaveSamePages}
use Rattle.alert_book.specs.NetworkLaws.{BooksAreNetworks}
use Rattle.alert_book.specs.Row.{cell_row_within, row_after_verb_by, row_of, verb_of}
use Rattle.alert_book.proofs.BookLaws.{row_fits}
use Rattle.alert_book.proofs.FewRows.{cells_are_few, few_more, few_orders_of, no_rows_few, valid_with, IsFew}
use Rattle.alert_book.proofs.GroupLaws.{filter_group, take_full}
use Rattle.alert_book.proofs.KeptLaws.{rows_same}
use Rattle.alert_book.proofs.OneAnswer.{one_meaning}
use Rattle.alert_book.proofs.OneBook.{all_pages_one}
use Rattle.alert_book.proofs.RightOrders.{orders_are_right, IsRightAction}

-- few cells are all in the first group
pub whole : (cells : List Cell) → length cells ≤ 64 → cells_of_group 0 cells ≡ cells
whole cells few = take_full 64 cells few

few_cells : (cells : List Cell) → cells_are_valid cells ≡ true → length cells ≤ 64
few_cells cells valid = leb-true (length cells) 64 (and_parts (nat_le (length cells) 64) (are_distinct cells) valid).0

filter_all : {X : Type 0} (p : X → Bool) (xs : List X) → list_all p xs ≡ true → filter p xs ≡ xs
filter_all {X} p [] all = refl
filter_all {X} p (x ∷ xs) all =
    let parts = and_parts (p x) (list_all p xs) all in rw (parts.0, filter_all p xs parts.1) refl

-- so what a field of cells comes to is the same
all_whole : (cells : List Cell) → cells_are_valid cells ≡ true →
    if_right (all_of cells) (λ all. Ok (filter (is_among (cells_of_group 0 cells)) all)) ≡ all_of cells
all_whole [] valid = refl
all_whole (c ∷ cs) valid =
    let parts = and_parts (nat_le (length (c ∷ cs)) 64) (are_distinct (c ∷ cs)) valid in
    ap (λ (all : List Cell). Ok all) (filter_group 0 (c ∷ cs) parts.1 ∙ whole (c ∷ cs) (few_cells (c ∷ cs) valid))

judged_whole : (cells : List Cell) (listed : Option (List Cell)) → cells_are_valid cells ≡ true →
    if_right (cells_judged cells listed) (λ all. Ok (filter (is_among (cells_of_group 0 cells)) all))
    ≡ cells_judged cells listed
judged_whole cells None valid = refl
judged_whole cells (Some listed) valid = elim (cases_Bool (list_all (is_among cells) listed)) [
  | inr other ↦ rw other refl
  | inl all ↦ elim (cases_Bool (are_distinct listed)) [
    | inr twice ↦ rw (all, twice) refl
    | inl distinct ↦ rw (all, distinct, whole cells (few_cells cells valid), filter_all (is_among cells) listed all)
        refl
  ]
]

field_whole : (cells : List Cell) → cells_are_valid cells ≡ true → (field : List ℕ) →
    cells_in_group 0 cells field ≡ cells_of_field cells field
field_whole cells valid field = elim (cases_Bool (bytes_eq field (codes "*"))) [
  | inl all ↦ rw all (all_whole cells valid)
  | inr some ↦ rw some (judged_whole cells (cells_listed field) valid)
]

-- a row of a book that is right means the same in the network's group
cell_within : (cells : List Cell) (fields : List (List ℕ)) (meant : Row) → cell_row_within 64 cells fields ≡ Ok meant →
    cell_row_within 65536 cells fields ≡ Ok meant
cell_within cells fields meant is = elim (cases_Bool (nat_le 64 (length cells))) [
  | inl many ↦ absurd (cc (rw many at is))
  | inr few ↦ elim (cases_Bool (nat_le 65536 (length cells))) [
    | inl more ↦ absurd (omega (arith, leb-false 64 (length cells) few, leb-true 65536 (length cells) more))
    | inr fits ↦ rw fits (rw few at is)
  ]
]

columns_within : (test : Bool) (a b : Result Row RowFault) (meant : Row) → (a ≡ Ok meant → b ≡ Ok meant) →
    cond test a (Err fault.Columns) ≡ Ok meant → cond test b (Err fault.Columns) ≡ Ok meant
columns_within true a b meant so is = so is
columns_within false a b meant so is = is

verb_within : (verb : Option Verb) (row : ℕ) (cells : List Cell) (orders : List Order) (fields : List (List ℕ))
    (meant : Row) → cells_are_valid cells ≡ true →
    row_after_verb_by verb (cell_row_within 64 cells fields) row (cells_of_field cells) orders fields ≡ Ok meant →
    row_after_verb_by verb (cell_row_within 65536 cells fields) row (cells_in_group 0 cells) orders fields ≡ Ok meant
verb_within None row cells orders fields meant valid is = absurd (cc is)
verb_within (Some verbs.Cell) row cells orders fields meant valid is =
    columns_within (eqb (length fields) 3) (cell_row_within 64 cells fields) (cell_row_within 65536 cells fields) meant
    (cell_within cells fields meant) is
verb_within (Some verbs.Write) row cells orders fields meant valid is =
    rows_same (Some verbs.Write) (cell_row_within 65536 cells fields) row (cells_in_group 0 cells)
    (cells_of_field cells) orders fields (field_whole cells valid) ∙ is
verb_within (Some verbs.Update) row cells orders fields meant valid is =
    rows_same (Some verbs.Update) (cell_row_within 65536 cells fields) row (cells_in_group 0 cells)
    (cells_of_field cells) orders fields (field_whole cells valid) ∙ is
verb_within (Some verbs.Stop) row cells orders fields meant valid is =
    rows_same (Some verbs.Stop) (cell_row_within 65536 cells fields) row (cells_in_group 0 cells)
    (cells_of_field cells) orders fields (field_whole cells valid) ∙ is

with_false : (b : Bool) → (b && false) ≡ false
with_false true = refl
with_false false = refl

not_full : (fields : List (List ℕ)) (orders : List Order) → length orders < 4096 →
    (not (declares_cell fields) && nat_le 4096 (length orders)) ≡ false
not_full fields orders few = elim (cases_Bool (nat_le 4096 (length orders))) [
  | inl many ↦ absurd (omega (arith, few, leb-true 4096 (length orders) many))
  | inr room ↦ rw room (with_false (not (declares_cell fields)))
]

row_within : (row : ℕ) (cells : List Cell) (orders : List Order) (fields : List (List ℕ)) (meant : Row) →
    cells_are_valid cells ≡ true → length orders < row → row_of row cells orders fields ≡ Ok meant →
    row_in_group 0 row cells orders fields ≡ Ok meant
row_within row cells orders fields meant valid few is =
    let fits = row_fits row cells orders fields meant is in
    elim (cases_Bool (nat_lt 4096 row)) [
      | inl over ↦ absurd (cc (rw over at is))
      | inr within ↦
          let room = not_full fields orders (omega (arith, few, fits)) in
          rw room (by_texts (not (are_texts fields)) (rw within at is))
    ]
  where
    by_texts : (others : Bool) → cond others (Err fault.Columns) (row_after_verb_by (verb_of (column fields 0))
        (cell_row_within 64 cells fields) row (cells_of_field cells) orders fields) ≡ Ok meant →
        cond others (Err fault.Columns) (row_after_verb_by (verb_of (column fields 0))
        (cell_row_within 65536 cells fields) row (cells_in_group 0 cells) orders fields) ≡ Ok meant
    by_texts true so = absurd (cc so)
    by_texts false so = verb_within (verb_of (column fields 0)) row cells orders fields meant valid so

rows_within : (records : List (List (List ℕ))) (row : ℕ) (before result : Rows) → IsFew row before →
    cells_are_valid before.cells ≡ true → rows_read row before records ≡ Ok result →
    rows_read_by (row_in_group 0) row before records ≡ Ok result
rows_within [] row before result few valid so = so
rows_within (fields ∷ more) row before result few valid so =
    elim (row_of row before.cells before.orders fields)
    as (λ r. row_of row before.cells before.orders fields ≡ r
    → after_row row before r (λ next. rows_read (row + 1) next more) ≡ Ok result
    → after_row row before (row_in_group 0 row before.cells before.orders fields)
    (λ next. rows_read_by (row_in_group 0) (row + 1) next more) ≡ Ok result) [
      | Ok meant ↦ λ is e.
          rw (row_within row before.cells before.orders fields meant valid (few_orders_of row before few) is)
          (rows_within more (row + 1) (with_row before meant) result (few_more row before fields meant few is)
          (valid_with before meant row fields valid is) e)
      | Err kind ↦ λ is e. absurd (cc e)
    ] refl so

-- each order of a book is for some cells
right_has : (order : Order) (sends : Action) → order.action ≡ sends → IsRightAction sends → has_cells order ≡ true
right_has order (action.Write sending) is right = rw (is, right.cells.some) refl
right_has order (action.Update version sending) is right = rw (is, right.cells.some) refl
right_has order (action.Stop cells) is right = rw (is, right.some) refl

all_have : (orders : List Order) → All (λ (o : Order). IsRightAction o.action) orders → filter has_cells orders ≡ orders
all_have [] right = refl
all_have (order ∷ orders) right =
    rw (
      right_has order order.action refl (All-head (λ (o : Order). IsRightAction o.action) order orders right),
      all_have orders (All-tail (λ (o : Order). IsRightAction o.action) order orders right),
    ) refl

one_group : (n : ℕ) → n ≤ 64 → groups_of n ≡ 1
one_group n few = omega (arith, few)

-- a book is a network book of one group, whose book it is
pub books_are_networks : BooksAreNetworks
books_are_networks input book is =
    let few = few_cells book.cells (cells_are_few input book is) in
    let own : Rows = rows_with book.cells book.orders in
    let meant = rows_within is.rows.records 1 (rows_with [] []) own no_rows_few refl is.rows.meant in
    let network : IsNetwork 0 input own = record {
      bounded = omega (arith, is.bounded);
      meant = record { records = is.rows.records; read = is.rows.read; meant = meant };
      pages = book.pages;
      paged = is.paged;
    } in (
      record {
        rows = own;
        network = network;
        there = omega (arith, one_group (length book.cells) few);
        cells = sym (whole book.cells few);
        orders = sym (all_have book.orders (orders_are_right input book is));
        paged = is.paged;
      },
      record { rows = own; network = network; count = sym (one_group (length book.cells) few) },
    )

-- a group has one book
pub group_books_are_one : (group : ℕ) (input : List ℕ) (book other : Contents) → IsGroupBook group input book →
    IsGroupBook group input other → (book.cells ≡ other.cells) × (book.orders ≡ other.orders)
    × AllZip HaveSamePages book.pages other.pages
group_books_are_one group input book other one two =
    let rows = one_meaning (row_in_group group) input one.rows two.rows one.network.meant two.network.meant in
    let orders : book.orders ≡ other.orders =
    one.orders ∙ ap (λ (r : Rows). filter has_cells r.orders) rows ∙ sym two.orders in (
      one.cells ∙ ap (λ (r : Rows). cells_of_group group r.cells) rows ∙ sym two.cells,
      orders,
      all_pages_one other.orders book.pages other.pages
          (subst (λ (o : List Order). HavePages o book.pages) orders one.paged) two.paged,
    )
