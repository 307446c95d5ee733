-- What holds of the orders of a group's book, and of its cells, as of those of a book.
use Rattle.std.proofs.Common.{◌≡◌, ℕ, ◌*◌, ◌≤◌, ◌&&◌, Bool, true, not, nat_le, drop}
use Rattle.std.proofs.Common.{List, [], ◌∷◌, length, filter, Result, Ok, Option, Some, None, refl, subst, sym}
use Rattle.std.proofs.Common.{arith, codes, inl, inr, All, length-append, ap, get_or}
use Rattle.std.specs.List.{list_all, Contains}
use Rattle.std.specs.Str.{bytes_eq}
use Rattle.std.proofs.lemmas.Bool.{and_from, cases_Bool, le-leb, not-true}
use Rattle.std.proofs.lemmas.List.{length-take}
use Rattle.std.proofs.lemmas.List.Elements.{All-contains, All-contains_itself, All-filter, All-nil, filter_passes}
use Rattle.std.proofs.lemmas.List.Filters.{length-filter_both}
use Rattle.cbsp_wire.specs.declared.message.Cell.{Cell}
use Rattle.cbsp_wire.specs.Range.{are_distinct, cells_are_valid, is_nothing}
use Rattle.alert_book.specs.declared.fault.RowFault.{RowFault}
use Rattle.alert_book.specs.declared.fault.RowFault.TheVariants as fault
use Rattle.alert_book.specs.declared.book.order.Action.{Action}
use Rattle.alert_book.specs.declared.book.order.Action.TheVariants as action
use Rattle.alert_book.specs.declared.book.order.Order.{Order}
use Rattle.alert_book.specs.declared.book.row.Row.{Row}
use Rattle.alert_book.specs.declared.book.row.Row.TheVariants as rows
use Rattle.alert_book.specs.declared.network.Origin.{Origin}
use Rattle.alert_book.specs.declared.network.Origin.TheVariants as origin
use Rattle.alert_book.specs.Book.{rows_with, with_row, Contents, Rows}
use Rattle.alert_book.specs.Cells.{all_of, cells_judged, cells_listed, cells_of_field, is_among}
use Rattle.alert_book.specs.Fields.{are_texts, column}
use Rattle.alert_book.specs.Laws.{BooksAreOne, CellsAreValid, OrdersAreFew}
use Rattle.alert_book.specs.Network.{cells_in_group, cells_of_group, declares_cell, has_cells, row_in_group}
use Rattle.alert_book.specs.Network.{IsGroupBook}
use Rattle.alert_book.specs.Origin.{IsBookFrom}
use Rattle.alert_book.specs.Row.{verb_of}
use Rattle.alert_book.proofs.FewRows.{cells_are_few, distinct_push, new_parts, rows_are_few, rows_keep}
use Rattle.alert_book.proofs.GroupLaws.{filter_group}
use Rattle.alert_book.proofs.KeptLaws.{declares_new, gives_few}
use Rattle.alert_book.proofs.NetworkLaws.{group_books_are_one}
use Rattle.alert_book.proofs.OneAlert.{alerts_are_one, either_next, fault_next, none_numbered, verb_next, with_numbered}
use Rattle.alert_book.proofs.OneAlert.{AreNumbered, IsNextRow}
use Rattle.alert_book.proofs.OneBook.{books_are_one}
use Rattle.alert_book.proofs.RightOrders.{distinct_filter, either_right, fault_right, no_more_than, orders_are_right}
use Rattle.alert_book.proofs.RightOrders.{cells_column, orders_with_row, right_gives, verb_right, IsRightAction}
use Rattle.alert_book.proofs.RightOrders.{IsRightActionBy, IsRightRow}

-- cells that may stand in a message, but may be none
abbrev pub AreValid : List Cell → Type 0
AreValid cells = cells_are_valid cells ≡ true

-- the cells of a field are distinct where those declared are
same_cells : (r : Result (List Cell) RowFault) (a b : List Cell) → r ≡ Ok a → r ≡ Ok b → a ≡ b
same_cells r a b one other = cc

distinct_all : (declared cells : List Cell) → are_distinct declared ≡ true → all_of declared ≡ Ok cells →
    are_distinct cells ≡ true
distinct_all [] cells distinct is = absurd (cc is)
distinct_all (c ∷ cs) cells distinct is =
    subst (λ (list : List Cell). are_distinct list ≡ true)
    (same_cells (all_of (c ∷ cs)) (c ∷ cs) cells refl is) distinct

distinct_judged : (declared : List Cell) (named : Option (List Cell)) (cells : List Cell) →
    cells_judged declared named ≡ Ok cells → are_distinct cells ≡ true
distinct_judged declared None cells is = absurd (cc is)
distinct_judged declared (Some listed) cells is = elim (cases_Bool (list_all (is_among declared) listed)) [
  | inr other ↦ absurd (cc (rw other at is))
  | inl all ↦ elim (cases_Bool (are_distinct listed)) [
    | inr other ↦ absurd (cc (rw (all, other) at is))
    | inl distinct ↦ subst (λ (list : List Cell). are_distinct list ≡ true)
        (same_cells (Ok listed) listed cells refl (rw (all, distinct) at is)) distinct
  ]
]

distinct_field : (declared : List Cell) (field : List ℕ) (cells : List Cell) → are_distinct declared ≡ true →
    cells_of_field declared field ≡ Ok cells → are_distinct cells ≡ true
distinct_field declared field cells distinct is = elim (cases_Bool (bytes_eq field (codes "*"))) [
  | inl all ↦ distinct_all declared cells distinct (rw all at is)
  | inr some ↦ distinct_judged declared (cells_listed field) cells (rw some at is)
]

-- a group has at most 64 cells, and so has what is kept of a field for it
group_few : (group : ℕ) (declared : List Cell) → length (cells_of_group group declared) ≤ 64
group_few group declared = let taken = length-take 64 (drop (64 * group) declared) in omega (arith, taken)

all_kept : {X : Type 0} (p : X → Bool) (xs : List X) → list_all p (filter p xs) ≡ true
all_kept p [] = refl
all_kept p (x ∷ xs) = elim (cases_Bool (p x)) [
  | inl is ↦ rw (is, all_kept p xs) (rw is refl)
  | inr other ↦ rw other (all_kept p xs)
]

valid_kept : (group : ℕ) (declared cells : List Cell) → are_distinct cells ≡ true →
    AreValid (filter (is_among (cells_of_group group declared)) cells)
valid_kept group declared cells distinct =
    let own = cells_of_group group declared in
    let kept = filter (is_among own) cells in
    let apart = distinct_filter (is_among own) cells distinct in
    let most = no_more_than own kept (all_kept (is_among own) cells) apart in
    let few = group_few group declared in
    and_from (nat_le (length kept) 64) (are_distinct kept) (le-leb (length kept) 64 (omega (arith, most, few))) apart

field_valid : (group : ℕ) (declared : List Cell) → are_distinct declared ≡ true → (field : List ℕ)
    (cells : List Cell) → cells_in_group group declared field ≡ Ok cells → AreValid cells
field_valid group declared distinct field =
    right_gives AreValid (cells_of_field declared field) _ (λ listed comes cells is.
    subst AreValid
    (same_cells (Ok (filter (is_among (cells_of_group group declared)) listed))
    (filter (is_among (cells_of_group group declared)) listed) cells refl is)
    (valid_kept group declared listed (distinct_field declared field listed distinct comes)))

-- what holds of a network's rows, as a group reads them
row_valid : (group row : ℕ) (declared : List Cell) (orders : List Order) (fields : List (List ℕ)) →
    are_distinct declared ≡ true → (meant : Row) → row_in_group group row declared orders fields ≡ Ok meant →
    IsRightRow AreValid meant
row_valid group row declared orders fields distinct =
    either_right AreValid (not (declares_cell fields) && nat_le 4096 (length orders)) _ _
    (fault_right AreValid fault.TooManyRows)
    (either_right AreValid (not (are_texts fields)) _ _ (fault_right AreValid fault.Columns)
    (verb_right AreValid (verb_of (column fields 0)) 65536 row declared (cells_in_group group declared) orders fields
    (field_valid group declared distinct (column fields (cells_column (verb_of (column fields 0)))))))

row_next : (group row : ℕ) (declared : List Cell) (orders : List Order) (fields : List (List ℕ)) → (meant : Row) →
    row_in_group group row declared orders fields ≡ Ok meant → IsNextRow orders meant
row_next group row declared orders fields =
    either_next orders (not (declares_cell fields) && nat_le 4096 (length orders)) _ _
    (fault_next orders fault.TooManyRows)
    (either_next orders (not (are_texts fields)) _ _ (fault_next orders fault.Columns)
    (verb_next (verb_of (column fields 0)) 65536 row declared (cells_in_group group declared) orders fields))

distinct_with : (group row : ℕ) (before : Rows) (fields : List (List ℕ)) (meant : Row) →
    are_distinct before.cells ≡ true → row_in_group group row before.cells before.orders fields ≡ Ok meant →
    are_distinct (with_row before meant).cells ≡ true
distinct_with group row before fields (rows.Declare cell) distinct is =
    distinct_push before.cells cell distinct
    (new_parts 65536 before.cells cell (declares_new group row before.cells before.orders fields cell is)).1
distinct_with group row before fields (rows.Give order) distinct is = distinct

few_with : (group row : ℕ) (before : Rows) (fields : List (List ℕ)) (meant : Row) →
    length before.orders ≤ 4096 → row_in_group group row before.cells before.orders fields ≡ Ok meant →
    length (with_row before meant).orders ≤ 4096
few_with group row before fields (rows.Declare cell) few is = few
few_with group row before fields (rows.Give order) few is =
    let less = gives_few group row before.cells before.orders fields order is in
    simp length-append (omega (arith, less))

-- the cells are distinct, the orders few, numbered and of valid cells
record AreSound (rows : Rows) : Type 0 where
  distinct : are_distinct rows.cells ≡ true
  few : length rows.orders ≤ 4096
  numbered : AreNumbered rows.orders
  right : All (λ (o : Order). IsRightActionBy AreValid o.action) rows.orders

sound_more : (group row : ℕ) (before : Rows) (fields : List (List ℕ)) (meant : Row) → AreSound before →
    row_in_group group row before.cells before.orders fields ≡ Ok meant → AreSound (with_row before meant)
sound_more group row before fields meant sound is = record {
  distinct = distinct_with group row before fields meant sound.distinct is;
  few = few_with group row before fields meant sound.few is;
  numbered = with_numbered before meant sound.numbered
      (row_next group row before.cells before.orders fields meant is);
  right = orders_with_row AreValid before meant sound.right
      (row_valid group row before.cells before.orders fields sound.distinct meant is);
}

rows_sound : (group : ℕ) (input : List ℕ) (book : Contents) (is : IsGroupBook group input book) → AreSound is.rows
rows_sound group input book is =
    (rows_keep (row_in_group group) (λ _ rows. AreSound rows)
    (λ row before fields meant sound so. sound_more group row before fields meant sound so) 1 (rows_with [] []) is.rows
    is.network.meant.records
    (record {
      distinct = refl;
      few = omega arith;
      numbered = none_numbered;
      right = All-nil (λ (o : Order). IsRightActionBy AreValid o.action);
    }) is.network.meant.meant).1

-- an order of valid cells that is for some is right
right_with_cells : (order : Order) (sends : Action) → order.action ≡ sends → IsRightActionBy AreValid sends →
    has_cells order ≡ true → IsRightAction sends
right_with_cells order (action.Write sending) is right some = record {
  category = right.category;
  period = right.period;
  cells = record { valid = right.cells; some = not-true (is_nothing sending.cells) (rw is at some) };
}
right_with_cells order (action.Update version sending) is right some = record {
  category = right.category;
  period = right.period;
  cells = record { valid = right.cells; some = not-true (is_nothing sending.cells) (rw is at some) };
}
right_with_cells order (action.Stop cells) is right some =
    record { valid = right; some = not-true (is_nothing cells) (rw is at some) }

-- each order of a book, or of a group's, sends or stops what is in range
pub all_orders_are_right : (from : Origin) (input : List ℕ) (book : Contents) → IsBookFrom from input book →
    All (λ order. IsRightAction order.action) book.orders
all_orders_are_right origin.Book input book is = orders_are_right input book is
all_orders_are_right (origin.Group group) input book is =
    subst (λ (orders : List Order). All (λ order. IsRightAction order.action) orders) (sym is.orders)
    (λ k d within. right_with_cells (get_or (filter has_cells is.rows.orders) k d)
    (get_or (filter has_cells is.rows.orders) k d).action refl
    (All-filter has_cells (λ (o : Order). IsRightActionBy AreValid o.action) is.rows.orders sound.right k d within)
    (filter_passes has_cells is.rows.orders k d within))
  where
    sound : AreSound is.rows
    sound = rows_sound group input book is

-- orders of one number are of one alert
pub all_alerts_are_one : (from : Origin) (input : List ℕ) (book : Contents) → IsBookFrom from input book →
    (a b : Order) → Contains book.orders a → Contains book.orders b → a.number ≡ b.number → a.alert ≡ b.alert
all_alerts_are_one origin.Book input book is a b this that = alerts_are_one input book is a b this that
all_alerts_are_one (origin.Group group) input book is a b this that =
    (rows_sound group input book is).numbered.one a b (there a this) (there b that)
  where
    there : (o : Order) → Contains book.orders o → Contains is.rows.orders o
    there o has =
        All-contains (Contains is.rows.orders) (filter has_cells is.rows.orders) o
        (All-filter has_cells (Contains is.rows.orders) is.rows.orders (All-contains_itself is.rows.orders))
        (subst (λ (orders : List Order). Contains orders o) is.orders has)

-- the cells of a book, or of a group's, are at most 64, none twice
pub all_cells_are_valid : CellsAreValid
all_cells_are_valid origin.Book input book is = cells_are_few input book is
all_cells_are_valid (origin.Group group) input book is =
    subst (λ (cells : List Cell). cells_are_valid cells ≡ true) (sym is.cells)
    (subst (λ (cells : List Cell). cells_are_valid cells ≡ true)
    (filter_group group is.rows.cells (rows_sound group input book is).distinct)
    (valid_kept group is.rows.cells is.rows.cells (rows_sound group input book is).distinct))

-- and its orders at most 4,096
pub all_orders_are_few : OrdersAreFew
all_orders_are_few origin.Book input book is = let few = rows_are_few input book is in omega (arith, few)
all_orders_are_few (origin.Group group) input book is =
    let few = (rows_sound group input book is).few in
    let both = length-filter_both has_cells (λ o. not (has_cells o)) (λ o. refl) is.rows.orders in
    let same : length book.orders ≡ length (filter has_cells is.rows.orders) =
    ap (λ (orders : List Order). length orders) is.orders in
    omega (arith, few, both, same)

-- octets are one book, and a group has one
pub all_books_are_one : BooksAreOne
all_books_are_one origin.Book input book other one two = books_are_one input book other one two
all_books_are_one (origin.Group group) input book other one two = group_books_are_one group input book other one two
