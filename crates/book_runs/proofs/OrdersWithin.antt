-- The cells of a book's orders are the book's.
use Rattle.std.proofs.Common.{◌≡◌, ℕ, ◌+◌, ◌*◌, Bool, true, not, ◌&&◌, ◌||◌, nat_le, nat_lt, Result, Ok}
use Rattle.std.proofs.Common.{List, [], ◌∷◌, ◌++◌, filter, length, refl, sym, subst, ◌∙◌, inl, inr}
use Rattle.std.specs.List.{All, list_all}
use Rattle.std.proofs.lemmas.Bool.{and_from, and_parts, cases_Bool, ltb-false, ltb-true}
use Rattle.std.proofs.lemmas.List.Elements.{All-filter, All-nil, All-weaker}
use Rattle.std.proofs.lemmas.List.Folds.{list_any-append}
use Rattle.cbsp_wire.specs.declared.message.Cell.{Cell}
use Rattle.cbsp_wire.specs.Range.{is_cell}
use Rattle.alert_book.specs.declared.fault.RowFault.{RowFault}
use Rattle.alert_book.specs.declared.fault.RowFault.TheVariants as fault
use Rattle.alert_book.specs.declared.book.order.Action.{Action}
use Rattle.alert_book.specs.declared.book.order.Action.TheVariants as action
use Rattle.alert_book.specs.declared.book.order.Order.{Order}
use Rattle.alert_book.specs.declared.book.row.Row.{Row}
use Rattle.alert_book.specs.declared.book.row.Row.TheVariants as rows
use Rattle.alert_book.specs.declared.network.Origin.{Origin}
use Rattle.alert_book.specs.declared.network.Origin.TheVariants as origin
use Rattle.alert_book.specs.Book.{Contents, Rows, rows_with, with_row}
use Rattle.alert_book.specs.Cells.{cells_of_field, is_among}
use Rattle.alert_book.specs.Fields.{are_texts, column}
use Rattle.alert_book.specs.Network.{IsGroupBook, cells_in_group, cells_of_action, cells_of_group, declares_cell}
use Rattle.alert_book.specs.Network.{has_cells}
use Rattle.alert_book.specs.Network.{row_in_group}
use Rattle.alert_book.specs.NetworkLaws.{BooksAreNetworks}
use Rattle.alert_book.specs.Origin.{IsBookFrom}
use Rattle.alert_book.specs.Row.{verb_of}
use Rattle.alert_book.proofs.FewRows.{rows_keep}
use Rattle.alert_book.proofs.GroupLaws.{part_after, part_before, part_within}
use Rattle.alert_book.proofs.RightOrders.{IsRightActionBy, IsRightRow, either_right, fault_right, orders_with_row}
use Rattle.alert_book.proofs.RightOrders.{cells_column, right_gives, verb_right}

all_kept : {X : Type 0} (p : X → Bool) (xs : List X) → list_all p (filter p xs) ≡ true
all_kept p [] = refl
all_kept p (x ∷ xs) = elim (cases_Bool (p x)) [
  | inl here ↦ rw here (and_from (p x) (list_all p (filter p xs)) here (all_kept p xs))
  | inr other ↦ rw other (all_kept p xs)
]

-- things that all pass a test pass each weaker one
pub all_also : {X : Type 0} (p q : X → Bool) → ((x : X) → p x ≡ true → q x ≡ true) → (xs : List X)
    → list_all p xs ≡ true → list_all q xs ≡ true
all_also p q so [] all = refl
all_also p q so (x ∷ xs) all =
    let parts = and_parts (p x) (list_all p xs) all in
    and_from (q x) (list_all q xs) (so x parts.0) (all_also p q so xs parts.1)

-- cells that are all among some
abbrev pub Within : List Cell → List Cell → Type 0
Within own cells = list_all (is_among own) cells ≡ true

-- a cell more leaves those of a group among them
or_first : (a b : Bool) → a ≡ true → (a || b) ≡ true
or_first a b one = rw one refl

longer : (own : List Cell) (cell more : Cell) → is_among own cell ≡ true → is_among (own ++ more ∷ []) cell ≡ true
longer own cell more among =
    list_any-append (λ c. is_cell c cell) own (more ∷ [])
    ∙ or_first (is_among own cell) (is_among (more ∷ []) cell) among

group_grows : (group : ℕ) (cells : List Cell) (cell more : Cell) → is_among (cells_of_group group cells) cell ≡ true
    → is_among (cells_of_group group (cells ++ more ∷ [])) cell ≡ true
group_grows group cells cell more among = elim (cases_Bool (nat_lt (length cells) (64 * group))) [
  | inl few ↦ subst (λ (own : List Cell). is_among own cell ≡ true)
      (sym (part_before (64 * group) 64 cells more (ltb-true (length cells) (64 * group) few))) among
  | inr past ↦ elim (cases_Bool (nat_lt (length cells) (64 * group + 64))) [
    | inl within ↦ subst (λ (own : List Cell). is_among own cell ≡ true)
        (sym (part_within (64 * group) 64 cells more (ltb-false (length cells) (64 * group) past)
        (ltb-true (length cells) (64 * group + 64) within)))
        (longer (cells_of_group group cells) cell more among)
    | inr after ↦ subst (λ (own : List Cell). is_among own cell ≡ true)
        (sym (part_after (64 * group) 64 cells more (ltb-false (length cells) (64 * group + 64) after))) among
  ]
]

action_grows : (own more : List Cell) → ((cell : Cell) → is_among own cell ≡ true → is_among more cell ≡ true)
    → (a : Action) → IsRightActionBy (Within own) a → IsRightActionBy (Within more) a
action_grows own more so (action.Write s) right = record {
  category = right.category;
  period = right.period;
  cells = all_also (is_among own) (is_among more) so s.cells right.cells;
}
action_grows own more so (action.Update update s) right = record {
  category = right.category;
  period = right.period;
  cells = all_also (is_among own) (is_among more) so s.cells right.cells;
}
action_grows own more so (action.Stop cells) right = all_also (is_among own) (is_among more) so cells right

same_cells : (r : Result (List Cell) RowFault) (a b : List Cell) → r ≡ Ok a → r ≡ Ok b → a ≡ b
same_cells r a b one other = cc

field_within : (group : ℕ) (declared : List Cell) (field : List ℕ) (cells : List Cell)
    → cells_in_group group declared field ≡ Ok cells → Within (cells_of_group group declared) cells
field_within group declared field =
    right_gives (Within (cells_of_group group declared)) (cells_of_field declared field) _ (λ listed comes cells is.
    subst (Within (cells_of_group group declared))
    (same_cells (Ok (filter (is_among (cells_of_group group declared)) listed))
    (filter (is_among (cells_of_group group declared)) listed) cells refl is)
    (all_kept (is_among (cells_of_group group declared)) listed))

row_within : (group row : ℕ) (declared : List Cell) (orders : List Order) (fields : List (List ℕ)) → (meant : Row)
    → row_in_group group row declared orders fields ≡ Ok meant
    → IsRightRow (Within (cells_of_group group declared)) meant
row_within group row declared orders fields =
    let Good : List Cell → Type 0 = Within (cells_of_group group declared) in
    either_right Good (not (declares_cell fields) && nat_le 4096 (length orders)) _ _
    (fault_right Good fault.TooManyRows)
    (either_right Good (not (are_texts fields)) _ _ (fault_right Good fault.Columns)
    (verb_right Good (verb_of (column fields 0)) 65536 row declared (cells_in_group group declared) orders fields
    (field_within group declared (column fields (cells_column (verb_of (column fields 0)))))))

-- the orders of rows are for cells of the group
abbrev AreWithinRows : ℕ → Rows → Type 0
AreWithinRows group rows =
    All (λ (o : Order). IsRightActionBy (Within (cells_of_group group rows.cells)) o.action) rows.orders

within_more : (group row : ℕ) (before : Rows) (fields : List (List ℕ)) (meant : Row) → AreWithinRows group before
    → row_in_group group row before.cells before.orders fields ≡ Ok meant
    → AreWithinRows group (with_row before meant)
within_more group row before fields (rows.Declare cell) within is =
    All-weaker (λ (o : Order). IsRightActionBy (Within (cells_of_group group before.cells)) o.action)
    (λ (o : Order). IsRightActionBy (Within (cells_of_group group (before.cells ++ cell ∷ []))) o.action)
    (λ o right. action_grows (cells_of_group group before.cells) (cells_of_group group (before.cells ++ cell ∷ []))
    (λ c among. group_grows group before.cells c cell among) o.action right) before.orders within
within_more group row before fields (rows.Give order) within is =
    orders_with_row (Within (cells_of_group group before.cells)) before (rows.Give order) within
    (row_within group row before.cells before.orders fields (rows.Give order) is)

-- so are those of its book
cells_within : (own : List Cell) (a : Action) → IsRightActionBy (Within own) a → Within own (cells_of_action a)
cells_within own (action.Write s) right = right.cells
cells_within own (action.Update update s) right = right.cells
cells_within own (action.Stop cells) right = right

-- an order is for some of these cells alone
abbrev pub IsWithin : List Cell → Order → Type 0
IsWithin own o = Within own (cells_of_action o.action)

group_within : (group : ℕ) (input : List ℕ) (book : Contents) → IsGroupBook group input book
    → All (IsWithin book.cells) book.orders
group_within group input book is =
    let all : AreWithinRows group is.rows =
    (rows_keep (row_in_group group) (λ _ rows. AreWithinRows group rows)
    (λ row before fields meant within so. within_more group row before fields meant within so) 1 (rows_with [] [])
    is.rows is.network.meant.records
    (All-nil (λ (o : Order). IsRightActionBy (Within (cells_of_group group [])) o.action)) is.network.meant.meant).1 in
    let orders : All (IsWithin (cells_of_group group is.rows.cells)) (filter has_cells is.rows.orders) =
    All-filter has_cells (IsWithin (cells_of_group group is.rows.cells)) is.rows.orders
    (All-weaker (λ (o : Order). IsRightActionBy (Within (cells_of_group group is.rows.cells)) o.action)
    (IsWithin (cells_of_group group is.rows.cells))
    (λ o right. cells_within (cells_of_group group is.rows.cells) o.action right) is.rows.orders all) in
    subst (λ (l : List Order). All (IsWithin book.cells) l) (sym is.orders)
    (subst (λ (own : List Cell). All (IsWithin own) (filter has_cells is.rows.orders)) (sym is.cells) orders)

-- the orders of a book are for the book's cells
pub orders_within : BooksAreNetworks → (from : Origin) (input : List ℕ) (book : Contents)
    → IsBookFrom from input book → All (IsWithin book.cells) book.orders
orders_within networks origin.Book input book is = group_within 0 input book (networks input book is).0
orders_within networks (origin.Group group) input book is = group_within group input book is
