-- Orders of one number are of one alert.
use Rattle.std.proofs.Common.{◌≡◌, ◌⊎◌, ℕ, suc, ◌+◌, ◌<◌, Bool, true, false, cond, not, nat_le, nat_lt, eqb, Option}
use Rattle.std.proofs.Common.{Some, None, List, [], ◌∷◌, ◌++◌, length, Result, Ok, Err, refl, sym, ap, subst, ◌∙◌}
use Rattle.std.proofs.Common.{inl, inr, arith, All, count_by}
use Rattle.std.specs.List.{Contains, find}
use Rattle.std.specs.Option.{ok_or}
use Rattle.std.proofs.lemmas.List.Elements.{All-contains, All-nil, All-push, All-weaker, Contains-push_cases}
use Rattle.std.proofs.lemmas.List.Sums.{sum_by_push}
use Rattle.cbsp_wire.specs.declared.message.Cell.{Cell}
use Rattle.alert_book.specs.declared.fault.RowFault.{RowFault}
use Rattle.alert_book.specs.declared.fault.RowFault.TheVariants as fault
use Rattle.alert_book.specs.declared.book.order.Action.TheVariants as action
use Rattle.alert_book.specs.declared.book.order.Order.{Order}
use Rattle.alert_book.specs.declared.book.row.Row.{Row}
use Rattle.alert_book.specs.declared.book.row.Row.TheVariants as rows
use Rattle.alert_book.specs.declared.book.row.Verb.{Verb}
use Rattle.alert_book.specs.declared.book.row.Verb.TheVariants as verbs
use Rattle.alert_book.specs.Book.{rows_with, with_row, Contents, IsBook, Rows}
use Rattle.alert_book.specs.Cells.{cell_with, cells_of_field, is_among}
use Rattle.alert_book.specs.Fields.{alert_at, are_texts, column, first_order, is_named, known_name, new_name}
use Rattle.alert_book.specs.Fields.{number, sending_by}
use Rattle.alert_book.specs.Row.{cell_row_within, is_update_of, is_write, new_cell, order_with, row_after_verb_by}
use Rattle.alert_book.specs.Row.{row_of, verb_of, FieldCells}
use Rattle.alert_book.proofs.FewRows.{rows_keep}
use Rattle.alert_book.proofs.RightOrders.{right_gives}

-- an order after some others that is the first of its alert, of the next number
pub record IsFirst (orders : List Order) (order : Order) : Type 0 where
  pub number : order.number ≡ count_by is_write orders
  pub writes : is_write order ≡ true

-- one more of the alert of an earlier one
pub record IsLater (orders : List Order) (order : Order) : Type 0 where
  pub first : Order
  pub there : Contains orders first
  pub number : order.number ≡ first.number
  pub alert : order.alert ≡ first.alert
  pub other : is_write order ≡ false

-- an order after some others is one of the two
abbrev pub IsNext : List Order → Order → Type 0
IsNext orders order = IsFirst orders order ⊎ IsLater orders order

-- a row after some orders, if it gives one more
abbrev pub IsNextRow : List Order → Row → Type 0
IsNextRow orders (rows.Declare cell) = Unit {0}
IsNextRow orders (rows.Give order) = IsNext orders order

same_row : (r : Result Row RowFault) (a b : Row) → r ≡ Ok a → r ≡ Ok b → a ≡ b
same_row r a b one other = cc

given_next : (orders : List Order) (order : Order) (r : Result Row RowFault) → IsNext orders order
    → r ≡ Ok (rows.Give order) → (meant : Row) → r ≡ Ok meant → IsNextRow orders meant
given_next orders order r next is meant same =
    subst (IsNextRow orders) (same_row r (rows.Give order) meant is same) next

-- a fault gives none
pub fault_next : (orders : List Order) (kind : RowFault) (meant : Row) → Err kind ≡ Ok meant → IsNextRow orders meant
fault_next orders kind meant is = absurd (cc is)

-- what gives such an order either way gives one
pub either_next : (orders : List Order) (test : Bool) (a b : Result Row RowFault)
    → ((meant : Row) → a ≡ Ok meant → IsNextRow orders meant) → ((meant : Row) → b ≡ Ok meant → IsNextRow orders meant)
    → (meant : Row) → cond test a b ≡ Ok meant → IsNextRow orders meant
either_next orders true a b first second = first
either_next orders false a b first second = second

declared_next : (orders : List Order) (declared : List Cell) (cell : Cell) (meant : Row)
    → new_cell declared cell ≡ Ok meant → IsNextRow orders meant
declared_next orders declared cell =
    either_next orders (is_among declared cell) _ _ (fault_next orders fault.TwiceNamed)
    (λ meant is. subst (IsNextRow orders) (same_row (Ok (rows.Declare cell)) (rows.Declare cell) meant refl is) tt)

-- the first order of a name is one of the orders
found_there : {X : Type 0} (test : X → Bool) (xs : List X) (x : X) → find test xs ≡ Some x → Contains xs x
found_there test [] x is = absurd (cc is)
found_there {X = X} test (y ∷ xs) x is = by_test (test y) (found_there test xs x) is
  where
    same : Some y ≡ Some x → y ≡ x
    same found = cc

    later : Contains xs x → Contains (y ∷ xs) x
    later there = (suc there.0, omega (arith, there.1), there.2)

    by_test : (here : Bool) → (find test xs ≡ Some x → Contains xs x) → cond here (Some y) (find test xs) ≡ Some x
        → Contains (y ∷ xs) x
    by_test true rest found = (0, omega arith, same found)
    by_test false rest found = later (rest found)

same_known : (r : Result Order RowFault) (a b : Order) → r ≡ Ok a → r ≡ Ok b → a ≡ b
same_known r a b one other = cc

known_there : (orders : List Order) (name : List ℕ) (first : Order) → known_name orders name ≡ Ok first
    → Contains orders first
known_there orders name first is = by_found (first_order orders name) refl is
  where
    by_found : (found : Option Order) → first_order orders name ≡ found → ok_or found fault.UnknownName ≡ Ok first
        → Contains orders first
    by_found None none told = absurd (cc told)
    by_found (Some order) some told =
        found_there (is_named name) orders first
        (some ∙ ap (λ (o : Order). Some o) (same_known (Ok order) order first refl told))

-- an order that a row gives comes next, whichever cells it is for
pub verb_next : (verb : Option Verb) (most row : ℕ) (declared : List Cell) (cells_of : FieldCells)
    (orders : List Order) (fields : List (List ℕ))
    → (meant : Row)
    → row_after_verb_by verb (cell_row_within most declared fields) row cells_of orders fields ≡ Ok meant
    → IsNextRow orders meant
verb_next None most row declared cells_of orders fields = fault_next orders fault.Verb
verb_next (Some verbs.Cell) most row declared cells_of orders fields =
    either_next orders (eqb (length fields) 3) _ _
    (either_next orders (nat_le most (length declared)) _ _ (fault_next orders fault.TooManyRows)
    (right_gives (IsNextRow orders) (number 0 65535 (column fields 1)) _ (λ lac is.
    right_gives (IsNextRow orders) (number 0 65535 (column fields 2)) _ (λ ci same.
    declared_next orders declared (cell_with lac ci)))))
    (fault_next orders fault.Columns)
verb_next (Some verbs.Write) most row declared cells_of orders fields =
    either_next orders (eqb (length fields) 12) _ _
    (right_gives (IsNextRow orders) (number 0 65535 (column fields 1)) _ (λ at is.
    right_gives (IsNextRow orders) (new_name orders (column fields 2)) _ (λ name named.
    right_gives (IsNextRow orders) (alert_at fields 3) _ (λ alert known.
    right_gives (IsNextRow orders) (sending_by cells_of fields 6) _ (λ sending sent.
    given_next orders (order_with row at name (count_by is_write orders) alert (action.Write sending)) _
    (inl (record { number = refl; writes = refl })) refl)))))
    (fault_next orders fault.Columns)
verb_next (Some verbs.Update) most row declared cells_of orders fields =
    either_next orders (eqb (length fields) 9) _ _
    (right_gives (IsNextRow orders) (number 0 65535 (column fields 1)) _ (λ at is.
    right_gives (IsNextRow orders) (known_name orders (column fields 2)) _ (λ first named.
    right_gives (IsNextRow orders) (sending_by cells_of fields 3) _ (λ sending sent.
    either_next orders (nat_le 15 (count_by (is_update_of (column fields 2)) orders)) _ _
    (fault_next orders fault.TooManyUpdates)
    (given_next orders (order_with row at (column fields 2) first.number first.alert
    (action.Update (count_by (is_update_of (column fields 2)) orders + 1) sending)) _
    (inr (record {
      first = first;
      there = known_there orders (column fields 2) first named;
      number = refl;
      alert = refl;
      other = refl;
    })) refl)))))
    (fault_next orders fault.Columns)
verb_next (Some verbs.Stop) most row declared cells_of orders fields =
    either_next orders (eqb (length fields) 4) _ _
    (right_gives (IsNextRow orders) (number 0 65535 (column fields 1)) _ (λ at is.
    right_gives (IsNextRow orders) (known_name orders (column fields 2)) _ (λ first named.
    right_gives (IsNextRow orders) (cells_of (column fields 3)) _ (λ cells listed.
    given_next orders (order_with row at (column fields 2) first.number first.alert (action.Stop cells)) _
    (inr (record {
      first = first;
      there = known_there orders (column fields 2) first named;
      number = refl;
      alert = refl;
      other = refl;
    })) refl))))
    (fault_next orders fault.Columns)

row_next : (row : ℕ) (declared : List Cell) (orders : List Order) (fields : List (List ℕ))
    → (meant : Row) → row_of row declared orders fields ≡ Ok meant → IsNextRow orders meant
row_next row declared orders fields =
    either_next orders (nat_lt 4096 row) _ _ (fault_next orders fault.TooManyRows)
    (either_next orders (not (are_texts fields)) _ _ (fault_next orders fault.Columns)
    (verb_next (verb_of (column fields 0)) 64 row declared (cells_of_field declared) orders fields))

-- orders of one number are of one alert, and each number is below that of the next alert
pub record AreNumbered (orders : List Order) : Type 0 where
  pub one : (a b : Order) → Contains orders a → Contains orders b → a.number ≡ b.number → a.alert ≡ b.alert
  pub below : All (λ order. order.number < count_by is_write orders) orders

-- one more order
write_count : (orders : List Order) (order : Order) → count_by is_write (orders ++ order ∷ [])
    ≡ count_by is_write orders + cond (is_write order) 1 0
write_count orders order = sum_by_push (λ (o : Order). cond (is_write o) 1 0) orders order

first_numbered : (orders : List Order) (order : Order) → AreNumbered orders → IsFirst orders order
    → AreNumbered (orders ++ order ∷ [])
first_numbered orders order numbered next = record { one = λ a b. one a b; below = below }
  where
    more : count_by is_write (orders ++ order ∷ []) ≡ count_by is_write orders + 1
    more = write_count orders order ∙ ap (λ b. count_by is_write orders + cond b 1 0) next.writes

    apart : (a : Order) → Contains orders a → a.number ≡ order.number → ⊥
    apart a there same =
        let less = All-contains (λ (o : Order). o.number < count_by is_write orders) orders a numbered.below there in
        omega (arith, less, same, next.number)

    one : (a b : Order) → Contains (orders ++ order ∷ []) a → Contains (orders ++ order ∷ []) b
        → a.number ≡ b.number → a.alert ≡ b.alert
    one a b this that same = elim (Contains-push_cases orders order a this) [
      | inl earlier ↦ elim (Contains-push_cases orders order b that) [
        | inl also ↦ numbered.one a b earlier also same
        | inr last ↦ absurd (apart a earlier (same ∙ ap (λ (o : Order). o.number) (sym last)))
      ]
      | inr last ↦ elim (Contains-push_cases orders order b that) [
        | inl also ↦ absurd (apart b also (sym same ∙ ap (λ (o : Order). o.number) (sym last)))
        | inr again ↦ ap (λ (o : Order). o.alert) (sym last ∙ again)
      ]
    ]

    below : All (λ o. o.number < count_by is_write (orders ++ order ∷ [])) (orders ++ order ∷ [])
    below = All-push (λ (o : Order). o.number < count_by is_write (orders ++ order ∷ [])) orders order
        (All-weaker (λ (o : Order). o.number < count_by is_write orders)
        (λ (o : Order). o.number < count_by is_write (orders ++ order ∷ [])) (λ o less. omega (arith, less, more))
        orders numbered.below) (omega (arith, more, next.number))

later_numbered : (orders : List Order) (order : Order) → AreNumbered orders → IsLater orders order
    → AreNumbered (orders ++ order ∷ [])
later_numbered orders order numbered next = record { one = λ a b. one a b; below = below }
  where
    same_count : count_by is_write (orders ++ order ∷ []) ≡ count_by is_write orders
    same_count =
        let more = write_count orders order
        ∙ ap (λ b. count_by is_write orders + cond b 1 0) next.other in
        omega (arith, more)

    first_below : next.first.number < count_by is_write orders
    first_below = All-contains (λ (o : Order). o.number < count_by is_write orders) orders next.first numbered.below
        next.there

    one : (a b : Order) → Contains (orders ++ order ∷ []) a → Contains (orders ++ order ∷ []) b
        → a.number ≡ b.number → a.alert ≡ b.alert
    one a b this that same = elim (Contains-push_cases orders order a this) [
      | inl earlier ↦ elim (Contains-push_cases orders order b that) [
        | inl also ↦ numbered.one a b earlier also same
        | inr last ↦
            numbered.one a next.first earlier next.there
            (same ∙ ap (λ (o : Order). o.number) (sym last) ∙ next.number)
            ∙ sym next.alert ∙ ap (λ (o : Order). o.alert) last
      ]
      | inr last ↦ elim (Contains-push_cases orders order b that) [
        | inl also ↦
            ap (λ (o : Order). o.alert) (sym last) ∙ next.alert
            ∙ numbered.one next.first b next.there also
            (sym next.number ∙ ap (λ (o : Order). o.number) last ∙ same)
        | inr again ↦ ap (λ (o : Order). o.alert) (sym last ∙ again)
      ]
    ]

    below : All (λ o. o.number < count_by is_write (orders ++ order ∷ [])) (orders ++ order ∷ [])
    below = All-push (λ (o : Order). o.number < count_by is_write (orders ++ order ∷ [])) orders order
        (All-weaker (λ (o : Order). o.number < count_by is_write orders)
        (λ (o : Order). o.number < count_by is_write (orders ++ order ∷ [])) (λ o less. omega (arith, less, same_count))
        orders numbered.below) (omega (arith, same_count, first_below, next.number))

-- a row after rows that are numbered
pub with_numbered : (before : Rows) (meant : Row) → AreNumbered before.orders → IsNextRow before.orders meant
    → AreNumbered (with_row before meant).orders
with_numbered before (rows.Declare cell) numbered next = numbered
with_numbered before (rows.Give order) numbered next = elim next [
  | inl first ↦ first_numbered before.orders order numbered first
  | inr later ↦ later_numbered before.orders order numbered later
]

RowsAreNumbered : ℕ → Rows → Type 0
RowsAreNumbered row rows = AreNumbered rows.orders

numbered_more : (row : ℕ) (before : Rows) (fields : List (List ℕ)) (meant : Row) → RowsAreNumbered row before
    → row_of row before.cells before.orders fields ≡ Ok meant → RowsAreNumbered (row + 1) (with_row before meant)
unfolding RowsAreNumbered
numbered_more row before fields meant numbered is =
    with_numbered before meant numbered (row_next row before.cells before.orders fields meant is)

-- no orders are
pub none_numbered : AreNumbered []
none_numbered = record {
  one = λ a b this that same. absurd (omega (arith, this.1));
  below = All-nil (λ (o : Order). o.number < 0);
}

-- so orders of a book that have one number have one alert
pub alerts_are_one : (input : List ℕ) (book : Contents) → IsBook input book → (a b : Order) → Contains book.orders a
    → Contains book.orders b → a.number ≡ b.number → a.alert ≡ b.alert
unfolding RowsAreNumbered
alerts_are_one input book is =
    (rows_keep row_of RowsAreNumbered numbered_more 1 (rows_with [] []) (rows_with book.cells book.orders)
    is.rows.records
    none_numbered is.rows.meant).1.one
