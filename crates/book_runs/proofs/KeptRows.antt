-- What a row means for some cells, by what it means for all: the same, but that each order is for those among them.
use Rattle.std.proofs.Common.{◌≡◌, ℕ, ◌+◌, ◌*◌, zero, suc, ◌&&◌, ◌||◌, ◌∙◌, Bool, true, false, cond, not, nat_le, eqb}
use Rattle.std.proofs.Common.{Result, Ok, Err, Option, Some, None, List, [], ◌∷◌, ◌++◌, drop, take, filter, length, map}
use Rattle.std.proofs.Common.{count_by, refl, sym, ap, subst, inl, inr}
use Rattle.std.specs.Option.{is_some, ok_or}
use Rattle.std.specs.List.{list_all, list_any}
use Rattle.std.specs.Str.{bytes_eq}
use Rattle.std.proofs.Common.{codes}
use Rattle.std.proofs.lemmas.Bool.{and_from, and_parts, both_ways, cases_Bool, not-true, or_from, or_parts}
use Rattle.std.proofs.lemmas.List.{append-nil, length-map, map-append}
use Rattle.std.proofs.Math.Seq.{append_snoc}
use Rattle.std.proofs.lemmas.List.Folds.{list_any-append}
use Rattle.std.proofs.lemmas.List.Sums.{sum_by-cons}
use Rattle.cbsp_wire.specs.declared.message.Cell.{Cell}
use Rattle.cbsp_wire.specs.Range.{are_distinct, is_cell}
use Rattle.cbsp_wire.proofs.CellLists.{is_itself, same_cell}
use Rattle.alert_book.proofs.GroupLaws.{cell-symm}
use Rattle.alert_book.specs.declared.fault.BookFault.{BookFault}
use Rattle.alert_book.specs.declared.fault.RowFault.{RowFault}
use Rattle.alert_book.specs.declared.fault.RowFault.TheVariants as fault
use Rattle.alert_book.specs.declared.book.order.Action.{Action}
use Rattle.alert_book.specs.declared.book.order.Action.TheVariants as action
use Rattle.alert_book.specs.declared.book.order.Order.{Order}
use Rattle.alert_book.specs.declared.book.row.Row.{Row}
use Rattle.alert_book.specs.declared.book.row.Row.TheVariants as rows
use Rattle.alert_book.specs.declared.book.row.Verb.{Verb}
use Rattle.alert_book.specs.declared.book.row.Verb.TheVariants as verbs
use Rattle.alert_book.specs.Book.{after_row, rows_read_by, rows_with, with_row, Rows, RowMeaning}
use Rattle.alert_book.specs.Cells.{all_of, cell_with, cells_judged, cells_listed, cells_of_field, is_among}
use Rattle.alert_book.specs.Fields.{alert_at, are_texts, category, column, first_order, if_right, is_named, known_name}
use Rattle.alert_book.specs.Fields.{new_name, number, sending_by}
use Rattle.alert_book.specs.Network.{cells_in_group, cells_of_group, declares_cell, row_in_group}
use Rattle.alert_book.specs.Row.{FieldCells, cell_row_within, is_update_of, is_write, order_with, row_after_verb_by}
use Rattle.alert_book.specs.Row.{stop_row_by, update_row_by, update_with, updates, verb_of, write_row_by, writes}
use Rattle.alert_book.specs.Restricted.{Keep, kept_action, kept_order, kept_sending}
use Rattle.book_runs.specs.WholeNetwork.{in_group, row_of_network}

-- what a row means for some cells
abbrev pub kept_row : Keep → Row → Row
kept_row keep (rows.Declare cell) = rows.Declare cell
kept_row keep (rows.Give order) = rows.Give (kept_order keep order)

-- what rows mean for them: all cells are declared
abbrev pub kept_rows : Keep → Rows → Rows
kept_rows keep before = rows_with before.cells (map (kept_order keep) before.orders)

-- what is right is changed, and a fault stays
abbrev pub right_by : {A B : Type 0} → (A → B) → Result A RowFault → Result B RowFault
right_by change r = if_right r (λ value. Ok (change value))

-- a field changes so, and so does what comes of it
then_kept : {A B C D : Type 0} (r : Result A RowFault) (s : Result B RowFault) (before : A → B) (change : C → D)
    (next : A → Result C RowFault) (later : B → Result D RowFault) → right_by before r ≡ s →
    ((value : A) → right_by change (next value) ≡ later (before value)) →
    right_by change (if_right r next) ≡ if_right s later
then_kept {B = B} (Ok value) s before change next later is so =
    so value ∙ ap (λ (t : Result B RowFault). if_right t later) is
then_kept {B = B} (Err kind) s before change next later is so = ap (λ (t : Result B RowFault). if_right t later) is

itself : {A : Type 0} (r : Result A RowFault) → right_by (λ value. value) r ≡ r
itself (Ok value) = refl
itself (Err kind) = refl

-- a field stays, and what comes of it changes
pub then_same : {A C D : Type 0} (r : Result A RowFault) (change : C → D) (next : A → Result C RowFault)
    (later : A → Result D RowFault) → ((value : A) → right_by change (next value) ≡ later value) →
    right_by change (if_right r next) ≡ if_right r later
then_same (Ok value) change next later so = so value
then_same (Err kind) change next later so = refl

-- of two results that are kept, one that is chosen is
pub either_kept : {C D : Type 0} (test : Bool) (change : C → D) (a b : Result C RowFault) (c d : Result D RowFault) →
    right_by change a ≡ c → right_by change b ≡ d → right_by change (cond test a b) ≡ cond test c d
either_kept true change a b c d first second = first
either_kept false change a b c d first second = second

-- kept orders have the names and the counts of the orders
count_kept : (keep : Keep) (p : Order → Bool) → ((order : Order) → p (kept_order keep order) ≡ p order) →
    (orders : List Order) → count_by p orders ≡ count_by p (map (kept_order keep) orders)
count_kept keep p same [] = refl
count_kept keep p same (order ∷ orders) =
    sum_by-cons (λ (o : Order). cond (p o) 1 0) order orders
    ∙ rw (count_kept keep p same orders, sym (same order)) refl
    ∙ sym (sum_by-cons (λ (o : Order). cond (p o) 1 0) (kept_order keep order) (map (kept_order keep) orders))

writes_kept : (keep : Keep) (order : Order) → is_write (kept_order keep order) ≡ is_write order
writes_kept keep order = by_action order.action
  where
    by_action : (a : Action) → writes (kept_action keep a) ≡ writes a
    by_action (action.Write sending) = refl
    by_action (action.Update update sending) = refl
    by_action (action.Stop cells) = refl

updates_kept : (keep : Keep) (name : List ℕ) (order : Order)
    → is_update_of name (kept_order keep order) ≡ is_update_of name order
updates_kept keep name order = ap (λ (b : Bool). b && is_named name order) (by_action order.action)
  where
    by_action : (a : Action) → updates (kept_action keep a) ≡ updates a
    by_action (action.Write sending) = refl
    by_action (action.Update update sending) = refl
    by_action (action.Stop cells) = refl

some_kept : (keep : Keep) (orders : List Order) (name : List ℕ) →
    is_some (first_order orders name) ≡ is_some (first_order (map (kept_order keep) orders) name)
some_kept keep [] name = refl
some_kept keep (order ∷ orders) name = by_name (is_named name order) (some_kept keep orders name)
  where
    by_name : (here : Bool)
        → is_some (first_order orders name) ≡ is_some (first_order (map (kept_order keep) orders) name) →
        is_some (cond here (Some order) (first_order orders name))
        ≡ is_some (cond here (Some (kept_order keep order)) (first_order (map (kept_order keep) orders) name))
    by_name true later = refl
    by_name false later = later

new_kept : (keep : Keep) (orders : List Order) (name : List ℕ)
    → new_name orders name ≡ new_name (map (kept_order keep) orders) name
new_kept keep orders name = rw (some_kept keep orders name) refl

known_kept : (keep : Keep) (orders : List Order) (name : List ℕ) →
    right_by (kept_order keep) (known_name orders name) ≡ known_name (map (kept_order keep) orders) name
known_kept keep [] name = refl
known_kept keep (order ∷ orders) name = by_name (is_named name order) (known_kept keep orders name)
  where
    by_name : (here : Bool)
        → right_by (kept_order keep) (known_name orders name) ≡ known_name (map (kept_order keep) orders) name →
        right_by (kept_order keep) (ok_or (cond here (Some order) (first_order orders name)) fault.UnknownName)
        ≡ ok_or (cond here (Some (kept_order keep order)) (first_order (map (kept_order keep) orders) name))
        fault.UnknownName
    by_name true later = refl
    by_name false later = later

-- two meanings of a field of cells are the same but that the second keeps some
abbrev AreKept : Keep → FieldCells → FieldCells → Type 0
AreKept keep f g = (field : List ℕ) → right_by (filter keep) (f field) ≡ g field

sending_kept : (keep : Keep) (f g : FieldCells) (fields : List (List ℕ)) (place : ℕ) → AreKept keep f g →
    right_by (kept_sending keep) (sending_by f fields place) ≡ sending_by g fields place
sending_kept keep f g fields place same =
    then_same (category (column fields (place + 1))) (kept_sending keep) _ _ (λ category.
    then_same (number 1 1024 (column fields (place + 2))) (kept_sending keep) _ _ (λ period.
    then_same (number 0 65535 (column fields (place + 3))) (kept_sending keep) _ _ (λ broadcasts.
    then_kept (f (column fields (place + 4))) (g (column fields (place + 4))) (filter keep) (kept_sending keep) _ _
    (same (column fields (place + 4))) (λ cells. refl))))

write_kept : (keep : Keep) (row : ℕ) (f g : FieldCells) (orders : List Order) (fields : List (List ℕ))
    → AreKept keep f g →
    right_by (kept_row keep) (write_row_by row f orders fields)
    ≡ write_row_by row g (map (kept_order keep) orders) fields
write_kept keep row f g orders fields same =
    then_same (number 0 65535 (column fields 1)) (kept_row keep) _ _ (λ at.
    then_kept (new_name orders (column fields 2)) (new_name (map (kept_order keep) orders) (column fields 2))
    (λ name. name) (kept_row keep)
    _ _ (itself (new_name orders (column fields 2)) ∙ new_kept keep orders (column fields 2)) (λ name.
    then_same (alert_at fields 3) (kept_row keep) _ _ (λ alert.
    then_kept (sending_by f fields 6) (sending_by g fields 6) (kept_sending keep) (kept_row keep) _ _
    (sending_kept keep f g fields 6 same) (λ sending.
    ap (λ (n : ℕ). Ok (rows.Give (order_with row at name n alert (action.Write (kept_sending keep sending)))))
    (count_kept keep is_write (writes_kept keep) orders)))))

update_kept : (keep : Keep) (row : ℕ) (f g : FieldCells) (orders : List Order) (fields : List (List ℕ))
    → AreKept keep f g →
    right_by (kept_row keep) (update_row_by row f orders fields)
    ≡ update_row_by row g (map (kept_order keep) orders) fields
update_kept keep row f g orders fields same =
    then_same (number 0 65535 (column fields 1)) (kept_row keep) _ _ (λ at.
    then_kept (known_name orders (column fields 2)) (known_name (map (kept_order keep) orders) (column fields 2))
    (kept_order keep) (kept_row keep) _ _ (known_kept keep orders (column fields 2)) (λ first.
    then_kept (sending_by f fields 3) (sending_by g fields 3) (kept_sending keep) (kept_row keep) _ _
    (sending_kept keep f g fields 3 same) (λ sending.
    either_kept (nat_le 15 (count_by (is_update_of (column fields 2)) orders)) (kept_row keep) _ _ _ _ refl refl
    ∙ ap (λ (n : ℕ). update_with row at (column fields 2) (kept_order keep first) n (kept_sending keep sending))
    (count_kept keep (is_update_of (column fields 2)) (updates_kept keep (column fields 2)) orders))))

stop_kept : (keep : Keep) (row : ℕ) (f g : FieldCells) (orders : List Order) (fields : List (List ℕ))
    → AreKept keep f g →
    right_by (kept_row keep) (stop_row_by row f orders fields)
    ≡ stop_row_by row g (map (kept_order keep) orders) fields
stop_kept keep row f g orders fields same =
    then_same (number 0 65535 (column fields 1)) (kept_row keep) _ _ (λ at.
    then_kept (known_name orders (column fields 2)) (known_name (map (kept_order keep) orders) (column fields 2))
    (kept_order keep) (kept_row keep) _ _ (known_kept keep orders (column fields 2)) (λ first.
    then_kept (f (column fields 3)) (g (column fields 3)) (filter keep) (kept_row keep) _ _ (same (column fields 3))
    (λ cells. refl)))

declares_kept : (keep : Keep) (declared : List Cell) (fields : List (List ℕ)) →
    right_by (kept_row keep) (cell_row_within 65536 declared fields) ≡ cell_row_within 65536 declared fields
declares_kept keep declared fields =
    either_kept (nat_le 65536 (length declared)) (kept_row keep) _ _ _ _ refl
    (then_same (number 0 65535 (column fields 1)) (kept_row keep) _ _ (λ lac.
    then_same (number 0 65535 (column fields 2)) (kept_row keep) _ _ (λ ci.
    either_kept (is_among declared (cell_with lac ci)) (kept_row keep) _ _ _ _ refl refl)))

-- a row means for some cells what it means where its field has these alone
pub verb_kept : (keep : Keep) (verb : Option Verb) (row : ℕ) (declared : List Cell) (f g : FieldCells)
    (orders : List Order) (fields : List (List ℕ)) → AreKept keep f g →
    right_by (kept_row keep) (row_after_verb_by verb (cell_row_within 65536 declared fields) row f orders fields)
    ≡ row_after_verb_by verb (cell_row_within 65536 declared fields) row g (map (kept_order keep) orders) fields
verb_kept keep None row declared f g orders fields same = refl
verb_kept keep (Some verbs.Cell) row declared f g orders fields same =
    either_kept (eqb (length fields) 3) (kept_row keep) _ _ _ _ (declares_kept keep declared fields) refl
verb_kept keep (Some verbs.Write) row declared f g orders fields same =
    either_kept (eqb (length fields) 12) (kept_row keep) _ _ _ _ (write_kept keep row f g orders fields same) refl
verb_kept keep (Some verbs.Update) row declared f g orders fields same =
    either_kept (eqb (length fields) 9) (kept_row keep) _ _ _ _ (update_kept keep row f g orders fields same) refl
verb_kept keep (Some verbs.Stop) row declared f g orders fields same =
    either_kept (eqb (length fields) 4) (kept_row keep) _ _ _ _ (stop_kept keep row f g orders fields same) refl

-- what a filter keeps of cells that are all some, two tests keep that agree on those
filter_agree : {X : Type 0} (p q r : X → Bool) → ((x : X) → p x ≡ true → q x ≡ r x) → (xs : List X)
    → list_all p xs ≡ true → filter q xs ≡ filter r xs
filter_agree p q r so [] all = refl
filter_agree p q r so (x ∷ xs) all =
    let parts = and_parts (p x) (list_all p xs) all in
    ap (λ (b : Bool). cond b (x ∷ filter q xs) (filter q xs)) (so x parts.0)
    ∙ ap (λ (l : List _). cond (r x) (x ∷ l) l) (filter_agree p q r so xs parts.1)

-- what isn't in a list isn't in a part of it
none_taken : {X : Type 0} (p : X → Bool) (k : ℕ) (xs : List X) → list_any p xs ≡ false → list_any p (take k xs) ≡ false
none_taken p zero xs none = refl
none_taken p (suc k) [] none = refl
none_taken p (suc k) (x ∷ xs) none =
    let parts = or_parts (p x) (list_any p xs) none in
    or_from (p x) (list_any p (take k xs)) parts.0 (none_taken p k xs parts.1)

none_dropped : {X : Type 0} (p : X → Bool) (n : ℕ) (xs : List X) → list_any p xs ≡ false →
    list_any p (drop n xs) ≡ false
none_dropped p zero xs none = none
none_dropped p (suc n) [] none = refl
none_dropped p (suc n) (x ∷ xs) none = none_dropped p n xs (or_parts (p x) (list_any p xs) none).1

-- where more cells come than are declared so far, those declared are in the group or not as they were
any_front : {X : Type 0} (p : X → Bool) (n k : ℕ) (xs ys : List X) → list_any p ys ≡ false
    → list_any p (take k (drop n (xs ++ ys))) ≡ list_any p (take k (drop n xs))
any_front p n k [] ys none =
    none_taken p k (drop n ys) (none_dropped p n ys none)
    ∙ sym (none_taken p k (drop n []) (none_dropped p n [] refl))
any_front p zero zero (x ∷ xs) ys none = refl
any_front p zero (suc k) (x ∷ xs) ys none = ap (λ (b : Bool). p x || b) (any_front p zero k xs ys none)
any_front p (suc n) k (x ∷ xs) ys none = any_front p n k xs ys none

-- of distinct cells, one of the first isn't among the later ones
none_among : (cell : Cell) (cells : List Cell) → list_any (is_cell cell) cells ≡ false → is_among cells cell ≡ false
none_among cell [] none = refl
none_among cell (c ∷ cs) none =
    let parts = or_parts (is_cell cell c) (list_any (is_cell cell) cs) none in
    or_from (is_cell c cell) (is_among cs cell) (cell-symm c cell ∙ parts.0) (none_among cell cs parts.1)

later_apart : (c : Cell) (front rest : List Cell) → are_distinct (front ++ rest) ≡ true → is_among front c ≡ true
    → is_among rest c ≡ false
later_apart c [] rest distinct there = absurd (both_ways false refl there)
later_apart c (d ∷ front) rest distinct there =
    let parts = and_parts (not (list_any (is_cell d) (front ++ rest))) (are_distinct (front ++ rest)) distinct in
    let alone : list_any (is_cell d) (front ++ rest) ≡ false = not-true (list_any (is_cell d) (front ++ rest))
    parts.0 in
    let later : list_any (is_cell d) rest ≡ false = (or_parts (list_any (is_cell d) front) (list_any (is_cell d) rest)
    (sym (list_any-append (is_cell d) front rest) ∙ alone)).1 in
    elim (cases_Bool (is_cell d c)) [
      | inl same ↦ none_among c rest (subst (λ (x : Cell). list_any (is_cell x) rest
          ≡ false) (same_cell d c same) later)
      | inr other ↦ later_apart c front rest parts.1 (rw other at there)
    ]

group_agrees : (group : ℕ) (declared more : List Cell) → are_distinct (declared ++ more) ≡ true → (c : Cell)
    → is_among declared c ≡ true
    → in_group group (declared ++ more) c ≡ is_among (cells_of_group group declared) c
group_agrees group declared more distinct c there =
    any_front (λ d. is_cell d c) (64 * group) 64 declared more (later_apart c declared more distinct there)

-- the cells of a field are declared
same_cells : (r : Result (List Cell) RowFault) (a b : List Cell) → r ≡ Ok a → r ≡ Ok b → a ≡ b
same_cells r a b one other = cc

all_within : (cells more : List Cell) → ((c : Cell) → is_among cells c ≡ true → is_among more c ≡ true)
    → list_all (is_among more) cells ≡ true
all_within [] more so = refl
all_within (c ∷ cells) more so =
    and_from (is_among more c) (list_all (is_among more) cells)
    (so c (ap (λ (b : Bool). b || is_among cells c) (is_itself c)))
    (all_within cells more (λ d there. so d (or_second (is_cell c d) (is_among cells d) there)))
  where
    or_second : (a b : Bool) → b ≡ true → (a || b) ≡ true
    or_second true b there = refl
    or_second false b there = there

whole_declared : (declared cells : List Cell) → all_of declared ≡ Ok cells → list_all (is_among declared) cells ≡ true
whole_declared [] cells is = absurd (cc is)
whole_declared (d ∷ declared) cells is =
    subst (λ (l : List Cell). list_all (is_among (d ∷ declared)) l ≡ true)
    (same_cells (all_of (d ∷ declared)) (d ∷ declared) cells refl is)
    (all_within (d ∷ declared) (d ∷ declared) (λ c there. there))

judged_declared : (declared : List Cell) (listed : Option (List Cell)) (cells : List Cell)
    → cells_judged declared listed ≡ Ok cells → list_all (is_among declared) cells ≡ true
judged_declared declared None cells is = absurd (cc is)
judged_declared declared (Some listed) cells is = elim (cases_Bool (list_all (is_among declared) listed)) [
  | inr other ↦ absurd (cc (rw other at is))
  | inl all ↦ elim (cases_Bool (are_distinct listed)) [
    | inr other ↦ absurd (cc (rw (all, other) at is))
    | inl distinct ↦ subst (λ (l : List Cell). list_all (is_among declared) l ≡ true)
        (same_cells (Ok listed) listed cells refl (rw (all, distinct) at is)) all
  ]
]

-- a field comes to declared cells
pub field_declared : (declared : List Cell) (field : List ℕ) (cells : List Cell) → cells_of_field declared field
    ≡ Ok cells
    → list_all (is_among declared) cells ≡ true
field_declared declared field cells is = elim (cases_Bool (bytes_eq field (codes "*"))) [
  | inl all ↦ whole_declared declared cells (rw all at is)
  | inr some ↦ judged_declared declared (cells_listed field) cells (rw some at is)
]

-- so a field has in a group what it has of its cells
field_kept : (group : ℕ) (declared more : List Cell) → are_distinct (declared ++ more) ≡ true
    → AreKept (in_group group (declared ++ more)) (cells_of_field declared) (cells_in_group group declared)
field_kept group declared more distinct field = by_field (cells_of_field declared field) refl
  where
    by_field : (r : Result (List Cell) RowFault) → cells_of_field declared field ≡ r
        → right_by (filter (in_group group (declared ++ more))) r
        ≡ if_right r (λ cells. Ok (filter (is_among (cells_of_group group declared)) cells))
    by_field (Err kind) is = refl
    by_field (Ok cells) is =
        ap (λ (l : List Cell). let made : Result (List Cell) RowFault = Ok l in made)
        (filter_agree (is_among declared) (in_group group (declared ++ more))
        (is_among (cells_of_group group declared)) (λ c there. group_agrees group declared more distinct c there) cells
        (field_declared declared field cells is))

-- and a row means there what it means for all, but for the cells
row_kept : (group row : ℕ) (declared more : List Cell) (orders : List Order) (fields : List (List ℕ))
    → are_distinct (declared ++ more) ≡ true →
    right_by (kept_row (in_group group (declared ++ more))) (row_of_network row declared orders fields)
    ≡ row_in_group group row declared (map (kept_order (in_group group (declared ++ more))) orders) fields
row_kept group row declared more orders fields distinct =
    let keep : Keep = in_group group (declared ++ more) in
    rw (length-map orders (kept_order keep))
    (either_kept (not (declares_cell fields) && nat_le 4096 (length orders)) (kept_row keep) _ _ _ _ refl
    (either_kept (not (are_texts fields)) (kept_row keep) _ _ _ _ refl
    (verb_kept keep (verb_of (column fields 0)) row declared (cells_of_field declared) (cells_in_group group declared)
    orders fields (field_kept group declared more distinct))))

-- rows that are read declare cells after those before them
pub record Declares (before result : Rows) : Type 0 where
  pub more : List Cell
  pub is : before.cells ++ more ≡ result.cells

same_rows : (a b : Rows) → (let r : Result Rows BookFault = Ok a in r) ≡ Ok b → a ≡ b
same_rows a b is = cc

-- rows declare cells after those that are there
pub declares : (meaning : RowMeaning) (records : List (List (List ℕ))) (row : ℕ) (before result : Rows)
    → rows_read_by meaning row before records ≡ Ok result → Declares before result
declares meaning [] row before result is = record {
  more = [];
  is = append-nil before.cells ∙ ap (λ (r : Rows). r.cells) (same_rows before result is);
}
declares meaning (fields ∷ records) row before result is =
    by_row (meaning row before.cells before.orders fields) is
    (λ next so. declares meaning records (row + 1) next result so)
  where
    by_row : (r : Result Row RowFault)
        → after_row row before r (λ next. rows_read_by meaning (row + 1) next records) ≡ Ok result
        → ((next : Rows) → rows_read_by meaning (row + 1) next records ≡ Ok result → Declares next result)
        → Declares before result
    by_row (Err kind) is rest = absurd (cc is)
    by_row (Ok (rows.Declare cell)) is rest =
        let later = rest (with_row before (rows.Declare cell)) is in record {
          more = cell ∷ later.more;
          is = sym (append_snoc before.cells cell later.more) ∙ later.is;
        }
    by_row (Ok (rows.Give order)) is rest =
        let later = rest (with_row before (rows.Give order)) is in record { more = later.more; is = later.is }

-- what rows mean for some cells with one row more
pub with_kept : (keep : Keep) (before : Rows) (meant : Row)
    → kept_rows keep (with_row before meant) ≡ with_row (kept_rows keep before) (kept_row keep meant)
with_kept keep before (rows.Declare cell) = refl
with_kept keep before (rows.Give order) =
    ap (rows_with before.cells) (map-append (kept_order keep) before.orders (order ∷ []))

-- so do rows
pub rows_kept : (group : ℕ) (result : Rows) → are_distinct result.cells ≡ true
    → (records : List (List (List ℕ))) (row : ℕ) (before : Rows)
    → rows_read_by row_of_network row before records ≡ Ok result
    → rows_read_by (row_in_group group) row (kept_rows (in_group group result.cells) before) records
    ≡ Ok (kept_rows (in_group group result.cells) result)
rows_kept group result distinct [] row before is =
    ap (λ (r : Rows). let made : Result Rows BookFault = Ok (kept_rows (in_group group result.cells) r) in made)
    (same_rows before result is)
rows_kept group result distinct (fields ∷ records) row before is =
    let said = declares row_of_network (fields ∷ records) row before result is in
    let keep : Keep = in_group group result.cells in
    let own : right_by (kept_row keep) (row_of_network row before.cells before.orders fields)
    ≡ row_in_group group row before.cells (map (kept_order keep) before.orders) fields =
    subst (λ (l : List Cell). right_by (kept_row (in_group group l)) (row_of_network row before.cells before.orders
    fields)
    ≡ row_in_group group row before.cells (map (kept_order (in_group group l)) before.orders) fields) said.is
    (row_kept group row before.cells said.more before.orders fields
    (subst (λ (l : List Cell). are_distinct l ≡ true) (sym said.is) distinct)) in
    ap (λ (r : Result Row RowFault). after_row row (kept_rows keep before) r
    (λ next. rows_read_by (row_in_group group) (row + 1) next records)) (sym own)
    ∙ by_row (row_of_network row before.cells before.orders fields) is
    (λ next so. rows_kept group result distinct records (row + 1) next so)
  where
    by_row : (r : Result Row RowFault)
        → after_row row before r (λ next. rows_read_by row_of_network (row + 1) next records) ≡ Ok result
        → ((next : Rows) → rows_read_by row_of_network (row + 1) next records ≡ Ok result
        → rows_read_by (row_in_group group) (row + 1) (kept_rows (in_group group result.cells) next) records
        ≡ Ok (kept_rows (in_group group result.cells) result))
        → after_row row (kept_rows (in_group group result.cells) before)
        (right_by (kept_row (in_group group result.cells)) r)
        (λ next. rows_read_by (row_in_group group) (row + 1) next records)
        ≡ Ok (kept_rows (in_group group result.cells) result)
    by_row (Err kind) is rest = absurd (cc is)
    by_row (Ok meant) is rest =
        ap (λ (next : Rows). rows_read_by (row_in_group group) (row + 1) next records)
        (sym (with_kept (in_group group result.cells) before meant))
        ∙ rest (with_row before meant) is
