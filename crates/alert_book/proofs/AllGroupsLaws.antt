-- A network's rows that are read once, with what each names, are the rows as each group reads them.
use Rattle.std.proofs.Common.{◌≡◌, ◌⊎◌, ℕ, ◌+◌, ◌-◌, ◌*◌, ◌/◌, ◌<◌, ◌≤◌, ◌&&◌, ◌||◌, ◌∙◌, Bool, true, false, cond, not}
use Rattle.std.proofs.Common.{min}
use Rattle.std.proofs.Common.{nat_le, nat_lt, eqb, eqb-true, eq-eqb, Result, Ok, Err, Option, Some, None, List, [], ◌∷◌}
use Rattle.std.proofs.Common.{◌++◌, length, length-append, map, filter, get_or, take, drop, refl, sym, subst, ap, arith}
use Rattle.std.proofs.Common.{inl, inr, codes, All, IfErr, ◌≢◌, zero, suc}
use Rattle.std.specs.List.{list_all}
use Rattle.std.specs.Option.{is_some}
use Rattle.std.specs.Cmp.{nat_eq_equiv}
use Rattle.std.specs.Str.{bytes_eq, chars}
use Rattle.std.proofs.lemmas.Bool.{cases_Bool, leb-false, leb-true, ltb-false, ltb-true}
use Rattle.std.proofs.lemmas.List.{length-map, length-take-le, take-append-le, take_more}
use Rattle.std.proofs.lemmas.List.Elements.{All-cons, All-head, All-nil, All-tail, filter-append}
use Rattle.cbs_page.specs.declared.paging.Paged.{Paged}
use Rattle.cbsp_wire.specs.declared.message.Cell.{Cell}
use Rattle.cbsp_wire.specs.Range.{are_distinct, is_cell, is_nothing}
use Rattle.cbs_page.specs.declared.paging.TextFault.{TextFault}
use Rattle.cbs_page.specs.declared.paging.TextFault.TheVariants as text
use Rattle.cbs_page.specs.Text.{IsTextFault}
use Rattle.alert_book.specs.declared.fault.BookFault.{BookFault}
use Rattle.alert_book.specs.declared.fault.BookFaultKind.TheVariants as kinds
use Rattle.alert_book.specs.declared.fault.RowFault.{RowFault}
use Rattle.alert_book.specs.declared.fault.RowFault.TheVariants as fault
use Rattle.alert_book.specs.declared.book.order.Action.{Action}
use Rattle.alert_book.specs.declared.book.order.Action.TheVariants as action
use Rattle.alert_book.specs.declared.book.order.Order.{Order}
use Rattle.alert_book.specs.declared.book.order.Sending.{Sending}
use Rattle.alert_book.specs.declared.book.row.Row.{Row}
use Rattle.alert_book.specs.declared.book.row.Row.TheVariants as rows
use Rattle.alert_book.specs.declared.network.all_cells.NetworkCells.{NetworkCells}
use Rattle.alert_book.specs.declared.network.shares.Named.{Named}
use Rattle.alert_book.specs.declared.network.shares.Named.TheVariants as named
use Rattle.alert_book.specs.AllGroupsSteps.{all_declares, all_field, all_judged, all_row, group_of_cell}
use Rattle.alert_book.specs.AllGroupsSteps.{has_group, is_placed, is_this, rows_in, AllRowsKept, AreDeclared}
use Rattle.alert_book.specs.AllGroupsSteps.{AreRowsOfAll}
use Rattle.alert_book.specs.AllGroupsSteps.{AreGrouped, AreRightlyKept, HasCellMore, IsAllMore, IsDeclared, IsNamed}
use Rattle.alert_book.specs.AllGroupsSteps.{IsRightGroup}
use Rattle.alert_book.specs.CellPairs.{Pair}
use Rattle.alert_book.specs.Book.{fault_at, rows_with, sending_of, with_row, ArePagesOf, Contents, HasWrongText}
use Rattle.alert_book.specs.Book.{refused, HavePages}
use Rattle.alert_book.specs.Cells.{all_of, cell_with, cells_judged, cells_listed, cells_of_field, is_among}
use Rattle.alert_book.specs.Fields.{are_texts, column, if_right, number}
use Rattle.alert_book.specs.Network.{action_to, cells_in_group, cells_of_action, cells_of_group, declares_cell}
use Rattle.alert_book.specs.Network.{groups_of, has_cells, named_of, read_in, IsGroupBook, IsNetwork, IsNoNetworkBook}
use Rattle.alert_book.specs.Network.{MeansNetwork, NetworkRows}
use Rattle.alert_book.specs.Network.{order_to, orders_in, row_in_group, sending_to}
use Rattle.alert_book.specs.Row.{cell_row_within, new_cell, order_with, row_after_verb_by, verb_of, FieldCells}
use Rattle.alert_book.specs.SendableSteps.{HasVersion, IsSendable}
use Rattle.alert_book.proofs.BareRows.{bare, bare_action, bare_meaning, bare_row, either_bare, no_cells, pages_bare}
use Rattle.alert_book.proofs.BareRows.{right_by, row_bare, verb_bare, wrong_bare}
use Rattle.alert_book.proofs.FewRows.{distinct_push, new_parts}
use Rattle.alert_book.proofs.GroupLaws.{drop_all, filter_group, length_drop, none_dropped, none_taken, part_after}
use Rattle.alert_book.proofs.GroupLaws.{part_before, part_within, take_full}
use Rattle.alert_book.proofs.KeptLaws.{declared_more, declares_new, gives_few}
use Rattle.alert_book.proofs.PageLaws.{wrong_later}
use Rattle.alert_book.proofs.RightOrders.{cells_column, either_right, fault_right, listed_some, verb_right}
use Rattle.alert_book.proofs.RightOrders.{IsRightActionBy, IsRightRow}

-- the part of a list that a group is
pub part_is : (n first last : ℕ) (cells : List Cell) → first ≡ min n (length cells) →
    last ≡ first + min (length cells - first) 64 → take (last - first) (drop first cells) ≡ take 64 (drop n cells)
part_is n first last cells begins ends = elim (cases_Bool (nat_le n (length cells))) [
  | inl within ↦
      let below = leb-true n (length cells) within in
      let same : first ≡ n = omega (arith, below, begins) in
      let rest = length_drop n cells below in
      let many : last - first ≡ min (length (drop n cells)) 64 = omega (arith, rest, same, ends) in
      rw same (by_length (drop n cells) (last - n) (omega (arith, many, same)))
  | inr past ↦
      let above = leb-false n (length cells) past in
      let same : first ≡ length cells = omega (arith, above, begins) in
      let none : last - first ≡ 0 = omega (arith, same, ends) in
      rw none (ap (λ (xs : List Cell). take 64 xs) (sym (drop_all n cells (omega (arith, above)))))
]
  where
    by_length : (rest : List Cell) (k : ℕ) → k ≡ min (length rest) 64 → take k rest ≡ take 64 rest
    by_length rest k is = elim (cases_Bool (nat_le 64 (length rest))) [
      | inl full ↦
          let many = leb-true 64 (length rest) full in
          let all : k ≡ 64 = omega (arith, is, many) in
          rw all refl
      | inr part ↦
          let few = leb-false 64 (length rest) part in
          take_full k rest (omega (arith, is, few)) ∙ sym (take_full 64 rest (omega (arith, few)))
    ]

-- whether a cell is declared, and is in a group
has_is : (cells : List Cell) (cell : Cell) (own : Option ℕ) → IsRightGroup cells cell own →
    is_some own ≡ is_among cells cell
has_is cells cell None is = sym is
has_is cells cell (Some own) is = sym is.0

none_in_group : (group : ℕ) (cells : List Cell) (cell : Cell) → is_among cells cell ≡ false →
    is_among (cells_of_group group cells) cell ≡ false
none_in_group group cells cell none =
    none_taken (λ c. is_cell c cell) 64 (drop (64 * group) cells)
    (none_dropped (λ c. is_cell c cell) (64 * group) cells none)

placed_is : (group : ℕ) (cells : List Cell) (cell : Cell) (own : Option ℕ) → IsRightGroup cells cell own →
    is_this own group ≡ is_among (cells_of_group group cells) cell
placed_is group cells cell None is = sym (none_in_group group cells cell is)
placed_is group cells cell (Some own) is = sym (is.1 group)

same_filter : (p q : Cell → Bool) → ((c : Cell) → p c ≡ q c) → (cells : List Cell) → filter p cells ≡ filter q cells
same_filter p q same [] = refl
same_filter p q same (c ∷ cs) = rw (same c, same_filter p q same cs) refl

same_all : (p q : Cell → Bool) → ((c : Cell) → p c ≡ q c) → (cells : List Cell) → list_all p cells ≡ list_all q cells
same_all p q same [] = refl
same_all p q same (c ∷ cs) = rw (same c, same_all p q same cs) refl

placed_filter : (n : NetworkCells) (group : ℕ) → AreGrouped n → (cells : List Cell) →
    filter (is_placed n.groups group) cells ≡ filter (is_among (cells_of_group group n.cells)) cells
placed_filter n group right =
    same_filter (is_placed n.groups group) (is_among (cells_of_group group n.cells))
    (λ c. placed_is group n.cells c (group_of_cell n.groups c) (right.groups c))

-- some cells aren't none
not_none : (c : Cell) (cs : List Cell) → eqb (length (c ∷ cs)) 0 ≡ false
not_none c cs = elim (cases_Bool (eqb (length (c ∷ cs)) 0)) [
  | inl none ↦ absurd (omega (arith, eqb-true (length (c ∷ cs)) 0 none))
  | inr some ↦ some
]

-- a field of cells comes to what it comes to in a network, but for the cells
field_bare : (n : NetworkCells) (field : List ℕ) → AreGrouped n →
    right_by no_cells (all_field n field) ≡ right_by no_cells (cells_of_field n.cells field)
field_bare n field right = elim (cases_Bool (bytes_eq field (codes "*"))) [
  | inl all ↦ rw all (by_cells n.cells)
  | inr some ↦ rw some (by_listed (cells_listed field))
]
  where
    by_cells : (cells : List Cell) →
        right_by no_cells (cond (eqb (length cells) 0) (Err fault.UnknownCell) (Ok []))
        ≡ right_by no_cells (all_of cells)
    by_cells [] = refl
    by_cells (c ∷ cs) = rw (not_none c cs) refl

    by_listed : (listed : Option (List Cell)) →
        right_by no_cells (all_judged n listed) ≡ right_by no_cells (cells_judged n.cells listed)
    by_listed None = refl
    by_listed (Some cells) =
        rw (same_all (has_group n.groups) (is_among n.cells)
        (λ c. has_is n.cells c (group_of_cell n.groups c) (right.groups c)) cells) refl

-- a row that declares a cell
declares_is : (n : NetworkCells) (fields : List (List ℕ)) → AreGrouped n →
    all_declares n fields ≡ cell_row_within 65536 n.cells fields
declares_is n fields right = by_room (nat_le 65536 (length n.cells))
  where
    by_numbers : (lac ci : Result ℕ RowFault) →
        if_right lac (λ l. if_right ci (λ c. cond (has_group n.groups (cell_with l c)) (Err fault.TwiceNamed)
        (Ok (rows.Declare (cell_with l c)))))
        ≡ if_right lac (λ l. if_right ci (λ c. new_cell n.cells (cell_with l c)))
    by_numbers (Err kind) ci = refl
    by_numbers (Ok l) (Err kind) = refl
    by_numbers (Ok l) (Ok c) =
        rw (has_is n.cells (cell_with l c) (group_of_cell n.groups (cell_with l c)) (right.groups (cell_with l c))) refl

    by_room : (full : Bool) →
        cond full (Err fault.TooManyRows)
        (if_right (number 0 65535 (column fields 1)) (λ l. if_right (number 0 65535 (column fields 2)) (λ c.
        cond (has_group n.groups (cell_with l c)) (Err fault.TwiceNamed) (Ok (rows.Declare (cell_with l c))))))
        ≡ cond full (Err fault.TooManyRows)
        (if_right (number 0 65535 (column fields 1)) (λ l. if_right (number 0 65535 (column fields 2)) (λ c.
        new_cell n.cells (cell_with l c))))
    by_room true = refl
    by_room false = by_numbers (number 0 65535 (column fields 1)) (number 0 65535 (column fields 2))

-- a row means what it means in a network, but for the cells
all_bare : (n : NetworkCells) (row : ℕ) (orders : List Order) (fields : List (List ℕ)) → AreGrouped n →
    right_by bare_row (all_row row n orders fields) ≡ bare_meaning row n.cells (map bare orders) fields
all_bare n row orders fields right =
    rw (length-map orders bare, declares_is n fields right)
    (either_bare (not (declares_cell fields) && nat_le 4096 (length orders)) bare_row _ _ _ _ refl
    (either_bare (not (are_texts fields)) bare_row _ _ _ _ refl
    (verb_bare (verb_of (column fields 0)) row n.cells (all_field n)
    (λ field. right_by no_cells (cells_of_field n.cells field)) orders fields
    (λ field. field_bare n field right))))

-- an order for some cells, and then for others
action_twice : (a : Action) (some others : List Cell) → action_to (action_to a some) others ≡ action_to a others
action_twice (action.Write sending) some others = refl
action_twice (action.Update update sending) some others = refl
action_twice (action.Stop cells) some others = refl

twice : (o : Order) (some others : List Cell) → order_to (order_to o some) others ≡ order_to o others
twice o some others = ap (order_with o.row o.at o.name o.number o.alert) (action_twice o.action some others)

action_again : (a : Action) → action_to (action_to a []) (cells_of_action a) ≡ a
action_again (action.Write sending) = refl
action_again (action.Update update sending) = refl
action_again (action.Stop cells) = refl

again : (o : Order) → order_to (order_to o []) (cells_of_action o.action) ≡ o
again o = ap (order_with o.row o.at o.name o.number o.alert) (action_again o.action)

-- orders that are the same but for the cells differ by these
from_bare : (a b : Order) → bare a ≡ bare b → a ≡ order_to b (cells_of_action a.action)
from_bare a b same =
    sym (again a) ∙ ap (λ (o : Order). order_to o (cells_of_action a.action)) same
    ∙ twice b [] (cells_of_action a.action)

-- the orders of a group are those of the network but for the cells
pub in_bare : (cells : List Cell) (group : ℕ) (orders : List Order) (all : List Named) →
    map bare (orders_in cells group orders all) ≡ map bare orders
in_bare cells group [] all = refl
in_bare cells group (o ∷ os) [] = rw (twice o [] [], in_bare cells group os []) refl
in_bare cells group (o ∷ os) (name ∷ all) =
    rw (twice o (named_of cells group name) [], in_bare cells group os all) refl

in_length : (cells : List Cell) (group : ℕ) (orders : List Order) (all : List Named) →
    length (orders_in cells group orders all) ≡ length orders
in_length cells group orders all =
    sym (length-map (orders_in cells group orders all) bare)
    ∙ ap (λ (os : List Order). length os) (in_bare cells group orders all)
    ∙ length-map orders bare

-- what a row's field comes to
abbrev ComesOf : FieldCells → (field : List ℕ) → Row → Type 0
ComesOf cells_of field (rows.Declare cell) = Unit {0}
ComesOf cells_of field (rows.Give order) = cells_of field ≡ Ok (cells_of_action order.action)

from_right : (cells_of : FieldCells) (field : List ℕ) (meant : Row) →
    IsRightRow (λ cells. cells_of field ≡ Ok cells) meant → ComesOf cells_of field meant
from_right cells_of field (rows.Declare cell) right = tt
from_right cells_of field (rows.Give order) right = by_action order.action right
  where
    by_action : (a : Action) → IsRightActionBy (λ cells. cells_of field ≡ Ok cells) a →
        cells_of field ≡ Ok (cells_of_action a)
    by_action (action.Write sending) is = is.cells
    by_action (action.Update update sending) is = is.cells
    by_action (action.Stop cells) is = is

abbrev field_of : List (List ℕ) → List ℕ
field_of fields = column fields (cells_column (verb_of (column fields 0)))

comes_of : (row : ℕ) (cells : List Cell) (cells_of : FieldCells) (orders : List Order) (fields : List (List ℕ))
    (meant : Row) →
    cond (not (declares_cell fields) && nat_le 4096 (length orders)) (Err fault.TooManyRows)
    (cond (not (are_texts fields)) (Err fault.Columns)
    (row_after_verb_by (verb_of (column fields 0)) (cell_row_within 65536 cells fields) row cells_of orders fields))
    ≡ Ok meant →
    ComesOf cells_of (field_of fields) meant
comes_of row cells cells_of orders fields meant is =
    let good : List Cell → Type 0 = λ cs. cells_of (field_of fields) ≡ Ok cs in
    from_right cells_of (field_of fields) meant
    (either_right good (not (declares_cell fields) && nat_le 4096 (length orders)) _ _
    (fault_right good fault.TooManyRows)
    (either_right good (not (are_texts fields)) _ _ (fault_right good fault.Columns)
    (verb_right good (verb_of (column fields 0)) 65536 row cells cells_of orders fields (λ cs so. so))) meant is)

-- of the cells that a row names those of a group
same_cells : (r : Result (List Cell) RowFault) (a b : List Cell) → r ≡ Ok a → r ≡ Ok b → a ≡ b
same_cells r a b one other = cc

some_named : (n : NetworkCells) (cells : List Cell) (name : Named) (group : ℕ) → AreGrouped n →
    (cells ≡ [] → ⊥) → IsNamed n cells name →
    named_of n.cells group name ≡ filter (is_among (cells_of_group group n.cells)) cells
some_named n [] name group right some is = absurd (some refl)
some_named n (c ∷ cs) (named.All count) group right some is = absurd is
some_named n (c ∷ cs) (named.Listed shares) group right some is = is group ∙ placed_filter n group right (c ∷ cs)

all_named_of : (n : NetworkCells) (name : Named) (group : ℕ) → IsNamed n [] name →
    named_of n.cells group name ≡ cells_of_group group n.cells
all_named_of n (named.All count) group is =
    ap (λ (cs : List Cell). cells_of_group group cs) (take_full count n.cells (omega (arith, is)))
all_named_of n (named.Listed shares) group is = absurd is

judged_named : (n : NetworkCells) (listed : Option (List Cell)) (kept own : List Cell) (name : Named) (group : ℕ) →
    AreGrouped n → ((cells : List Cell) → listed ≡ Some cells → cells ≡ [] → ⊥) →
    all_judged n listed ≡ Ok kept →
    if_right (cells_judged n.cells listed) (λ cells. Ok (filter (is_among (cells_of_group group n.cells)) cells))
    ≡ Ok own →
    IsNamed n kept name → own ≡ named_of n.cells group name
judged_named n None kept own name group right some is so names = absurd (cc is)
judged_named n (Some cells) kept own name group right some is so names =
    elim (cases_Bool (list_all (has_group n.groups) cells)) [
      | inr other ↦ absurd (cc (rw other at is))
      | inl all ↦ elim (cases_Bool (are_distinct cells)) [
        | inr twice ↦ absurd (cc (rw (all, twice) at is))
        | inl distinct ↦
            let same = same_all (has_group n.groups) (is_among n.cells)
            (λ c. has_is n.cells c (group_of_cell n.groups c) (right.groups c)) cells in
            let here : kept ≡ cells = sym (same_cells (Ok cells) cells kept refl (rw (all, distinct) at is)) in
            sym (same_cells (Ok (filter (is_among (cells_of_group group n.cells)) cells))
            (filter (is_among (cells_of_group group n.cells)) cells) own refl
            (rw (sym same ∙ all, distinct) at so))
            ∙ sym (some_named n cells name group right (some cells refl)
            (subst (λ (cs : List Cell). IsNamed n cs name) here names))
      ]
    ]

star_named : (n : NetworkCells) (cells kept own : List Cell) (name : Named) (group : ℕ) → n.cells ≡ cells →
    AreGrouped n → cond (eqb (length cells) 0) (Err fault.UnknownCell) (Ok []) ≡ Ok kept →
    if_right (all_of cells) (λ all. Ok (filter (is_among (cells_of_group group cells)) all)) ≡ Ok own →
    IsNamed n kept name → own ≡ named_of n.cells group name
star_named n [] kept own name group these right is so names = absurd (cc is)
star_named n (c ∷ cs) kept own name group these right is so names =
    let none : kept ≡ [] = sym (same_cells (Ok []) [] kept refl (rw (not_none c cs) at is)) in
    sym (same_cells (Ok (filter (is_among (cells_of_group group (c ∷ cs))) (c ∷ cs)))
    (filter (is_among (cells_of_group group (c ∷ cs))) (c ∷ cs)) own refl so)
    ∙ filter_group group (c ∷ cs) (subst (λ (xs : List Cell). are_distinct xs ≡ true) these right.distinct)
    ∙ ap (λ (xs : List Cell). cells_of_group group xs) (sym these)
    ∙ sym (all_named_of n name group (subst (λ (xs : List Cell). IsNamed n xs name) none names))

not_empty : (cells : List Cell) → is_nothing cells ≡ false → cells ≡ [] → ⊥
not_empty [] some is = cc
not_empty (c ∷ cs) some is = cc

field_named : (n : NetworkCells) (field : List ℕ) (kept own : List Cell) (name : Named) (group : ℕ) → AreGrouped n →
    all_field n field ≡ Ok kept → cells_in_group group n.cells field ≡ Ok own → IsNamed n kept name →
    own ≡ named_of n.cells group name
field_named n field kept own name group right is so names = elim (cases_Bool (bytes_eq field (codes "*"))) [
  | inl all ↦ star_named n n.cells kept own name group refl right (rw all at is) (rw all at so) names
  | inr some ↦ judged_named n (cells_listed field) kept own name group right
      (λ cells listed. not_empty cells (listed_some [] field cells listed)) (rw some at is) (rw some at so) names
]

-- a row, as a group reads it
bare_declares : (r : Result Row RowFault) (cell : Cell) → right_by bare_row r ≡ Ok (rows.Declare cell) →
    r ≡ Ok (rows.Declare cell)
bare_declares (Ok (rows.Declare other)) cell is = is
bare_declares (Ok (rows.Give order)) cell is = absurd (cc is)
bare_declares (Err kind) cell is = absurd (cc is)

bare_fault : (r : Result Row RowFault) (kind : RowFault) → right_by bare_row r ≡ Err kind → r ≡ Err kind
bare_fault (Ok meant) kind is = absurd (cc is)
bare_fault (Err other) kind is = is

record Gives (r : Result Row RowFault) (order : Order) : Type 0 where
  pub own : Order
  pub comes : r ≡ Ok (rows.Give own)
  pub same : bare own ≡ bare order

same_order : (r : Result Row RowFault) (a b : Order) → r ≡ Ok (rows.Give a) → r ≡ Ok (rows.Give b) → a ≡ b
same_order r a b one other = cc

bare_gives : (r : Result Row RowFault) (order : Order) → right_by bare_row r ≡ Ok (rows.Give (bare order)) →
    Gives r order
bare_gives (Ok (rows.Declare cell)) order is = absurd (cc is)
bare_gives (Ok (rows.Give own)) order is =
    record { own = own; comes = refl; same = same_order (Ok (rows.Give (bare own))) (bare own) (bare order) refl is }
bare_gives (Err kind) order is = absurd (cc is)

-- the row as a group reads it is the row of the network, but for the cells
group_bare : (kept : AllRowsKept) (group row : ℕ) (fields : List (List ℕ)) → AreGrouped kept.declared →
    right_by bare_row (row_in_group group row (rows_in kept group).cells (rows_in kept group).orders fields)
    ≡ right_by bare_row (all_row row kept.declared kept.orders fields)
group_bare kept group row fields right =
    row_bare group row kept.declared.cells (orders_in kept.declared.cells group kept.orders kept.named) fields
    ∙ ap (λ (os : List Order). bare_meaning row kept.declared.cells os fields)
    (in_bare kept.declared.cells group kept.orders kept.named)
    ∙ sym (all_bare kept.declared row kept.orders fields right)

-- a row that is wrong is wrong for a group
pub fault_in : (kept : AllRowsKept) (group row : ℕ) (fields : List (List ℕ)) (kind : RowFault) →
    AreGrouped kept.declared → all_row row kept.declared kept.orders fields ≡ Err kind →
    row_in_group group row (rows_in kept group).cells (rows_in kept group).orders fields ≡ Err kind
fault_in kept group row fields kind right is =
    bare_fault (row_in_group group row (rows_in kept group).cells (rows_in kept group).orders fields) kind
    (group_bare kept group row fields right ∙ ap (right_by bare_row) is)

declare_in : (kept : AllRowsKept) (group row : ℕ) (fields : List (List ℕ)) (cell : Cell) →
    AreGrouped kept.declared → all_row row kept.declared kept.orders fields ≡ Ok (rows.Declare cell) →
    row_in_group group row (rows_in kept group).cells (rows_in kept group).orders fields ≡ Ok (rows.Declare cell)
declare_in kept group row fields cell right is =
    bare_declares (row_in_group group row (rows_in kept group).cells (rows_in kept group).orders fields) cell
    (group_bare kept group row fields right ∙ ap (right_by bare_row) is)

give_in : (kept : AllRowsKept) (group row : ℕ) (fields : List (List ℕ)) (order : Order) (name : Named) →
    AreGrouped kept.declared → all_row row kept.declared kept.orders fields ≡ Ok (rows.Give order) →
    IsNamed kept.declared (cells_of_action order.action) name →
    row_in_group group row (rows_in kept group).cells (rows_in kept group).orders fields
    ≡ Ok (rows.Give (order_to order (named_of kept.declared.cells group name)))
give_in kept group row fields order name right is names =
    let n = kept.declared in
    let orders = orders_in n.cells group kept.orders kept.named in
    let gives = bare_gives (row_in_group group row n.cells orders fields) order
    (group_bare kept group row fields right ∙ ap (right_by bare_row) is) in
    let mine : all_field n (field_of fields) ≡ Ok (cells_of_action order.action) =
    comes_of row n.cells (all_field n) kept.orders fields (rows.Give order)
    (rw (declares_is n fields right) at is) in
    let own : cells_in_group group n.cells (field_of fields) ≡ Ok (cells_of_action gives.own.action) =
    comes_of row n.cells (cells_in_group group n.cells) orders fields (rows.Give gives.own) gives.comes in
    let cells = field_named n (field_of fields) (cells_of_action order.action) (cells_of_action gives.own.action) name
    group right mine own names in
    gives.comes
    ∙ ap (λ (o : Order). Ok (rows.Give o)) (from_bare gives.own order gives.same
    ∙ ap (order_to order) cells)

-- orders of a group, and one more
in_more : (cells : List Cell) (group : ℕ) (orders : List Order) (all : List Named) (order : Order) (name : Named) →
    length all ≡ length orders →
    orders_in cells group (orders ++ order ∷ []) (all ++ name ∷ [])
    ≡ orders_in cells group orders all ++ order_to order (named_of cells group name) ∷ []
in_more cells group [] [] order name same = refl
in_more cells group [] (x ∷ all) order name same = absurd (omega (arith, same))
in_more cells group (o ∷ os) [] order name same = absurd (omega (arith, same))
in_more cells group (o ∷ os) (x ∷ all) order name same =
    ap (λ (rest : List Order). order_to o (named_of cells group x) ∷ rest)
    (in_more cells group os all order name (omega (arith, same)))

-- and after one more cell
one_more : (cells : List Cell) (cell : Cell) (group : ℕ) (name : Named) → IsDeclared (length cells) name →
    named_of (cells ++ cell ∷ []) group name ≡ named_of cells group name
one_more cells cell group (named.All count) declared =
    ap (λ (cs : List Cell). cells_of_group group cs) (take-append-le count cells (cell ∷ []) declared)
one_more cells cell group (named.Listed shares) declared = refl

in_later : (cells : List Cell) (cell : Cell) (group : ℕ) (orders : List Order) (all : List Named) →
    AreDeclared (length cells) all →
    orders_in (cells ++ cell ∷ []) group orders all ≡ orders_in cells group orders all
in_later cells cell group [] all declared = refl
in_later cells cell group (o ∷ os) [] declared =
    ap (λ (rest : List Order). order_to o [] ∷ rest) (in_later cells cell group os [] tt)
in_later cells cell group (o ∷ os) (name ∷ all) declared =
    rw (one_more cells cell group name declared.0, in_later cells cell group os all declared.1) refl

-- what was declared stays so
still : (n m : ℕ) → n ≤ m → (all : List Named) → AreDeclared n all → AreDeclared m all
still n m more [] declared = tt
still n m more (name ∷ all) declared = (by_name name declared.0, still n m more all declared.1)
  where
    by_name : (x : Named) → IsDeclared n x → IsDeclared m x
    by_name (named.All count) few = omega (arith, few, more)
    by_name (named.Listed shares) few = tt

declared_with : (n : ℕ) (all : List Named) (name : Named) → AreDeclared n all → IsDeclared n name →
    AreDeclared n (all ++ name ∷ [])
declared_with n [] name declared here = (here, tt)
declared_with n (x ∷ all) name declared here = (declared.0, declared_with n all name declared.1 here)

named_declared : (n : NetworkCells) (cells : List Cell) (name : Named) → IsNamed n cells name →
    IsDeclared (length n.cells) name
named_declared n [] (named.All count) is = omega (arith, is)
named_declared n [] (named.Listed shares) is = tt
named_declared n (c ∷ cs) (named.All count) is = absurd is
named_declared n (c ∷ cs) (named.Listed shares) is = tt

-- the groups of cells, after one more
equal_cells : (a b : Cell) → is_cell a b ≡ true → a ≡ b
equal_cells a b same = by_test (eqb a.lac b.lac) (eqb a.ci b.ci) refl refl same
  where
    by_test : (x y : Bool) → eqb a.lac b.lac ≡ x → eqb a.ci b.ci ≡ y → (x && y) ≡ true → a ≡ b
    by_test true true lac ci h =
        ap (λ (n : ℕ). record { lac = n; ci = a.ci }) (eqb-true a.lac b.lac lac)
        ∙ ap (λ (n : ℕ). record { lac = b.lac; ci = n }) (eqb-true a.ci b.ci ci)
    by_test true false lac ci h = absurd (cc h)
    by_test false y lac ci h = absurd (cc h)

same_cell : (x : Cell) → is_cell x x ≡ true
same_cell x = rw (nat_eq_equiv.refl x.lac, nat_eq_equiv.refl x.ci) refl

among_more : (cells : List Cell) (cell other : Cell) →
    is_among (cells ++ cell ∷ []) other ≡ (is_among cells other || is_cell cell other)
among_more cells cell other = sym (declared_more cells cell other (is_among cells other) refl)

with_true : (b : Bool) → (b || true) ≡ true
with_true true = refl
with_true false = refl

with_false : (b : Bool) → (b || false) ≡ b
with_false true = refl
with_false false = refl

-- the part of a group, after one more cell: with it where it is next in the group
group_more : (group : ℕ) (cells : List Cell) (cell : Cell) →
    ((cells_of_group group (cells ++ cell ∷ []) ≡ cells_of_group group cells ++ cell ∷ [])
    × (length cells / 64 ≡ group))
    ⊎ ((cells_of_group group (cells ++ cell ∷ []) ≡ cells_of_group group cells)
    × (length cells / 64 ≡ group → ⊥))
group_more group cells cell =
    elim (cases_Bool (nat_le (64 * group) (length cells))) [
      | inr before ↦
          let few = leb-false (64 * group) (length cells) before in
          inr (part_before (64 * group) 64 cells cell (omega (arith, few)), λ same. omega (arith, same, few))
      | inl from ↦
          let least = leb-true (64 * group) (length cells) from in
          elim (cases_Bool (nat_lt (length cells) (64 * group + 64))) [
            | inl below ↦
                let most = ltb-true (length cells) (64 * group + 64) below in
                inl (part_within (64 * group) 64 cells cell least most, omega (arith, least, most))
            | inr after ↦
                let many = ltb-false (length cells) (64 * group + 64) after in
                inr (part_after (64 * group) 64 cells cell many, λ same. omega (arith, same, many))
          ]
    ]

-- the cell itself has its group
new_right : (cells : List Cell) (cell : Cell) → is_among cells cell ≡ false →
    IsRightGroup (cells ++ cell ∷ []) cell (Some (length cells / 64))
new_right cells cell fresh = (
  among_more cells cell cell ∙ rw (same_cell cell) (with_true (is_among cells cell)),
  λ group. elim (group_more group cells cell) [
    | inl here ↦
        ap (λ (cs : List Cell). is_among cs cell) here.0
        ∙ among_more (cells_of_group group cells) cell cell
        ∙ rw (same_cell cell) (with_true (is_among (cells_of_group group cells) cell))
        ∙ sym (eq-eqb (length cells / 64) group here.1)
    | inr other ↦
        ap (λ (cs : List Cell). is_among cs cell) other.0
        ∙ none_in_group group cells cell fresh
        ∙ sym (not_equal (length cells / 64) group other.1)
  ],
)
  where
    not_equal : (a b : ℕ) → (a ≡ b → ⊥) → eqb a b ≡ false
    not_equal a b different = elim (cases_Bool (eqb a b)) [
      | inl same ↦ absurd (different (eqb-true a b same))
      | inr other ↦ other
    ]

-- and the others keep theirs
old_right : (cells : List Cell) (cell other : Cell) (own : Option ℕ) → is_cell cell other ≡ false →
    IsRightGroup cells other own → IsRightGroup (cells ++ cell ∷ []) other own
old_right cells cell other None differs is =
    among_more cells cell other ∙ rw (differs, is) refl
old_right cells cell other (Some own) differs is = (
  among_more cells cell other ∙ rw (differs, is.0) refl,
  λ group. elim (group_more group cells cell) [
    | inl here ↦
        ap (λ (cs : List Cell). is_among cs other) here.0
        ∙ among_more (cells_of_group group cells) cell other
        ∙ rw differs (with_false (is_among (cells_of_group group cells) other))
        ∙ is.1 group
    | inr past ↦ ap (λ (cs : List Cell). is_among cs other) past.0 ∙ is.1 group
  ],
)

right_more : (cells : List Cell) (cell other : Cell) (own : Option ℕ) → is_among cells cell ≡ false →
    IsRightGroup cells other own →
    IsRightGroup (cells ++ cell ∷ []) other (cond (is_cell cell other) (Some (length cells / 64)) own)
right_more cells cell other own fresh is = elim (cases_Bool (is_cell cell other)) [
  | inl same ↦
      rw same (subst (λ (c : Cell). IsRightGroup (cells ++ cell ∷ []) c (Some (length cells / 64)))
      (equal_cells cell other same) (new_right cells cell fresh))
  | inr differs ↦ rw differs (old_right cells cell other own differs is)
]

grouped_more : (old new : NetworkCells) (cell : Cell) → AreGrouped old → is_among old.cells cell ≡ false →
    HasCellMore old new cell → AreGrouped new
grouped_more old new cell right fresh more = record {
  groups = λ other.
      subst (λ (own : Option ℕ). IsRightGroup new.cells other own) (sym (more.groups other))
      (subst (λ (cs : List Cell). IsRightGroup cs other
      (cond (is_cell cell other) (Some (length old.cells / 64)) (group_of_cell old.groups other))) (sym more.cells)
      (right_more old.cells cell other (group_of_cell old.groups other) fresh (right.groups other)));
  distinct = subst (λ (cs : List Cell). are_distinct cs ≡ true) (sym more.cells)
      (distinct_push old.cells cell right.distinct fresh);
}

-- one more row, as a group reads it
pub record IsReadIn (old new : AllRowsKept) (row : ℕ) (fields : List (List ℕ)) (group : ℕ) : Type 0 where
  pub meant : Row
  pub right : row_in_group group row (rows_in old group).cells (rows_in old group).orders fields ≡ Ok meant
  pub next : rows_in new group ≡ with_row (rows_in old group) meant

declared_next : (old new : AllRowsKept) (group : ℕ) (cell : Cell) → AreRightlyKept old →
    IsAllMore old new (rows.Declare cell) →
    rows_in new group ≡ with_row (rows_in old group) (rows.Declare cell)
declared_next old new group cell kept more =
    rw (more.0.cells, more.1, more.2)
    (ap (rows_with (old.declared.cells ++ cell ∷ []))
    (in_later old.declared.cells cell group old.orders old.named kept.named))

given_next : (old new : AllRowsKept) (group : ℕ) (order : Order) → AreRightlyKept old →
    (more : IsAllMore old new (rows.Give order)) →
    rows_in new group ≡ with_row (rows_in old group)
    (rows.Give (order_to order (named_of old.declared.cells group more.0)))
given_next old new group order kept (name, names, same, orders, all) =
    rw (same, orders, all)
    (ap (rows_with old.declared.cells)
    (in_more old.declared.cells group old.orders old.named (order_to order []) name kept.as_many
    ∙ rw (twice order [] (named_of old.declared.cells group name)) refl))

-- a row that is read once is one row more for each group
pub read_next : (old new : AllRowsKept) (row : ℕ) (fields : List (List ℕ)) (meant : Row) → AreRightlyKept old →
    all_row row old.declared old.orders fields ≡ Ok meant → IsAllMore old new meant → (group : ℕ) →
    IsReadIn old new row fields group
read_next old new row fields (rows.Declare cell) kept is more group = record {
  meant = rows.Declare cell;
  right = declare_in old group row fields cell kept.grouped is;
  next = declared_next old new group cell kept more;
}
read_next old new row fields (rows.Give order) kept is more group = record {
  meant = rows.Give (order_to order (named_of old.declared.cells group more.0));
  right = give_in old group row fields order more.0 kept.grouped is more.1;
  next = given_next old new group order kept more;
}

-- and what is kept still fits together
pub kept_next : (old new : AllRowsKept) (row : ℕ) (fields : List (List ℕ)) (meant : Row) → AreRightlyKept old →
    all_row row old.declared old.orders fields ≡ Ok meant → IsAllMore old new meant → AreRightlyKept new
kept_next old new row fields (rows.Declare cell) kept is more =
    let fresh = declares_new 0 row old.declared.cells (rows_in old 0).orders fields cell
    (declare_in old 0 row fields cell kept.grouped is) in
    let room = new_parts 65536 old.declared.cells cell fresh in
    let few = leb-false 65536 (length old.declared.cells) room.0 in
    let one : length new.declared.cells ≡ length old.declared.cells + 1 =
    ap (λ (cs : List Cell). length cs) more.0.cells ∙ simp length-append (omega arith) in
    record {
      grouped = grouped_more old.declared new.declared cell kept.grouped room.1 more.0;
      named = subst (AreDeclared (length new.declared.cells)) (sym more.2)
          (still (length old.declared.cells) (length new.declared.cells) (omega (arith, one)) old.named kept.named);
      as_many = rw (more.1, more.2) kept.as_many;
      few_cells = omega (arith, few, one);
      few = rw more.1 kept.few;
    }
kept_next old new row fields (rows.Give order) kept is (name, names, same, orders, all) =
    let gives = give_in old 0 row fields order name kept.grouped is names in
    let few = gives_few 0 row old.declared.cells (rows_in old 0).orders fields
    (order_to order (named_of old.declared.cells 0 name)) gives in
    let many = in_length old.declared.cells 0 old.orders old.named in
    let one : length new.orders ≡ length old.orders + 1 =
    ap (λ (os : List Order). length os) orders ∙ simp length-append (omega arith) in
    let other : length new.named ≡ length old.named + 1 =
    ap (λ (ns : List Named). length ns) all ∙ simp length-append (omega arith) in
    record {
      grouped = subst AreGrouped (sym same) kept.grouped;
      named = subst (λ (n : NetworkCells). AreDeclared (length n.cells) new.named) (sym same)
          (subst (AreDeclared (length old.declared.cells)) (sym all)
          (declared_with (length old.declared.cells) old.named name kept.named
          (named_declared old.declared (cells_of_action order.action) name names)));
      as_many = omega (arith, one, other, kept.as_many);
      few_cells = subst (λ (n : NetworkCells). length n.cells ≤ 65536) (sym same) kept.few_cells;
      few = omega (arith, one, few, many);
    }

-- the pages of a network's orders are those of each group's
pub pages_in : (cells : List Cell) (group : ℕ) (orders : List Order) (all : List Named) (pages : List (Option Paged)) →
    HavePages orders pages → HavePages (orders_in cells group orders all) pages
pages_in cells group orders all pages have =
    (pages_bare (orders_in cells group orders all) pages).1
    (subst (λ (os : List Order). HavePages os pages) (sym (in_bare cells group orders all))
    ((pages_bare orders pages).0 have))

-- and so is a text that can't be sent
record SendsLike (order : Order) (sending : Sending) : Type 0 where
  pub own : Sending
  pub sent : sending_of order.action ≡ Some own
  pub language : own.language ≡ sending.language
  pub text : own.text ≡ sending.text

same_sending : (s : Option Sending) (a b : Sending) → s ≡ Some a → s ≡ Some b → a ≡ b
same_sending s a b one other = cc

sends_like : (order : Order) (sending : Sending) → sending_of (bare order).action ≡ Some sending →
    SendsLike order sending
sends_like order sending is = by_action order.action refl is
  where
    by_action : (a : Action) → order.action ≡ a → sending_of (bare_action a) ≡ Some sending → SendsLike order sending
    by_action (action.Write s) so sends =
        let same = same_sending (Some (sending_to s [])) (sending_to s []) sending refl sends in record {
          own = s;
          sent = rw so refl;
          language = ap (λ (x : Sending). x.language) same;
          text = ap (λ (x : Sending). x.text) same;
        }
    by_action (action.Update update s) so sends =
        let same = same_sending (Some (sending_to s [])) (sending_to s []) sending refl sends in record {
          own = s;
          sent = rw so refl;
          language = ap (λ (x : Sending). x.language) same;
          text = ap (λ (x : Sending). x.text) same;
        }
    by_action (action.Stop cells) so sends = absurd (cc sends)

head_is : (xs ys : List Order) (x y : Order) → x ∷ xs ≡ y ∷ ys → x ≡ y
head_is xs ys x y is = cc

tail_is : (xs ys : List Order) (x y : Order) → x ∷ xs ≡ y ∷ ys → xs ≡ ys
tail_is xs ys x y is = cc

-- where those of bare orders can't, the same of these can't
pub wrong_by : (orders before after : List Order) (x : Order) (sending : Sending) (why : TextFault) (f : BookFault)
    (pages : List (Option Paged)) → map bare orders ≡ before ++ x ∷ after → HavePages before pages →
    sending_of x.action ≡ Some sending → IsTextFault sending.language (chars sending.text) why → why ≢ text.Refused →
    f ≡ fault_at x.row (kinds.Text why) → HasWrongText orders f
wrong_by [] [] after x sending why f pages split have sent wrong told names = absurd (cc split)
wrong_by [] (b ∷ before) after x sending why f pages split have sent wrong told names = absurd (cc split)
wrong_by (o ∷ os) [] after x sending why f pages split have sent wrong told names =
    let same : x ≡ bare o = sym (head_is (map bare os) after (bare o) x split) in
    let like = sends_like o sending (subst (λ (y : Order). sending_of y.action ≡ Some sending) same sent) in
    record {
      before = [];
      order = o;
      after = os;
      split = refl;
      pages = [];
      paged = tt;
      sending = like.own;
      sent = like.sent;
      why = why;
      wrong = rw (like.language, like.text) wrong;
      told = told;
      named = names ∙ ap (λ (y : Order). fault_at y.row (kinds.Text why)) same;
    }
wrong_by (o ∷ os) (b ∷ before) after x sending why f [] split have sent wrong told names = absurd have
wrong_by (o ∷ os) (b ∷ before) after x sending why f (p ∷ pages) split have sent wrong told names =
    let same : b ≡ bare o = sym (head_is (map bare os) (before ++ x ∷ after) (bare o) b split) in
    let here : ArePagesOf (sending_of o.action) p =
    ((pages_bare (o ∷ []) (p ∷ [])).1
    (subst (λ (y : Order). ArePagesOf (sending_of y.action) p) same have.0, tt)).0 in
    wrong_later o os p f here
    (wrong_by os before after x sending why f pages (tail_is (map bare os) (before ++ x ∷ after) (bare o) b split)
    have.1
    sent wrong told names)

-- a text of the network that can't be sent is one of each group's orders
pub wrong_in : (cells : List Cell) (group : ℕ) (orders : List Order) (all : List Named) (f : BookFault) →
    HasWrongText orders f → HasWrongText (orders_in cells group orders all) f
wrong_in cells group orders all f wrong =
    let w = subst (λ (os : List Order). HasWrongText os f) (sym (in_bare cells group orders all))
    (wrong_bare orders f wrong) in
    wrong_by (orders_in cells group orders all) w.before w.after w.order w.sending w.why f w.pages w.split w.paged
    w.sent
    w.wrong w.told w.named

-- one order more that is for some cells of a group, with its pages
pub in_step : (cells : List Cell) (group : ℕ) (orders : List Order) (all : List Named) (i : ℕ) (o : Order)
    (name : Named) →
    i < length orders → length all ≡ length orders →
    filter has_cells (orders_in cells group (take (i + 1) orders) (take (i + 1) all))
    ≡ filter has_cells (orders_in cells group (take i orders) (take i all))
    ++ filter has_cells (order_to (get_or orders i o) (named_of cells group (get_or all i name)) ∷ [])
in_step cells group orders all i o name within same =
    let few : i < length all = omega (arith, within, same) in
    let own = length-take-le i orders (omega (arith, within)) in
    let other = length-take-le i all (omega (arith, few)) in
    rw (take_more orders i o within, take_more all i name few)
    (ap (filter has_cells) (in_more cells group (take i orders) (take i all) (get_or orders i o) (get_or all i name)
    (omega (arith, own, other)))
    ∙ filter-append has_cells (orders_in cells group (take i orders) (take i all))
    (order_to (get_or orders i o) (named_of cells group (get_or all i name)) ∷ []))

-- the pages at a place
pub pages_at : (orders : List Order) (pages : List (Option Paged)) (i : ℕ) (o : Order) (p : Option Paged) →
    i < length orders → HavePages orders pages → ArePagesOf (sending_of (get_or orders i o).action) (get_or pages i p)
pages_at [] pages i o p within have = absurd (omega (arith, within))
pages_at (x ∷ orders) [] i o p within have = absurd have
pages_at (x ∷ orders) (paged ∷ pages) zero o p within have = have.0
pages_at (x ∷ orders) (paged ∷ pages) (suc i) o p within have =
    pages_at orders pages i o p (omega (arith, within)) have.1

-- and one more
pub pages_with : (orders : List Order) (pages : List (Option Paged)) (o : Order) (p : Option Paged) →
    HavePages orders pages → ArePagesOf (sending_of o.action) p → HavePages (orders ++ o ∷ []) (pages ++ p ∷ [])
pages_with [] [] o p have here = (here, tt)
pages_with [] (paged ∷ pages) o p have here = absurd have
pages_with (x ∷ orders) [] o p have here = absurd have
pages_with (x ∷ orders) (paged ∷ pages) o p have here = (have.0, pages_with orders pages o p have.1 here)

-- an order for other cells has the same text
pub sent_to : (o : Order) (cells : List Cell) (p : Option Paged) → ArePagesOf (sending_of o.action) p →
    ArePagesOf (sending_of (order_to o cells).action) p
sent_to o cells p = by_action o.action p
  where
    by_action : (a : Action) (q : Option Paged) → ArePagesOf (sending_of a) q →
        ArePagesOf (sending_of (action_to a cells)) q
    by_action (action.Write sending) None are = are
    by_action (action.Write sending) (Some q) are = are
    by_action (action.Update update sending) None are = are
    by_action (action.Update update sending) (Some q) are = are
    by_action (action.Stop others) None are = are
    by_action (action.Stop others) (Some q) are = are

-- and a serial number
pub sendable_to : (o : Order) (cells : List Cell) → IsSendable o → IsSendable (order_to o cells)
sendable_to o cells is = record { alert = is.alert; version = by_action o.action is.version }
  where
    by_action : (a : Action) → HasVersion a → HasVersion (action_to a cells)
    by_action (action.Write sending) has = has
    by_action (action.Update update sending) has = has
    by_action (action.Stop others) has = has

-- the orders of a group have serial numbers where those of the network do
pub sendable_in : (cells : List Cell) (group : ℕ) (orders : List Order) (all : List Named) → All IsSendable orders →
    All IsSendable (orders_in cells group orders all)
sendable_in cells group [] all are = All-nil IsSendable
sendable_in cells group (o ∷ os) [] are =
    All-cons IsSendable (order_to o []) (orders_in cells group os [])
    (sendable_to o [] (All-head IsSendable o os are)) (sendable_in cells group os [] (All-tail IsSendable o os are))
sendable_in cells group (o ∷ os) (name ∷ all) are =
    All-cons IsSendable (order_to o (named_of cells group name)) (orders_in cells group os all)
    (sendable_to o (named_of cells group name) (All-head IsSendable o os are))
    (sendable_in cells group os all (All-tail IsSendable o os are))

-- a place for the cells of a group that has none
pub no_cells_more : (shares new : List (List Cell)) (none : List Cell) (group : ℕ) → none ≡ [] →
    new ≡ shares ++ none ∷ [] → get_or new group [] ≡ get_or shares group []
no_cells_more shares new none group empty is = rw (is, empty) (by_place shares group)
  where
    by_place : (xs : List (List Cell)) (i : ℕ) → get_or (xs ++ [] ∷ []) i [] ≡ get_or xs i []
    by_place [] zero = refl
    by_place [] (suc i) = refl
    by_place (x ∷ xs) zero = refl
    by_place (x ∷ xs) (suc i) = by_place xs i

-- the cells of a group among one more
pub share_more : (groups : List (Pair × ℕ)) (group : ℕ) (cells : List Cell) (i : ℕ) (d : Cell) (own : Option ℕ)
    (old new : List Cell) → i < length cells → group_of_cell groups (get_or cells i d) ≡ own →
    old ≡ filter (is_placed groups group) (take i cells) →
    new ≡ old ++ cond (is_this own group) (get_or cells i d ∷ []) [] →
    new ≡ filter (is_placed groups group) (take (i + 1) cells)
share_more groups group cells i d own old new within found before more =
    more
    ∙ rw (before, ← found)
    (ap (λ (xs : List Cell). filter (is_placed groups group) (take i cells) ++ xs)
    (sym (only (is_placed groups group) (get_or cells i d))))
    ∙ sym (ap (filter (is_placed groups group)) (take_more cells i d within)
    ∙ filter-append (is_placed groups group) (take i cells) (get_or cells i d ∷ []))
  where
    only : (p : Cell → Bool) (c : Cell) → filter p (c ∷ []) ≡ cond (p c) (c ∷ []) []
    only p c = by_test (p c)
      where
        by_test : (test : Bool) → cond test (c ∷ filter p []) (filter p []) ≡ cond test (c ∷ []) []
        by_test true = refl
        by_test false = refl

-- the orders of a group among one more
pub in_next : (cells : List Cell) (group : ℕ) (orders : List Order) (all : List Named) (i : ℕ) (o : Order)
    (name : Named)
    (part : List Cell) (own new : List Order) → i < length orders → length all ≡ length orders →
    o ≡ get_or orders i o → name ≡ get_or all i name → part ≡ named_of cells group name →
    own ≡ filter has_cells (orders_in cells group (take i orders) (take i all)) →
    new ≡ own ++ filter has_cells (order_to o part ∷ []) →
    new ≡ filter has_cells (orders_in cells group (take (i + 1) orders) (take (i + 1) all))
in_next cells group orders all i o name part own new within same order_is name_is part_is before more =
    let front = filter has_cells (orders_in cells group (take i orders) (take i all)) in
    more
    ∙ ap (λ (os : List Order). os ++ filter has_cells (order_to o part ∷ [])) before
    ∙ ap (λ (cs : List Cell). front ++ filter has_cells (order_to o cs ∷ [])) part_is
    ∙ ap (λ (x : Order). front ++ filter has_cells (order_to x (named_of cells group name) ∷ [])) order_is
    ∙ ap (λ (x : Named). front ++ filter has_cells (order_to (get_or orders i o) (named_of cells group x) ∷ [])) name_is
    ∙ sym (in_step cells group orders all i o name within same)

-- a group has its book
pub group_book : (network shown : NetworkRows) (group : ℕ) (input : List ℕ) (book : Contents) → shown ≡ network →
    MeansNetwork input network → group < groups_of (length network.cells) →
    book.cells ≡ cells_of_group group shown.cells →
    book.orders ≡ filter has_cells (orders_in shown.cells group shown.orders shown.named) →
    HavePages book.orders book.pages → IsGroupBook group input book
group_book network shown group input book same means there cells orders paged = record {
  rows = read_in group network;
  network = means group;
  there = there;
  cells = cells ∙ ap (λ (n : NetworkRows). cells_of_group group n.cells) same;
  orders = orders ∙ ap (λ (n : NetworkRows). filter has_cells (orders_in n.cells group n.orders n.named)) same;
  paged = paged;
}

-- before the first row there are none
pub none_in : (kept : AllRowsKept) (group : ℕ) → kept.declared.cells ≡ [] → kept.orders ≡ [] →
    rows_in kept group ≡ rows_with [] []
none_in kept group cells orders = rw (cells, orders) refl

-- each row declares a cell or gives an order
pub number_next : (old new : AllRowsKept) (meant : Row) (row : ℕ) → IsAllMore old new meant →
    row ≡ length old.declared.cells + length old.orders →
    row + 1 ≡ length new.declared.cells + length new.orders
number_next old new (rows.Declare cell) row more is =
    let cells : length new.declared.cells ≡ length old.declared.cells + 1 =
    ap (λ (cs : List Cell). length cs) more.0.cells ∙ simp length-append (omega arith) in
    let orders : length new.orders ≡ length old.orders = ap (λ (os : List Order). length os) more.1 in
    omega (arith, is, cells, orders)
number_next old new (rows.Give order) row (name, names, same, orders, all) is =
    let cells : length new.declared.cells ≡ length old.declared.cells =
    ap (λ (n : NetworkCells). length n.cells) same in
    let one : length new.orders ≡ length old.orders + 1 =
    ap (λ (os : List Order). length os) orders ∙ simp length-append (omega arith) in
    omega (arith, is, cells, one)

-- the fault of a text is one of the network book
text_fault_in : (kept : AllRowsKept) (input : List ℕ) (shown : List Order) (f : BookFault) → shown ≡ kept.orders →
    AreRowsOfAll kept input → length input ≤ 67108864 → (f ≡ refused) ⊎ HasWrongText shown f →
    IsNoNetworkBook 0 input f
text_fault_in kept input shown f same are bounded (inl out) = inl out
text_fault_in kept input shown f same are bounded (inr wrong) = inr (inr (
  bounded,
  inr record {
    rows = rows_in kept 0;
    meant = are.meant 0;
    wrong = wrong_in kept.declared.cells 0 kept.orders kept.named f
        (subst (λ (os : List Order). HasWrongText os f) same wrong);
  },
))

-- so a network that isn't read for a text's fault is no network book
pub text_faults_in : {A : Type 0} (kept : AllRowsKept) (input : List ℕ) (shown : List Order) (r : Result A BookFault)
    (f : BookFault) → r ≡ Err f → shown ≡ kept.orders → AreRowsOfAll kept input → length input ≤ 67108864 →
    (f ≡ refused) ⊎ HasWrongText shown f → IfErr r (IsNoNetworkBook 0 input)
text_faults_in kept input shown (Ok x) f is same are bounded wrong = tt
text_faults_in kept input shown (Err other) f is same are bounded wrong =
    subst (IsNoNetworkBook 0 input) (sym (same_fault (Err other) other f refl is))
    (text_fault_in kept input shown f same are bounded wrong)
  where
    same_fault : {A : Type 0} (r : Result A BookFault) (a b : BookFault) → r ≡ Err a → r ≡ Err b → a ≡ b
    same_fault r a b one two = cc

-- what is kept of all rows, with the pages of the orders, is what the octets mean
pub network_means : (kept : AllRowsKept) (input : List ℕ) (network : NetworkRows) (pages : List (Option Paged)) →
    network.cells ≡ kept.declared.cells → network.orders ≡ kept.orders → network.named ≡ kept.named →
    AreRowsOfAll kept input → length input ≤ 67108864 → HavePages kept.orders pages → MeansNetwork input network
network_means kept input network pages cells orders all are bounded have group =
    let same : read_in group network ≡ rows_in kept group = rw (cells, orders, all) refl in
    subst (IsNetwork group input) (sym same) (record {
      bounded = bounded;
      meant = are.meant group;
      pages = pages;
      paged = pages_in kept.declared.cells group kept.orders kept.named pages have;
    })
