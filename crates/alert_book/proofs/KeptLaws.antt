-- What is kept of a network's cells, and what rows mean by it.
use Rattle.std.proofs.Common.{◌≡◌, ℕ, ◌+◌, ◌*◌, ◌<◌, ◌≤◌, ◌&&◌, ◌||◌, Bool, true, false, cond, not, ◌∙◌}
use Rattle.std.proofs.Common.{List, [], ◌∷◌, ◌++◌, append_assoc, length, filter, get_or, take, drop, refl, subst, sym}
use Rattle.std.proofs.Common.{ap, arith, inl, inr, codes}
use Rattle.std.proofs.Common.{nat_le, nat_lt, eqb, eqb-true, Result, Ok, Err, Option, Some, None, length-append}
use Rattle.std.specs.List.{list_all, list_any}
use Rattle.std.specs.Str.{bytes_eq}
use Rattle.std.proofs.lemmas.Bool.{cases_Bool, leb-false, leb-true, ltb-false, ltb-true}
use Rattle.std.proofs.lemmas.List.Folds.{list_any-append}
use Rattle.cbsp_wire.specs.declared.message.Cell.{Cell}
use Rattle.cbsp_wire.specs.Range.{are_distinct, is_cell}
use Rattle.alert_book.specs.declared.fault.RowFault.{RowFault}
use Rattle.alert_book.specs.declared.fault.RowFault.TheVariants as fault
use Rattle.alert_book.specs.declared.book.order.Order.{Order}
use Rattle.alert_book.specs.declared.book.row.Row.{Row}
use Rattle.alert_book.specs.declared.book.row.Row.TheVariants as rows
use Rattle.alert_book.specs.declared.book.row.Verb.{Verb}
use Rattle.alert_book.specs.declared.book.row.Verb.TheVariants as verbs
use Rattle.alert_book.specs.declared.network.group_cells.GroupCells.{GroupCells}
use Rattle.cbs_page.specs.declared.paging.Paged.{Paged}
use Rattle.alert_book.specs.Book.{with_row, HavePages, Rows}
use Rattle.alert_book.specs.CellPairs.{has_cell, Pair}
use Rattle.alert_book.specs.Cells.{all_of, cell_with, cells_judged, cells_listed, is_among}
use Rattle.alert_book.specs.Fields.{are_texts, column, if_right, number}
use Rattle.alert_book.specs.Network.{cells_in_group, cells_of_group, declares_cell, has_cells, row_in_group}
use Rattle.alert_book.specs.NetworkSteps.{kept_all, kept_declares, kept_field, kept_judged, kept_row}
use Rattle.alert_book.specs.NetworkSteps.{is_kept_at, pages_kept, AreKeptAfter, AreKeptOf, AreSeen, HasMore, IsKeptMore}
use Rattle.alert_book.specs.NetworkSteps.{IsKeptOf, RowsKept}
use Rattle.alert_book.specs.Row.{cell_row_within, new_cell, row_after_verb_by, verb_of}
use Rattle.alert_book.specs.Row.{FieldCells}
use Rattle.alert_book.proofs.FewRows.{distinct_push, either_new, fault_never, never_new, new_parts, verb_new}
use Rattle.alert_book.proofs.FewRows.{DeclaresNew}
use Rattle.std.proofs.lemmas.List.{take-append-drop, take_more}
use Rattle.alert_book.proofs.GroupLaws.{filter_group, part_after, part_before, part_within}

-- a field of cells
all_same : (p q : Cell → Bool) → ((c : Cell) → p c ≡ q c) → (cells : List Cell) → list_all p cells ≡ list_all q cells
all_same p q same [] = refl
all_same p q same (c ∷ cs) = rw (same c, all_same p q same cs) refl

all_is : (g : GroupCells) (group : ℕ) (cells : List Cell) → IsKeptOf g group cells →
    kept_all g ≡ if_right (all_of cells) (λ all. Ok (filter (is_among (cells_of_group group cells)) all))
all_is g group [] kept = rw kept.count refl
all_is g group (c ∷ cs) kept = elim (cases_Bool (eqb g.count 0)) [
  | inl zero ↦ absurd (omega (arith, eqb-true g.count 0 zero, kept.count))
  | inr some ↦ rw (some, kept.own, filter_group group (c ∷ cs) kept.distinct) refl
]

judged_is : (g : GroupCells) (group : ℕ) (cells : List Cell) (listed : Option (List Cell)) → IsKeptOf g group cells →
    kept_judged g listed
    ≡ if_right (cells_judged cells listed) (λ all. Ok (filter (is_among (cells_of_group group cells)) all))
judged_is g group cells None kept = refl
judged_is g group cells (Some listed) kept =
    let same = all_same (has_cell g.declared) (is_among cells) kept.declared listed in
    elim (cases_Bool (list_all (is_among cells) listed)) [
      | inr other ↦ rw (same, other) refl
      | inl all ↦ elim (cases_Bool (are_distinct listed)) [
        | inr twice ↦ rw (same, all, twice) refl
        | inl distinct ↦ rw (same, all, distinct, kept.own) refl
      ]
    ]

-- by the cells that are kept a field comes to what it comes to in the group
pub field_is : (g : GroupCells) (group : ℕ) (cells : List Cell) → IsKeptOf g group cells → (field : List ℕ) →
    kept_field g field ≡ cells_in_group group cells field
field_is g group cells kept field = elim (cases_Bool (bytes_eq field (codes "*"))) [
  | inl all ↦ rw all (all_is g group cells kept)
  | inr some ↦ rw some (judged_is g group cells (cells_listed field) kept)
]

-- a row that declares a cell
declares_is : (g : GroupCells) (group : ℕ) (cells : List Cell) (fields : List (List ℕ)) → IsKeptOf g group cells →
    kept_declares g fields ≡ cell_row_within 65536 cells fields
declares_is g group cells fields kept =
    rw (kept.count) (by_room (nat_le 65536 (length cells)))
  where
    by_numbers : (lac ci : Result ℕ RowFault) →
        if_right lac (λ l. if_right ci (λ c. cond (has_cell g.declared (cell_with l c)) (Err fault.TwiceNamed)
        (Ok (rows.Declare (cell_with l c)))))
        ≡ if_right lac (λ l. if_right ci (λ c. new_cell cells (cell_with l c)))
    by_numbers (Err kind) ci = refl
    by_numbers (Ok l) (Err kind) = refl
    by_numbers (Ok l) (Ok c) = rw (kept.declared (cell_with l c)) refl

    by_room : (full : Bool) →
        cond full (Err fault.TooManyRows)
        (if_right (number 0 65535 (column fields 1)) (λ l. if_right (number 0 65535 (column fields 2)) (λ c.
        cond (has_cell g.declared (cell_with l c)) (Err fault.TwiceNamed) (Ok (rows.Declare (cell_with l c))))))
        ≡ cond full (Err fault.TooManyRows)
        (if_right (number 0 65535 (column fields 1)) (λ l. if_right (number 0 65535 (column fields 2)) (λ c.
        new_cell cells (cell_with l c))))
    by_room true = refl
    by_room false = by_numbers (number 0 65535 (column fields 1)) (number 0 65535 (column fields 2))

-- rows by fields of cells that come to the same
pub rows_same : (verb : Option Verb) (declares : Result Row RowFault) (row : ℕ) (f g : FieldCells) (orders : List Order)
    (fields : List (List ℕ)) → ((field : List ℕ) → f field ≡ g field) →
    row_after_verb_by verb declares row f orders fields ≡ row_after_verb_by verb declares row g orders fields
rows_same None declares row f g orders fields same = refl
rows_same (Some verbs.Cell) declares row f g orders fields same = refl
rows_same (Some verbs.Write) declares row f g orders fields same = rw (same (column fields 10)) refl
rows_same (Some verbs.Update) declares row f g orders fields same = rw (same (column fields 7)) refl
rows_same (Some verbs.Stop) declares row f g orders fields same = rw (same (column fields 3)) refl

-- and a row means what it means in the group
pub row_is : (g : GroupCells) (group : ℕ) (cells : List Cell) (row : ℕ) (orders : List Order)
    (fields : List (List ℕ)) → IsKeptOf g group cells →
    kept_row row g orders fields ≡ row_in_group group row cells orders fields
row_is g group cells row orders fields kept =
    rw (
      declares_is g group cells fields kept,
      rows_same (verb_of (column fields 0))
          (cell_row_within 65536 cells fields) row (kept_field g) (cells_in_group group cells) orders fields
          (field_is g group cells kept),
    ) refl

-- one more cell
cells_more : (old new : GroupCells) (group : ℕ) (cells : List Cell) (cell : Cell) → IsKeptOf old group cells →
    HasMore old new cell → new.cells ≡ cells_of_group group (cells ++ cell ∷ [])
cells_more old new group cells cell kept more =
    more.cells ∙ by_from (nat_le (64 * old.group) old.count) (nat_lt old.count (64 * old.group + 64)) refl refl
  where
    by_from : (from below : Bool) → nat_le (64 * old.group) old.count ≡ from →
        nat_lt old.count (64 * old.group + 64) ≡ below →
        cond (from && below) (old.cells ++ cell ∷ []) old.cells ≡ cells_of_group group (cells ++ cell ∷ [])
    by_from true true from below =
        let least = leb-true (64 * old.group) old.count from in
        let most = ltb-true old.count (64 * old.group + 64) below in
        ap (λ (cs : List Cell). cs ++ cell ∷ []) kept.own
        ∙ sym (part_within (64 * group) 64 cells cell (omega (arith, least, kept.count, kept.of_group))
        (omega (arith, most, kept.count, kept.of_group)))
    by_from true false from below =
        let most = ltb-false old.count (64 * old.group + 64) below in
        kept.own ∙ sym (part_after (64 * group) 64 cells cell (omega (arith, most, kept.count, kept.of_group)))
    by_from false below from is =
        let least = leb-false (64 * old.group) old.count from in
        kept.own ∙ sym (part_before (64 * group) 64 cells cell (omega (arith, least, kept.count, kept.of_group)))

-- a cell is among some and one more if it is among them, or is that one
pub declared_more : (cells : List Cell) (cell other : Cell) (before : Bool) → before ≡ is_among cells other →
    (before || is_cell cell other) ≡ is_among (cells ++ cell ∷ []) other
declared_more cells cell other before is =
    rw is (ap (λ (b : Bool). is_among cells other || b) (sym (or_false (is_cell cell other))))
    ∙ sym (list_any-append (λ (c : Cell). is_cell c other) cells (cell ∷ []))
  where
    or_false : (b : Bool) → (b || false) ≡ b
    or_false true = refl
    or_false false = refl

-- one cell more is kept as the group wants it
pub kept_more : (old new : GroupCells) (group : ℕ) (cells : List Cell) (cell : Cell) → IsKeptOf old group cells →
    is_among cells cell ≡ false → HasMore old new cell → IsKeptOf new group (cells ++ cell ∷ [])
kept_more old new group cells cell kept fresh more = record {
  of_group = more.group ∙ kept.of_group;
  count = more.count ∙ simp length-append (omega (arith, kept.count));
  own = cells_more old new group cells cell kept more;
  declared = λ other. more.declared other
      ∙ declared_more cells cell other (has_cell old.declared other) (kept.declared other);
  distinct = distinct_push cells cell kept.distinct fresh;
}

-- a row declares a cell that is new, where there is room for one
pub declares_new : (group row : ℕ) (cells : List Cell) (orders : List Order) (fields : List (List ℕ)) →
    DeclaresNew 65536 cells (row_in_group group row cells orders fields)
declares_new group row cells orders fields =
    either_new 65536 cells (not (declares_cell fields) && nat_le 4096 (length orders)) _ _
    (never_new 65536 cells _ (fault_never fault.TooManyRows))
    (either_new 65536 cells (not (are_texts fields)) _ _ (never_new 65536 cells _ (fault_never fault.Columns))
    (verb_new 65536 (verb_of (column fields 0)) row cells (cells_in_group group cells) orders fields))

-- and gives an order where there is room for one
abbrev pub NeverGives : Result Row RowFault → Type 0
NeverGives r = (order : Order) → r ≡ Ok (rows.Give order) → ⊥

-- a fault gives no order
pub no_gift : (kind : RowFault) → NeverGives (Err kind)
no_gift kind order is = cc

-- what gives none either way gives none
pub either_gives : (test : Bool) (a b : Result Row RowFault) → NeverGives a → NeverGives b → NeverGives (cond test a b)
either_gives true a b first second = first
either_gives false a b first second = second

right_gives_none : {A : Type 0} (r : Result A RowFault) (next : A → Result Row RowFault) →
    ((value : A) → NeverGives (next value)) → NeverGives (if_right r next)
right_gives_none {A} (Ok value) next never order is = never value order is
right_gives_none {A} (Err kind) next never order is = cc

declared_gives : (cell : Cell) → NeverGives (Ok (rows.Declare cell))
declared_gives cell order is = cc

-- a row that declares a cell gives none
pub cell_row_gives : (most : ℕ) (cells : List Cell) (fields : List (List ℕ)) →
    NeverGives (cell_row_within most cells fields)
cell_row_gives most cells fields =
    either_gives (nat_le most (length cells)) _ _ (no_gift fault.TooManyRows)
    (right_gives_none (number 0 65535 (column fields 1)) _ (λ lac.
    right_gives_none (number 0 65535 (column fields 2)) _ (λ ci.
    either_gives (is_among cells (cell_with lac ci)) _ _ (no_gift fault.TwiceNamed)
    (declared_gives (cell_with lac ci)))))

-- the word of such a row is its verb
pub cell_verb : (word : List ℕ) → bytes_eq word (codes "cell") ≡ true → verb_of word ≡ Some verbs.Cell
unfolding verb_of
cell_verb word is = rw is refl

-- a row that gives an order comes after fewer than 4,096 of them
pub gives_few : (group row : ℕ) (cells : List Cell) (orders : List Order) (fields : List (List ℕ)) (order : Order) →
    row_in_group group row cells orders fields ≡ Ok (rows.Give order) → length orders < 4096
gives_few group row cells orders fields order is = elim (cases_Bool (declares_cell fields)) [
  | inl cell ↦ absurd (either_gives (not (are_texts fields)) _ _ (no_gift fault.Columns)
      (either_gives (eqb (length fields) 3) _ _ (cell_row_gives 65536 cells fields) (no_gift fault.Columns)) order
      (rw (cell, cell_verb (column fields 0) cell) at is))
  | inr other ↦ elim (cases_Bool (nat_le 4096 (length orders))) [
    | inl many ↦ absurd (no_gift fault.TooManyRows order (rw (other, many) at is))
    | inr few ↦ omega (arith, leb-false 4096 (length orders) few)
  ]
]

-- a cell is the one that was added, or was there
pub either_cell : (here there : Bool) → cond here true there ≡ (there || here)
either_cell true true = refl
either_cell true false = refl
either_cell false true = refl
either_cell false false = refl

-- each row declares a cell or gives an order
pub row_more : (before : Rows) (meant : Row) (row : ℕ) → row ≡ length before.cells + length before.orders →
    row + 1 ≡ length (with_row before meant).cells + length (with_row before meant).orders
row_more before (rows.Declare cell) row is = simp length-append (omega (arith, is))
row_more before (rows.Give order) row is = simp length-append (omega (arith, is))

-- what is kept is kept after one more row
pub kept_after : (old new : RowsKept) (group : ℕ) (before : Rows) (row : ℕ) (fields : List (List ℕ)) (meant : Row) →
    AreKeptOf old group before → kept_row row old.declared old.orders fields ≡ Ok meant → IsKeptMore old new meant →
    AreKeptAfter row fields new group before
kept_after old new group before row fields meant kept is more = by_row meant is more
  where
    right : (r : Row) → kept_row row old.declared old.orders fields ≡ Ok r →
        row_in_group group row before.cells before.orders fields ≡ Ok r
    right r so =
        ap (λ (os : List Order). row_in_group group row before.cells os fields) (sym kept.orders)
        ∙ sym (row_is old.declared group before.cells row old.orders fields kept.declared) ∙ so

    by_row : (r : Row) → kept_row row old.declared old.orders fields ≡ Ok r → IsKeptMore old new r →
        AreKeptAfter row fields new group before
    by_row (rows.Declare cell) so added =
        let fresh = declares_new group row before.cells before.orders fields cell (right (rows.Declare cell) so) in
        let room = new_parts 65536 before.cells cell fresh in
        record {
          meant = rows.Declare cell;
          right = right (rows.Declare cell) so;
          kept = record {
            declared = kept_more old.declared new.declared group before.cells cell kept.declared room.1 added.0;
            orders = added.1 ∙ kept.orders;
            few_cells = simp length-append (omega (arith, leb-false 65536 (length before.cells) room.0));
            few = kept.few;
          };
        }
    by_row (rows.Give order) so added = record {
      meant = rows.Give order;
      right = right (rows.Give order) so;
      kept = record {
        declared = subst (λ (g : GroupCells). IsKeptOf g group before.cells) (sym added.0) kept.declared;
        orders = added.1 ∙ ap (λ (os : List Order). os ++ order ∷ []) kept.orders;
        few_cells = kept.few_cells;
        few = simp length-append (omega (
          arith,
          gives_few group row before.cells before.orders fields order
              (right (rows.Give order) so),
        ));
      };
    }

-- and the fault of a row that is wrong is that of what is kept
pub kept_fault : (kept : RowsKept) (group : ℕ) (before : Rows) (row : ℕ) (fields : List (List ℕ)) (wrong : RowFault) →
    AreKeptOf kept group before → kept_row row kept.declared kept.orders fields ≡ Err wrong →
    row_in_group group row before.cells before.orders fields ≡ Err wrong
kept_fault kept group before row fields wrong is so =
    ap (λ (os : List Order). row_in_group group row before.cells os fields) (sym is.orders)
    ∙ sym (row_is kept.declared group before.cells row kept.orders fields is.declared) ∙ so

-- the pages that are kept
pub pages_none : (orders : List Order) → pages_kept orders [] ≡ []
pages_none [] = refl
pages_none (order ∷ orders) = refl

-- the pages of one order more are kept, if it is for some cells
pub pages_more : (orders : List Order) (pages : List (Option Paged)) (paged : Option Paged) →
    pages_kept orders (pages ++ paged ∷ [])
    ≡ pages_kept orders pages ++ cond (is_kept_at orders (length pages)) (paged ∷ []) []
pages_more [] pages paged = refl
pages_more (order ∷ orders) [] paged = rw (pages_none orders) refl
pages_more (order ∷ orders) (first ∷ pages) paged = by_order (has_cells order) (pages_more orders pages paged)
  where
    by_order : (kept : Bool) →
        pages_kept orders (pages ++ paged ∷ [])
        ≡ pages_kept orders pages ++ cond (is_kept_at orders (length pages)) (paged ∷ []) [] →
        cond kept (first ∷ pages_kept orders (pages ++ paged ∷ [])) (pages_kept orders (pages ++ paged ∷ []))
        ≡ cond kept (first ∷ pages_kept orders pages) (pages_kept orders pages)
        ++ cond (is_kept_at orders (length pages)) (paged ∷ []) []
    by_order true more = ap (λ (ps : List (Option Paged)). first ∷ ps) more
    by_order false more = more

-- the pages that are kept are those of the orders that are kept
pub kept_have : (orders : List Order) (pages : List (Option Paged)) → HavePages orders pages →
    HavePages (filter has_cells orders) (pages_kept orders pages)
kept_have [] [] have = tt
kept_have [] (paged ∷ pages) have = absurd have
kept_have (order ∷ orders) [] have = absurd have
kept_have (order ∷ orders) (paged ∷ pages) have =
    by_order (has_cells order) (kept_have orders pages have.1)
  where
    by_order : (kept : Bool) → HavePages (filter has_cells orders) (pages_kept orders pages) →
        HavePages (cond kept (order ∷ filter has_cells orders) (filter has_cells orders))
        (cond kept (paged ∷ pages_kept orders pages) (pages_kept orders pages))
    by_order true rest = (have.0, rest)
    by_order false rest = rest

-- what is kept is little
pub few_kept : (kept : RowsKept) (group : ℕ) (before : Rows) → AreKeptOf kept group before →
    kept.declared.count ≤ 65536
few_kept kept group before is = omega (arith, is.declared.count, is.few_cells)

-- the orders that are kept are 4,096 at most
pub few_orders : (kept : RowsKept) (group : ℕ) (before : Rows) → AreKeptOf kept group before →
    length kept.orders ≤ 4096
few_orders kept group before is = rw is.orders is.few

-- a set of the first cells of a list, with one more
pub seen_none : AreSeen [] []
seen_none = record { same = λ cell. refl; distinct = refl }

-- the cells that were seen, with the next one added, are those up to it
pub seen_more : (old new : List Pair) (cells : List Cell) (i : ℕ) (d : Cell) → i < length cells →
    AreSeen old (take i cells) → has_cell old (get_or cells i d) ≡ false →
    ((other : Cell) → has_cell new other ≡ (has_cell old other || is_cell (get_or cells i d) other)) →
    AreSeen new (take (i + 1) cells)
seen_more old new cells i d within seen fresh more =
    let cell = get_or cells i d in
    rw (take_more cells i d within) (record {
      same = λ other. more other ∙ declared_more (take i cells) cell other (has_cell old other) (seen.same other);
      distinct = distinct_push (take i cells) cell seen.distinct (sym (seen.same cell) ∙ fresh);
    })

-- a cell that is among those before it makes them no distinct ones
with_true : (b : Bool) → (b || true) ≡ true
with_true true = refl
with_true false = refl

with_false : (b : Bool) → (b && false) ≡ false
with_false true = refl
with_false false = refl

any_again : (c : Cell) (before : List Cell) (x : Cell) (rest : List Cell) → is_cell c x ≡ true →
    list_any (is_cell c) (before ++ x ∷ rest) ≡ true
any_again c [] x rest same = rw same refl
any_again c (b ∷ bs) x rest same = rw (any_again c bs x rest same) (with_true (is_cell c b))

named_again : (before : List Cell) (cell : Cell) (after : List Cell) → is_among before cell ≡ true →
    are_distinct (before ++ cell ∷ after) ≡ false
named_again [] cell after among = absurd (cc among)
named_again (c ∷ cs) cell after among = elim (cases_Bool (is_cell c cell)) [
  | inl same ↦ rw (any_again c cs cell after same) refl
  | inr other ↦ rw (named_again cs cell after (rw other at among)) (with_false (not (list_any (is_cell c)
      (cs ++ cell ∷ after))))
]

-- cells of which one stands twice aren't distinct
pub seen_again : (seen : List Pair) (cells : List Cell) (i : ℕ) (d : Cell) → i < length cells →
    AreSeen seen (take i cells) → has_cell seen (get_or cells i d) ≡ true → false ≡ are_distinct cells
seen_again seen cells i d within are again =
    let cell = get_or cells i d in
    let split : cells ≡ take i cells ++ cell ∷ drop (i + 1) cells =
    sym (take-append-drop (i + 1) cells)
    ∙ ap (λ (front : List Cell). front ++ drop (i + 1) cells) (take_more cells i d within)
    ∙ append_assoc (take i cells) (cell ∷ []) (drop (i + 1) cells) in
    sym (ap are_distinct split
    ∙ named_again (take i cells) cell (drop (i + 1) cells) (sym (are.same cell) ∙ again))
