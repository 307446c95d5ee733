-- The groups of a network are parts of the whole network's book.
use Rattle.std.proofs.Common.{◌≡◌, ℕ, ◌&&◌, ◌||◌, Bool, true, false, cond, not, nat_le}
use Rattle.std.proofs.Common.{Result, Ok, Option, Some, None, List, [], ◌∷◌, ◌++◌, codes, filter, length}
use Rattle.std.proofs.Common.{map, refl, ap, subst, inl, inr}
use Rattle.std.specs.List.{All, list_all}
use Rattle.std.specs.Str.{bytes_eq}
use Rattle.std.proofs.lemmas.Bool.{cases_Bool, not_from_false}
use Rattle.std.proofs.lemmas.List.Elements.{All-nil, All-weaker}
use Rattle.cbs_page.specs.declared.paging.Paged.{Paged}
use Rattle.cbsp_wire.specs.declared.message.Cell.{Cell}
use Rattle.cbsp_wire.specs.Range.{are_distinct, is_cell, is_nothing}
use Rattle.alert_book.specs.declared.fault.RowFault.{RowFault}
use Rattle.alert_book.specs.declared.fault.RowFault.TheVariants as fault
use Rattle.alert_book.specs.declared.book.order.Action.{Action}
use Rattle.alert_book.specs.declared.book.order.Action.TheVariants as action
use Rattle.alert_book.specs.declared.book.order.Order.{Order}
use Rattle.alert_book.specs.declared.book.row.Row.{Row}
use Rattle.alert_book.specs.declared.book.row.Row.TheVariants as rows
use Rattle.alert_book.specs.Book.{ArePagesOf, Contents, HavePages, Rows, rows_with, sending_of, with_row}
use Rattle.alert_book.specs.Cells.{all_named, all_of, before_all, cell_named, cells_judged, cells_listed}
use Rattle.alert_book.specs.Cells.{cells_of_field}
use Rattle.alert_book.specs.Cells.{is_among, is_space, parts_after}
use Rattle.alert_book.specs.Fields.{are_texts, column}
use Rattle.alert_book.specs.Network.{cells_of_action, declares_cell}
use Rattle.alert_book.specs.Network.{has_cells}
use Rattle.alert_book.specs.Row.{verb_of}
use Rattle.alert_book.specs.Session.{orders_with}
use Rattle.alert_book.proofs.FewRows.{DeclaresNew, distinct_push, either_new, fault_never, never_new, new_parts}
use Rattle.alert_book.proofs.FewRows.{rows_keep}
use Rattle.alert_book.proofs.FewRows.{verb_new}
use Rattle.alert_book.proofs.GroupLaws.{filter_group}
use Rattle.alert_book.proofs.RightOrders.{IsRightActionBy, IsRightRow, either_right, fault_right, orders_with_row}
use Rattle.alert_book.proofs.RightOrders.{cells_column, verb_right}
use Rattle.alert_book.specs.Restricted.{Keep, PagedOrder, kept_action, kept_order, kept_orders}
use Rattle.book_runs.specs.WholeNetwork.{GroupsAreParts, IsWholeNetwork, WholeNetworksAreCounted, in_group}
use Rattle.book_runs.specs.WholeNetwork.{row_of_network}
use Rattle.book_runs.proofs.KeptRows.{field_declared, kept_rows, rows_kept}
use Rattle.book_runs.proofs.OrdersWithin.{IsWithin, all_also}
use Rattle.book_runs.proofs.JoinedRuns.{IsForCells}

-- the cells of a row are declared, and some
pub record AreSome (declared cells : List Cell) : Type 0 where
  pub within : list_all (is_among declared) cells ≡ true
  pub some : is_nothing cells ≡ false

before_some : (cell : Option Cell) (rest : Option (List Cell)) (cells : List Cell) →
    before_all cell rest ≡ Some cells → is_nothing cells ≡ false
before_some None rest cells is = absurd (cc is)
before_some (Some cell) None cells is = absurd (cc is)
before_some (Some cell) (Some rest) [] is = absurd (cc is)
before_some (Some cell) (Some rest) (c ∷ cs) is = refl

listed_some : (part text : List ℕ) (cells : List Cell) → all_named (parts_after part text) ≡ Some cells →
    is_nothing cells ≡ false
listed_some part [] cells is = before_some (cell_named part) (Some []) cells is
listed_some part (octet ∷ text) cells is = elim (cases_Bool (is_space octet)) [
  | inl space ↦ before_some (cell_named part) (all_named (parts_after [] text)) cells (rw space at is)
  | inr other ↦ listed_some (part ++ octet ∷ []) text cells (rw other at is)
]

same_cells : (r : Result (List Cell) RowFault) (a b : List Cell) → r ≡ Ok a → r ≡ Ok b → a ≡ b
same_cells r a b one other = cc

all_some : (declared cells : List Cell) → all_of declared ≡ Ok cells → is_nothing cells ≡ false
all_some [] cells is = absurd (cc is)
all_some (d ∷ declared) cells is =
    subst (λ (l : List Cell). is_nothing l ≡ false)
    (same_cells (all_of (d ∷ declared)) (d ∷ declared) cells refl is) refl

judged_some : (declared : List Cell) (listed : Option (List Cell)) (cells : List Cell)
    → ((l : List Cell) → listed ≡ Some l → is_nothing l ≡ false)
    → cells_judged declared listed ≡ Ok cells → is_nothing cells ≡ false
judged_some declared None cells some is = absurd (cc is)
judged_some declared (Some listed) cells some is = elim (cases_Bool (list_all (is_among declared) listed)) [
  | inr other ↦ absurd (cc (rw other at is))
  | inl all ↦ elim (cases_Bool (are_distinct listed)) [
    | inr other ↦ absurd (cc (rw (all, other) at is))
    | inl distinct ↦ subst (λ (l : List Cell). is_nothing l ≡ false)
        (same_cells (Ok listed) listed cells refl (rw (all, distinct) at is)) (some listed refl)
  ]
]

field_some : (declared : List Cell) (field : List ℕ) (cells : List Cell) → cells_of_field declared field ≡ Ok cells
    → is_nothing cells ≡ false
field_some declared field cells is = elim (cases_Bool (bytes_eq field (codes "*"))) [
  | inl all ↦ all_some declared cells (rw all at is)
  | inr some ↦ judged_some declared (cells_listed field) cells (λ l listed. listed_some [] field l listed) (rw some
      at is)
]

row_some : (row : ℕ) (declared : List Cell) (orders : List Order) (fields : List (List ℕ)) → (meant : Row)
    → row_of_network row declared orders fields ≡ Ok meant → IsRightRow (AreSome declared) meant
row_some row declared orders fields =
    let Good : List Cell → Type 0 = AreSome declared in
    either_right Good (not (declares_cell fields) && nat_le 4096 (length orders)) _ _
    (fault_right Good fault.TooManyRows)
    (either_right Good (not (are_texts fields)) _ _ (fault_right Good fault.Columns)
    (verb_right Good (verb_of (column fields 0)) 65536 row declared (cells_of_field declared) orders fields
    (λ cells is. record {
      within = field_declared declared (field_of fields) cells is;
      some = field_some declared (field_of fields) cells is;
    })))
  where
    field_of : List (List ℕ) → List ℕ
    field_of fields = column fields (cells_column (verb_of (column fields 0)))

row_declares : (row : ℕ) (declared : List Cell) (orders : List Order) (fields : List (List ℕ))
    → DeclaresNew 65536 declared (row_of_network row declared orders fields)
row_declares row declared orders fields =
    either_new 65536 declared (not (declares_cell fields) && nat_le 4096 (length orders)) _ _
    (never_new 65536 declared _ (fault_never fault.TooManyRows))
    (either_new 65536 declared (not (are_texts fields)) _ _ (never_new 65536 declared _ (fault_never fault.Columns))
    (verb_new 65536 (verb_of (column fields 0)) row declared (cells_of_field declared) orders fields))

-- what holds of the rows of a whole network
pub record AreWhole (all : Rows) : Type 0 where
  pub distinct : are_distinct all.cells ≡ true
  pub right : All (λ (o : Order). IsRightActionBy (AreSome all.cells) o.action) all.orders

longer : (own : List Cell) (cell more : Cell) → is_among own cell ≡ true → is_among (own ++ more ∷ []) cell ≡ true
longer [] cell more among = absurd (cc)
longer (c ∷ own) cell more among = by_first (is_cell c cell) among (longer own cell more)
  where
    by_first : (b : Bool) → (b || is_among own cell) ≡ true
        → (is_among own cell ≡ true → is_among (own ++ more ∷ []) cell ≡ true)
        → (b || is_among (own ++ more ∷ []) cell) ≡ true
    by_first true among rest = refl
    by_first false among rest = rest among

some_longer : (declared cells : List Cell) (more : Cell) → AreSome declared cells
    → AreSome (declared ++ more ∷ []) cells
some_longer declared cells more some = record {
  within = all_also (is_among declared) (is_among (declared ++ more ∷ [])) (λ c among. longer declared c more among)
      cells
      some.within;
  some = some.some;
}

action_longer : (declared : List Cell) (more : Cell) (a : Action) → IsRightActionBy (AreSome declared) a
    → IsRightActionBy (AreSome (declared ++ more ∷ [])) a
action_longer declared more (action.Write s) right = record {
  category = right.category;
  period = right.period;
  cells = some_longer declared s.cells more right.cells;
}
action_longer declared more (action.Update update s) right = record {
  category = right.category;
  period = right.period;
  cells = some_longer declared s.cells more right.cells;
}
action_longer declared more (action.Stop cells) right = some_longer declared cells more right

whole_more : (row : ℕ) (before : Rows) (fields : List (List ℕ)) (meant : Row) → AreWhole before
    → row_of_network row before.cells before.orders fields ≡ Ok meant → AreWhole (with_row before meant)
whole_more row before fields (rows.Declare cell) whole is = record {
  distinct = distinct_push before.cells cell whole.distinct
      (new_parts 65536 before.cells cell (row_declares row before.cells before.orders fields cell is)).1;
  right = All-weaker (λ (o : Order). IsRightActionBy (AreSome before.cells) o.action)
      (λ (o : Order). IsRightActionBy (AreSome (before.cells ++ cell ∷ [])) o.action)
      (λ o right. action_longer before.cells cell o.action right) before.orders whole.right;
}
whole_more row before fields (rows.Give order) whole is = record {
  distinct = whole.distinct;
  right = orders_with_row (AreSome before.cells) before (rows.Give order) whole.right
      (row_some row before.cells before.orders fields (rows.Give order) is);
}

-- a whole network's rows are for some of its cells each, and no cell is there twice
pub whole_rows : (input : List ℕ) (whole : Contents) → IsWholeNetwork input whole
    → AreWhole (rows_with whole.cells whole.orders)
whole_rows input whole is =
    (rows_keep row_of_network (λ _ all. AreWhole all) (λ row before fields meant so right. whole_more row before fields
    meant so right) 1 (rows_with [] []) (rows_with whole.cells whole.orders) is.meant.records
    (record { distinct = refl; right = All-nil (λ (o : Order). IsRightActionBy (AreSome []) o.action) })
    is.meant.meant).1

action_some : (declared : List Cell) (a : Action) → IsRightActionBy (AreSome declared) a
    → AreSome declared (cells_of_action a)
action_some declared (action.Write s) right = right.cells
action_some declared (action.Update update s) right = right.cells
action_some declared (action.Stop cells) right = right

-- its orders are for its cells
pub whole_within : (input : List ℕ) (whole : Contents) → IsWholeNetwork input whole
    → All (IsWithin whole.cells) whole.orders
whole_within input whole is =
    All-weaker (λ (o : Order). IsRightActionBy (AreSome whole.cells) o.action) (IsWithin whole.cells)
    (λ o right. (action_some whole.cells o.action right).within) whole.orders (whole_rows input whole is).right

-- each is for some
pub whole_for_cells : (input : List ℕ) (whole : Contents) → IsWholeNetwork input whole
    → All IsForCells whole.orders
whole_for_cells input whole is =
    All-weaker (λ (o : Order). IsRightActionBy (AreSome whole.cells) o.action) IsForCells
    (λ o right. not_from_false (is_nothing (cells_of_action o.action)) (action_some whole.cells o.action right).some)
    whole.orders (whole_rows input whole is).right

-- orders have the pages that the same orders have for fewer cells
action_pages : (keep : Keep) (a : Action) (p : Option Paged) → ArePagesOf (sending_of a) p
    → ArePagesOf (sending_of (kept_action keep a)) p
action_pages keep (action.Write sending) None are = are
action_pages keep (action.Write sending) (Some p) are = are
action_pages keep (action.Update update sending) None are = are
action_pages keep (action.Update update sending) (Some p) are = are
action_pages keep (action.Stop cells) None are = are
action_pages keep (action.Stop cells) (Some p) are = are

-- orders for some cells have the pages that they have for all
pub kept_pages : (keep : Keep) (orders : List Order) (pages : List (Option Paged)) → HavePages orders pages
    → HavePages (map (kept_order keep) orders) pages
kept_pages keep [] [] have = have
kept_pages keep [] (p ∷ pages) have = have
kept_pages keep (o ∷ orders) [] have = have
kept_pages keep (o ∷ orders) (p ∷ pages) have =
    (action_pages keep o.action p have.0, kept_pages keep orders pages have.1)

-- the orders that are kept, and their pages
pub record AreKeptWith (keep : Keep) (all : List Order) (pages : List (Option Paged)) : Type 0 where
  pub orders : map (λ (o : PagedOrder). o.0) (kept_orders keep (orders_with all pages))
      ≡ filter has_cells (map (kept_order keep) all)
  pub paged : HavePages (map (λ (o : PagedOrder). o.0) (kept_orders keep (orders_with all pages)))
      (map (λ (o : PagedOrder). o.1) (kept_orders keep (orders_with all pages)))

-- so have those of them that are for some
pub kept_with_pages : (keep : Keep) (all : List Order) (pages : List (Option Paged)) → HavePages all pages
    → AreKeptWith keep all pages
kept_with_pages keep [] [] have = record { orders = refl; paged = have }
kept_with_pages keep [] (p ∷ pages) have = absurd have
kept_with_pages keep (o ∷ all) [] have = absurd have
kept_with_pages keep (o ∷ all) (p ∷ pages) have =
    let both = by_some (has_cells (kept_order keep o)) (kept_with_pages keep all pages have.1) in
    record { orders = both.0; paged = both.1 }
  where
    by_some : (some : Bool) → AreKeptWith keep all pages
        → (let pairs : List PagedOrder = cond some ((kept_order keep o, p) ∷ kept_orders keep (orders_with all pages))
        (kept_orders keep (orders_with all pages)) in
        (map (λ (x : PagedOrder). x.0) pairs ≡ cond some (kept_order keep o
        ∷ filter has_cells (map (kept_order keep) all)) (filter has_cells (map (kept_order keep) all)))
        × HavePages (map (λ (x : PagedOrder). x.0) pairs) (map (λ (x : PagedOrder). x.1) pairs))
    by_some true rest = (
      ap (λ (l : List Order). kept_order keep o ∷ l) rest.orders,
      (action_pages keep o.action p have.0, rest.paged),
    )
    by_some false rest = (rest.orders, rest.paged)

-- the book of a group is that of its cells, of the whole network's
pub groups_are_parts : GroupsAreParts
groups_are_parts group input whole is there =
    let rows : Rows = rows_with whole.cells whole.orders in
    let sound : AreWhole rows = whole_rows input whole is in
    let keep : Keep = in_group group whole.cells in
    let kept = kept_with_pages keep whole.orders whole.pages is.paged in record {
      rows = kept_rows keep rows;
      network = record {
        bounded = is.bounded;
        meant = record {
          records = is.meant.records;
          read = is.meant.read;
          meant = rows_kept group rows sound.distinct is.meant.records 1 (rows_with [] []) is.meant.meant;
        };
        pages = whole.pages;
        paged = kept_pages keep whole.orders whole.pages is.paged;
      };
      there = there;
      cells = filter_group group whole.cells sound.distinct;
      orders = kept.orders;
      paged = kept.paged;
    }

-- a network has as many groups as its cells fill
pub whole_networks_are_counted : WholeNetworksAreCounted
whole_networks_are_counted group input whole is =
    let rows : Rows = rows_with whole.cells whole.orders in
    let sound : AreWhole rows = whole_rows input whole is in
    let keep : Keep = in_group group whole.cells in record {
      rows = kept_rows keep rows;
      network = record {
        bounded = is.bounded;
        meant = record {
          records = is.meant.records;
          read = is.meant.read;
          meant = rows_kept group rows sound.distinct is.meant.records 1 (rows_with [] []) is.meant.meant;
        };
        pages = whole.pages;
        paged = kept_pages keep whole.orders whole.pages is.paged;
      };
      count = refl;
    }
