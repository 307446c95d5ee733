-- Octets that are a network book to a group mean something for all cells: what a row means but for the cells of its
-- order is the same for all.
use Rattle.std.proofs.Common.{◌≡◌, ℕ, ◌+◌, ◌&&◌, ◌∙◌, false, cond, not, nat_le, Result, Ok, Err, Option, Some}
use Rattle.std.proofs.Common.{None, List, [], ◌∷◌, filter, length, map, refl, sym, ap, subst}
use Rattle.std.proofs.lemmas.List.{length-map}
use Rattle.cbs_page.specs.declared.paging.Paged.{Paged}
use Rattle.cbsp_wire.specs.declared.message.Cell.{Cell}
use Rattle.alert_book.specs.declared.fault.BookFault.{BookFault}
use Rattle.alert_book.specs.declared.fault.RowFault.{RowFault}
use Rattle.alert_book.specs.declared.fault.RowFault.TheVariants as fault
use Rattle.alert_book.specs.declared.book.order.Action.{Action}
use Rattle.alert_book.specs.declared.book.order.Action.TheVariants as action
use Rattle.alert_book.specs.declared.book.order.Order.{Order}
use Rattle.alert_book.specs.declared.book.row.Row.{Row}
use Rattle.alert_book.specs.Book.{ArePagesOf, Contents, HavePages, RowMeaning, Rows, after_row, rows_by, rows_read_by}
use Rattle.alert_book.specs.Book.{rows_with, sending_of, with_row}
use Rattle.alert_book.specs.Cells.{cells_of_field, is_among}
use Rattle.alert_book.specs.Fields.{are_texts, column}
use Rattle.alert_book.specs.Network.{cells_in_group, cells_of_group, declares_cell, row_in_group}
use Rattle.alert_book.specs.Row.{cell_row_within, row_after_verb_by, verb_of}
use Rattle.alert_book.specs.Restricted.{Keep, kept_action, kept_order}
use Rattle.book_runs.specs.WholeNetwork.{GroupsAreOfNetworks, row_of_network}
use Rattle.book_runs.proofs.CellLists.{filter_first}
use Rattle.book_runs.proofs.KeptRows.{either_kept, kept_row, kept_rows, right_by, then_same, verb_kept, with_kept}
use Rattle.book_runs.proofs.NetworkParts.{kept_pages}

abbrev none : Keep
none cell = false

-- a row means this but for the cells of its order
abbrev bare_meaning : RowMeaning
bare_meaning row declared orders fields =
    cond (not (declares_cell fields) && nat_le 4096 (length orders)) (Err fault.TooManyRows)
    (cond (not (are_texts fields)) (Err fault.Columns)
    (row_after_verb_by (verb_of (column fields 0)) (cell_row_within 65536 declared fields) row
    (λ field. right_by (filter none) (cells_of_field declared field)) orders fields))

network_bare : (row : ℕ) (declared : List Cell) (orders : List Order) (fields : List (List ℕ)) →
    right_by (kept_row none) (row_of_network row declared orders fields)
    ≡ bare_meaning row declared (map (kept_order none) orders) fields
network_bare row declared orders fields =
    rw (length-map orders (kept_order none))
    (either_kept (not (declares_cell fields) && nat_le 4096 (length orders)) (kept_row none) _ _ _ _ refl
    (either_kept (not (are_texts fields)) (kept_row none) _ _ _ _ refl
    (verb_kept none (verb_of (column fields 0)) row declared (cells_of_field declared)
    (λ field. right_by (filter none) (cells_of_field declared field)) orders fields (λ field. refl))))

group_bare : (group row : ℕ) (declared : List Cell) (orders : List Order) (fields : List (List ℕ)) →
    right_by (kept_row none) (row_in_group group row declared orders fields)
    ≡ bare_meaning row declared (map (kept_order none) orders) fields
group_bare group row declared orders fields =
    rw (length-map orders (kept_order none))
    (either_kept (not (declares_cell fields) && nat_le 4096 (length orders)) (kept_row none) _ _ _ _ refl
    (either_kept (not (are_texts fields)) (kept_row none) _ _ _ _ refl
    (verb_kept none (verb_of (column fields 0)) row declared (cells_in_group group declared)
    (λ field. right_by (filter none) (cells_of_field declared field)) orders fields
    (λ field. then_same (cells_of_field declared field) (filter none) _ _ (λ cells.
    ap (λ (l : List Cell). let made : Result (List Cell) RowFault = Ok l in made)
    (filter_first none (is_among (cells_of_group group declared)) (λ c never. absurd (cc)) cells))))))

abbrev kept_result : Result Rows BookFault → Result Rows BookFault
kept_result (Ok before) = Ok (kept_rows none before)
kept_result (Err f) = Err f

rows_bare : (meaning : RowMeaning) → ((row : ℕ) (declared : List Cell) (orders : List Order)
    (fields : List (List ℕ)) → right_by (kept_row none) (meaning row declared orders fields)
    ≡ bare_meaning row declared (map (kept_order none) orders) fields)
    → (records : List (List (List ℕ))) (row : ℕ) (before : Rows) →
    kept_result (rows_read_by meaning row before records)
    ≡ rows_read_by bare_meaning row (kept_rows none before) records
rows_bare meaning same [] row before = refl
rows_bare meaning same (fields ∷ more) row before =
    by_row (meaning row before.cells before.orders fields) (λ next. rows_bare meaning same more (row + 1) next)
    ∙ ap (λ (s : Result Row RowFault). after_row row (kept_rows none before) s
    (λ next. rows_read_by bare_meaning (row + 1) next more)) (same row before.cells before.orders fields)
  where
    by_row : (r : Result Row RowFault) → ((next : Rows) → kept_result (rows_read_by meaning (row + 1) next more)
        ≡ rows_read_by bare_meaning (row + 1) (kept_rows none next) more) →
        kept_result (after_row row before r (λ next. rows_read_by meaning (row + 1) next more))
        ≡ after_row row (kept_rows none before) (right_by (kept_row none) r)
        (λ next. rows_read_by bare_meaning (row + 1) next more)
    by_row (Ok meant) later =
        later (with_row before meant)
        ∙ ap (λ (next : Rows). rows_read_by bare_meaning (row + 1) next more) (with_kept none before meant)
    by_row (Err kind) later = refl

-- rows that are the same but for cells
record AreAlso (r : Result Rows BookFault) (bare : Rows) : Type 0 where
  pub all : Rows
  pub meant : r ≡ Ok all
  pub same : kept_rows none all ≡ bare

are_also : (r : Result Rows BookFault) (bare : Rows) → kept_result r ≡ Ok bare → AreAlso r bare
are_also (Err f) bare is = absurd (cc is)
are_also (Ok all) bare is = record { all = all; meant = refl; same = one (kept_rows none all) bare is }
  where
    one : (a b : Rows) → (let r : Result Rows BookFault = Ok a in r) ≡ Ok b → a ≡ b
    one a b is = cc

-- orders have the pages that they have for fewer cells
pages_back : (keep : Keep) (orders : List Order) (pages : List (Option Paged))
    → HavePages (map (kept_order keep) orders) pages → HavePages orders pages
pages_back keep [] [] have = have
pages_back keep [] (p ∷ pages) have = have
pages_back keep (o ∷ orders) [] have = have
pages_back keep (o ∷ orders) (p ∷ pages) have =
    (by_action o.action p have.0, pages_back keep orders pages have.1)
  where
    by_action : (a : Action) (q : Option Paged) → ArePagesOf (sending_of (kept_action keep a)) q
        → ArePagesOf (sending_of a) q
    by_action (action.Write sending) None are = are
    by_action (action.Write sending) (Some q) are = are
    by_action (action.Update update sending) None are = are
    by_action (action.Update update sending) (Some q) are = are
    by_action (action.Stop cells) None are = are
    by_action (action.Stop cells) (Some q) are = are

-- octets that have a group's book are a whole network's
pub groups_are_of_networks : GroupsAreOfNetworks
groups_are_of_networks group input book is =
    let records : List (List (List ℕ)) = is.network.meant.records in
    let bare : kept_result (rows_by row_of_network records) ≡ Ok (kept_rows none is.rows) =
    rows_bare row_of_network network_bare records 1 (rows_with [] [])
    ∙ sym (rows_bare (row_in_group group) (group_bare group) records 1 (rows_with [] []))
    ∙ ap kept_result is.network.meant.meant in
    let also : AreAlso (rows_by row_of_network records) (kept_rows none is.rows) =
    are_also (rows_by row_of_network records) (kept_rows none is.rows) bare in
    let whole : Contents =
    record { cells = also.all.cells; orders = also.all.orders; pages = is.network.pages } in (
      whole,
      record {
        bounded = is.network.bounded;
        meant = record { records = records; read = is.network.meant.read; meant = also.meant };
        paged = pages_back none also.all.orders is.network.pages
            (subst (λ (r : Rows). HavePages r.orders is.network.pages) (sym also.same)
            (kept_pages none is.rows.orders is.network.pages is.network.paged));
      },
    )
