-- Rows that are judged as those of a network book are its rows, whichever group reads them, but for the cells of their
-- orders.
use Rattle.std.proofs.Common.{◌≡◌, ◌⊎◌, ℕ, ◌+◌, ◌≤◌, ◌∙◌, nat_lt, List, [], ◌∷◌, length}
use Rattle.std.proofs.Common.{length-append, Option, Result, Ok, Err, refl, sym, subst, ap, arith, inl, inr}
use Rattle.std.proofs.lemmas.Bool.{cases_Bool, ltb-true}
use Rattle.cbs_page.specs.declared.paging.Paged.{Paged}
use Rattle.cbsp_wire.specs.declared.message.Cell.{Cell}
use Rattle.alert_book.specs.declared.book.order.Order.{Order}
use Rattle.alert_book.specs.declared.book.row.Row.{Row}
use Rattle.alert_book.specs.declared.book.row.Row.TheVariants as rows
use Rattle.alert_book.specs.declared.fault.BookFault.{BookFault}
use Rattle.alert_book.specs.declared.fault.RowFault.{RowFault}
use Rattle.alert_book.specs.declared.judging.bounds.Bounds.TheVariants as bounds
use Rattle.alert_book.specs.Book.{after_row, rows_by, rows_read_by, rows_with, with_row, AreRowsBy, HasTextFaultBy}
use Rattle.alert_book.specs.Book.{HavePages, IsRowFaultBy, Rows}
use Rattle.alert_book.specs.Judging.{counted_with, row_judged}
use Rattle.alert_book.specs.JudgingSteps.{HasRoom}
use Rattle.alert_book.specs.Network.{row_in_group, IsNetwork, IsWrongNetwork}
use Rattle.alert_book.proofs.AllGroupsLaws.{wrong_by}
use Rattle.alert_book.proofs.BareRows.{bare_meaning, bare_result, pages_bare, records_bare}
use Rattle.alert_book.proofs.JudgedLaws.{judged_room, right_room}
use Rattle.alert_book.proofs.OneNetwork.{has_bare}

-- a row is bare that comes before none too many
row_is_bare : (row : ℕ) (cells : List Cell) (orders : List Order) (fields : List (List ℕ)) → row ≤ 69633
    → row_judged bounds.Network row cells orders fields ≡ bare_meaning row cells orders fields
row_is_bare row cells orders fields few = elim (cases_Bool (nat_lt 69633 row)) [
  | inl many ↦ absurd (omega (arith, few, ltb-true 69633 row many))
  | inr within ↦ rw within refl
]

-- as many rows as declare cells and give orders, and few of each
record IsSmall (count : ℕ) (before : Rows) : Type 0 where
  pub all : count ≡ length before.cells + length before.orders
  pub cells : length before.cells ≤ 65536
  pub orders : length before.orders ≤ 4096

small_more : (count : ℕ) (before : Rows) (fields : List (List ℕ)) (meant : Row) → IsSmall count before
    → row_judged bounds.Network (count + 1) before.cells before.orders fields ≡ Ok meant
    → IsSmall (count + 1) (with_row before meant)
small_more count before fields meant small is = by_row meant
    (judged_room (counted_with bounds.Network count before) fields meant
    (small.orders, omega (arith, small.all, small.cells, small.orders))
    (right_room (counted_with bounds.Network count before) fields meant is) is)
  where
    by_row : (row : Row) → HasRoom (counted_with bounds.Network count before) row
        → IsSmall (count + 1) (with_row before row)
    by_row (rows.Declare cell) room = record {
      all = simp length-append (omega (arith, small.all));
      cells = simp length-append (omega (arith, room.1));
      orders = small.orders;
    }
    by_row (rows.Give order) room = record {
      all = simp length-append (omega (arith, small.all));
      cells = small.cells;
      orders = simp length-append (omega (arith, room.1));
    }

rows_are_bare : (records : List (List (List ℕ))) (count : ℕ) (before : Rows) → IsSmall count before
    → rows_read_by (row_judged bounds.Network) (count + 1) before records
    ≡ rows_read_by bare_meaning (count + 1) before records
rows_are_bare [] count before small = refl
rows_are_bare (fields ∷ more) count before small =
    by_row (row_judged bounds.Network (count + 1) before.cells before.orders fields) refl
    (λ next few. rows_are_bare more (count + 1) next few)
    ∙ ap (λ (r : Result Row RowFault). after_row (count + 1) before r
    (λ next. rows_read_by bare_meaning (count + 1 + 1) next more))
    (row_is_bare (count + 1) before.cells before.orders fields
    (omega (arith, small.all, small.cells, small.orders)))
  where
    by_row : (r : Result Row RowFault)
        → row_judged bounds.Network (count + 1) before.cells before.orders fields ≡ r
        → ((next : Rows) → IsSmall (count + 1) next
        → rows_read_by (row_judged bounds.Network) (count + 1 + 1) next more
        ≡ rows_read_by bare_meaning (count + 1 + 1) next more)
        → after_row (count + 1) before r
        (λ next. rows_read_by (row_judged bounds.Network) (count + 1 + 1) next more)
        ≡ after_row (count + 1) before r (λ next. rows_read_by bare_meaning (count + 1 + 1) next more)
    by_row (Ok meant) is later =
        later (with_row before meant) (small_more count before fields meant small is)
    by_row (Err kind) is later = refl

-- judged rows are the bare ones of a network book
pub judged_are_bare : (records : List (List (List ℕ)))
    → rows_by (row_judged bounds.Network) records ≡ rows_by bare_meaning records
judged_are_bare records =
    rows_are_bare records 0 (rows_with [] [])
    (record { all = refl; cells = omega arith; orders = omega arith })

-- octets whose rows are right when they are judged so are a network book, with the same cells
pub judged_are_network : (group : ℕ) (input : List ℕ) (known : Rows) (pages : List (Option Paged))
    → length input ≤ 67108864 → AreRowsBy (row_judged bounds.Network) input known → HavePages known.orders pages
    → (rows : Rows) × IsNetwork group input rows × (rows.cells ≡ known.cells)
judged_are_network group input known pages bounded are paged =
    let has = has_bare (rows_by (row_in_group group) are.records) known
    (records_bare group are.records ∙ sym (judged_are_bare are.records) ∙ are.meant) in
    let network : IsNetwork group input has.rows = record {
      bounded = bounded;
      meant = record { records = are.records; read = are.read; meant = has.comes };
      pages = pages;
      paged = (pages_bare has.rows.orders pages).1
          (subst (λ (r : Rows). HavePages r.orders pages) (sym has.same) paged);
    } in
    (has.rows, network, ap (λ (r : Rows). r.cells) has.same)

same_fault : (r : Result Rows BookFault) (f : BookFault) → bare_result r ≡ Err f → r ≡ Err f
same_fault (Ok known) f is = absurd (cc is)
same_fault (Err g) f is = is

-- and the fault of those that aren't is that of a network book
pub judged_are_wrong : (group : ℕ) (input : List ℕ) (f : BookFault) → length input ≤ 67108864
    → IsRowFaultBy (row_judged bounds.Network) input f ⊎ HasTextFaultBy (row_judged bounds.Network) input f
    → IsWrongNetwork group input f
judged_are_wrong group input f bounded (inl row) = (
  bounded,
  inl (record {
    records = row.records;
    state = row.state;
    rest = row.rest;
    read = row.read;
    wrong = same_fault (rows_by (row_in_group group) row.records) f
        (records_bare group row.records ∙ sym (judged_are_bare row.records) ∙ row.wrong);
  }),
)
judged_are_wrong group input f bounded (inr text) =
    let has = has_bare (rows_by (row_in_group group) text.meant.records) text.rows
    (records_bare group text.meant.records ∙ sym (judged_are_bare text.meant.records) ∙ text.meant.meant) in
    let w = text.wrong in (
      bounded,
      inr (record {
        rows = has.rows;
        meant = record { records = text.meant.records; read = text.meant.read; meant = has.comes };
        wrong = wrong_by has.rows.orders w.before w.after w.order w.sending w.why f w.pages
            (ap (λ (r : Rows). r.orders) has.same ∙ w.split) w.paged w.sent w.wrong w.told w.named;
      }),
    )
