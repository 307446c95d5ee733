-- What is written of rows is read back.
use Rattle.std.proofs.Common.{◌≡◌, ◌≤◌, ◌+◌, ◌++◌, ◌∷◌, ◌∙◌, ℕ, false, List, [], Ok, length, map, ap, sym}
use Rattle.std.proofs.Common.{arith, append-nil}
use Rattle.std.proofs.Common.{append_assoc}
use Rattle.std.specs.Prelude.{nat_lt, All}
use Rattle.std.proofs.lemmas.List.Elements.{All-head, All-tail}
use Rattle.csv.specs.declared.parser.State.TheVariants as st
use Rattle.cell_orders.specs.declared.row.OrderRow.{OrderRow}
use Rattle.cell_orders.specs.Text.{row_fields}
use Rattle.orders_file.specs.File.{max_rows, row_numbered, rows_after}
use Rattle.orders_file.specs.Laws.{Fits, OrdersAreReadBack, untimed}
use Rattle.orders_file.specs.Ranges.{IsWithin}
use Rattle.orders_file.proofs.RowBack.{row_is}
use Rattle.orders_file.proofs.TextBack.{all_reached, at_end, unmarked}

within_file : (row : ℕ) → row ≤ 65536 → nat_lt max_rows row ≡ false
within_file row few = grind arith

numbered_is : (number : ℕ) (row : OrderRow) → number ≤ 65536 → Fits row → IsWithin row
    → row_numbered number (row_fields row) ≡ Ok (untimed row)
numbered_is number row few fits within = rw (within_file number few) (row_is row fits within)

rows_are : (number : ℕ) (before rows : List OrderRow) → All Fits rows → All IsWithin rows
    → number + length rows ≤ 65537
    → rows_after number before (map row_fields rows) ≡ Ok (before ++ map untimed rows)
rows_are number before [] fit within few = ap (λ (l : List OrderRow). Ok l) (sym (append-nil before))
rows_are number before (row ∷ rows) fit within few =
    rw (numbered_is number row (omega arith) (All-head Fits row rows fit) (All-head IsWithin row rows within))
    (rows_are (number + 1) (before ++ untimed row ∷ []) rows (All-tail Fits row rows fit)
    (All-tail IsWithin row rows within) (omega arith)
    ∙ ap (λ (l : List OrderRow). Ok l) (append_assoc before (untimed row ∷ []) (map untimed rows)))

-- what `orders_text` writes is an orders file of the same rows, but for times and packets
pub read_back : OrdersAreReadBack
read_back rows fit within few short = record {
  bounded = short;
  says = record {
    records = map row_fields rows;
    read = (st.StartRecord, [], rw (unmarked rows) (all_reached rows), at_end);
    said = rows_are 1 [] rows fit within (omega arith);
  };
}
