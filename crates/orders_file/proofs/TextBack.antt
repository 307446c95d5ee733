-- The text of rows, as CSV reads it.
use Rattle.std.proofs.Common.{◌≡◌, ◌++◌, ◌∙◌, ℕ, Option, Some, None, List, [], ◌∷◌, map, refl, ap}
use Rattle.csv.specs.Machine.{Read, next_record}
use Rattle.csv.specs.Reading.{Reached, default_config, strip_bom}
use Rattle.csv.specs.Writing.{default_writer, escaped, field_text, fields_text, is_blank, read_back, row_text}
use Rattle.csv.specs.declared.parser.State.TheVariants as st
use Rattle.csv.proofs.RoundTrip.{read-write}
use Rattle.cell_orders.specs.declared.row.CellOrder.{CellOrder}
use Rattle.cell_orders.specs.declared.row.CellOrder.TheVariants as rows
use Rattle.cell_orders.specs.declared.row.OrderRow.{OrderRow}
use Rattle.cell_orders.specs.Text.{fields_of_order, orders_text, orders_writer, row_fields, row_line}

-- whether rows may differ in length makes no difference to their text
escaped_same : (field : List ℕ) → escaped orders_writer field ≡ escaped default_writer field
unfolding escaped
escaped_same [] = refl
escaped_same (octet ∷ field) = rw (escaped_same field) refl

field_same : (field : List ℕ) → field_text orders_writer field ≡ field_text default_writer field
field_same field = rw (escaped_same field) refl

fields_same : (fields : List (List ℕ)) → fields_text orders_writer fields ≡ fields_text default_writer fields
unfolding fields_text
fields_same [] = refl
fields_same (field ∷ fields) = rw (field_same field, fields_same fields) refl

row_same : (fields : List (List ℕ)) → row_text orders_writer fields ≡ row_text default_writer fields
unfolding is_blank
row_same [] = refl
row_same (field ∷ []) = rw (field_same field, fields_same []) refl
row_same (field ∷ next ∷ fields) = rw (field_same field, fields_same (next ∷ fields)) refl

-- no row is without fields
whole : (at : ℕ) (order : CellOrder) → read_back (fields_of_order at order) ≡ fields_of_order at order
whole at (rows.Write id new_serial old_serial category period broadcasts dcs contents answer) = refl
whole at (rows.Kill id old_serial answer) = refl
whole at rows.Clear = refl

-- the first row of a text
first_is : (row : OrderRow) (rest : List ℕ)
    → next_record default_config st.StartRecord [] [] (row_line row ++ rest)
    ≡ Some (row_fields row, st.StartRecord, rest)
first_is row rest =
    rw (row_same (row_fields row)) (read-write (row_fields row) rest
    ∙ ap (λ (fields : List (List ℕ)). Some (fields, st.StartRecord, rest)) (whole row.at row.order))

-- all of them
pub all_reached : (rows : List OrderRow)
    → Reached default_config st.StartRecord (orders_text rows) (map row_fields rows) st.StartRecord []
unfolding Reached
all_reached [] = (refl, refl)
all_reached (row ∷ rows) =
    ((row_fields row, st.StartRecord, orders_text rows), first_is row (orders_text rows), refl, all_reached rows)

-- nothing is behind them
pub at_end : ◌≡◌ {A = Option Read} (next_record default_config st.StartRecord [] [] []) None
unfolding next_record
at_end = refl

-- a row begins with no byte order mark
no_mark : (at : ℕ) (order : CellOrder) (rest : List ℕ)
    → strip_bom (row_text orders_writer (fields_of_order at order) ++ rest)
    ≡ row_text orders_writer (fields_of_order at order) ++ rest
unfolding strip_bom
no_mark at (rows.Write id new_serial old_serial category period broadcasts dcs contents answer) rest = refl
no_mark at (rows.Kill id old_serial answer) rest = refl
no_mark at rows.Clear rest = refl

-- and neither does a text of rows
pub unmarked : (rows : List OrderRow) → strip_bom (orders_text rows) ≡ orders_text rows
unfolding strip_bom
unmarked [] = refl
unmarked (row ∷ rows) = no_mark row.at row.order (orders_text rows)
