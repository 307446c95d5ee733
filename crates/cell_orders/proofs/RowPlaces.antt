-- The rows of places are those of what stands in them.
use Rattle.std.proofs.Common.{◌≡◌, ◌∙◌, List, [], ◌∷◌, ◌++◌, Option, Some, None, refl, ap}
use Rattle.std.specs.Prelude.{filter_map, option_to_list}
use Rattle.std.specs.List.{cons_option, flat_map}
use Rattle.cbsp_wire.specs.declared.message.Cell.{Cell}
use Rattle.cell_orders.specs.declared.row.OrderRow.{OrderRow}
use Rattle.cell_orders.specs.Exchange.{LinkExchange}
use Rattle.cell_orders.specs.Rows.{row_of}
use Rattle.cell_orders.specs.Steps.{rows_at, standing}

one_more : (row : Option OrderRow) (rows : List OrderRow) → option_to_list row ++ rows ≡ cons_option row rows
one_more None rows = refl
one_more (Some row) rows = refl

-- the rows of places
pub rows_standing : (cell : Cell) (places : List (Option LinkExchange))
    → flat_map (rows_at cell) places ≡ filter_map (row_of cell) (standing places)
rows_standing cell [] = refl
rows_standing cell (None ∷ places) = rows_standing cell places
rows_standing cell (Some e ∷ places) =
    ap (λ rows. option_to_list (row_of cell e) ++ rows) (rows_standing cell places)
    ∙ one_more (row_of cell e) (filter_map (row_of cell) (standing places))
