use Rattle.std.proofs.Common.{◌∙◌, List, Option, ap}
use Rattle.std.specs.Prelude.{filter_map}
use Rattle.std.specs.List.{flat_map}
use Rattle.cell_orders.specs.declared.exchange.HeldExchange.{HeldExchange}
use Rattle.cell_orders.specs.Rows.{row_of}
use Rattle.cell_orders.specs.Steps.{places_of, rows_at}
use Rattle.cell_orders.proofs.RowPlaces.{rows_standing}
use Rattle.cell_orders.proofs.rows.rows_of.Goals as goal

pub returns : goal.returns
returns c =
    c.in_ok-rows.ensures
    ∙ ap (λ (held : List (Option HeldExchange)). flat_map (rows_at c.args.cell) (places_of held)) c.deref.ensures.value
    ∙ rows_standing c.args.cell (places_of c.in_ok-all.all.places.items)
    ∙ ap (filter_map (row_of c.args.cell)) c.in_ok-all.ensures
