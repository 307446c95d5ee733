use Rattle.std.proofs.Common.{◌≡◌, take}
use Rattle.std.specs.List.{flat_map}
use Rattle.cell_orders.specs.Steps.{places_of, rows_at}
use Rattle.cell_orders.proofs.rows.rows_of_places.Given as goal

abbrev pub invariant-loop-place : goal.invariant-loop-place
invariant-loop-place l = l.rows.items ≡ flat_map (rows_at l.cell) (places_of (take l.place-index l.places))
