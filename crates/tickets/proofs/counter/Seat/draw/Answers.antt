use Rattle.std.proofs.Common.{rules}
use mathlib.Core.Option.{none}
use Rattle.atomic_table.specs.Table.{step}
use Rattle.tickets.proofs.Steps.{draws}
use Rattle.tickets.proofs.counter.Seat.draw.Goals as goal

pub fetch_add-found-requires : goal.fetch_add-found-requires
fetch_add-found-requires c = (
  search rules,
  search rules,
  draws _ _ _ _ (step c.counter.inside.table.shared.table_id.slots 0 1 0 none)
      (search rules) (search rules) (search rules),
)
