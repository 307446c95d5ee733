use Rattle.std.proofs.Common.{◌∙◌, Some, cond, ap}
use Rattle.std.specs.Map.{lookup}
use Rattle.cbsp_wire.specs.Range.{is_cell}
use Rattle.alert_book.specs.CellPairs.{is_pair}
use Rattle.alert_book.proofs.network.all_cells.CellGroups.set.Goals as goal

pub returns : goal.returns
returns c = λ other.
    c.in_ok-insert.ensures.updates.0 (other.lac, other.ci)
    ∙ ap (λ entries. cond (is_cell c.args.cell other) (Some c.args.group)
    (lookup (is_pair (other.lac, other.ci)) entries))
    c.self.view_is
