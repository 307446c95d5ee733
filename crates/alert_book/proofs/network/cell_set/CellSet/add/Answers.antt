use Rattle.std.proofs.Common.{◌∙◌, ap}
use Rattle.std.specs.Prelude.{◌||◌}
use Rattle.cbsp_wire.specs.Range.{is_cell}
use Rattle.alert_book.specs.CellPairs.{has_cell}
use Rattle.alert_book.proofs.KeptLaws.{either_cell}
use Rattle.alert_book.proofs.network.cell_set.CellSet.add.Goals as goal

pub returns-clause-added : goal.returns-clause-added
returns-clause-added c = λ other.
    c.in_ok-insert.ensures.updates.0 (other.lac, other.ci)
    ∙ either_cell (is_cell c.args.cell other) (has_cell c.self.inside.cells.keys other)
    ∙ ap (λ keys. has_cell keys other || is_cell c.args.cell other) c.self.view_is
