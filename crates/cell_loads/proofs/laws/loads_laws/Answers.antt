use Rattle.cell_loads.proofs.LoadsLaws.{fullest_has_a_line, lines_are_changes}
use Rattle.cell_loads.proofs.laws.loads_laws.Goals as goal

pub returns : goal.returns
returns c = record {
  changes = lines_are_changes;
  fullest = fullest_has_a_line c.chart_laws.ensures.fullest;
}
