use Rattle.bsc_table.proofs.History.Steps.{opened_are_legal, step_keeps_legal, steps_keep_legal}
use Rattle.bsc_table.proofs.laws.steps_of_a_cell.Goals as goal

pub returns : goal.returns
returns c = record {
  opened_are_legal = opened_are_legal;
  step_keeps_legal = step_keeps_legal;
  steps_keep_legal = steps_keep_legal;
}
