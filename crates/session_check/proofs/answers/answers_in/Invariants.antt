use Rattle.std.proofs.Common.{◌≡◌, All, take}
use Rattle.order_desk.specs.Reply.{IsAnswerTo, cells_answered}
use Rattle.session_check.specs.NotedSteps.{AreAnswersNoted, AreStanding, commands_in}
use Rattle.session_check.proofs.answers.answers_in.Given as goal

abbrev pub invariant-loop-cell : goal.invariant-loop-cell
invariant-loop-cell l = record {
  answered : cells_answered l.answers.items ≡ take l.cell-index l.cells;
  fit : All (λ a. IsAnswerTo l.command a.1) l.answers.items;
  noted : AreAnswersNoted l.records l.at l.command l.answers.items (commands_in l.notes) (commands_in l.left);
  standing : AreStanding l.records (commands_in l.left);
}
