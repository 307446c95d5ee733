-- The cells so far have answered.
use Rattle.std.proofs.Common.{◌≡◌, take}
use Rattle.order_desk.specs.Reply.{cells_answered}
use Rattle.session_check.specs.AloneSteps.{HaveAnsweredFrom}
use Rattle.session_check.proofs.alone.answers_of.Given as goal

abbrev pub invariant-loop-cell : goal.invariant-loop-cell
invariant-loop-cell g l = record {
  named : cells_answered l.answers.items ≡ take l.cell-index l.named;
  answered : HaveAnsweredFrom l.cells l.at l.command l.answers.items l.fn.books l.books;
}
