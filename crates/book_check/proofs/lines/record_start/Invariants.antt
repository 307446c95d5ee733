use Rattle.std.proofs.Common.{◌≡◌, ◌+◌, ◌-◌, drop, length}
use Rattle.book_check.specs.Lines.{blank_front}
use Rattle.book_check.specs.LineSteps.{IsBefore, SameRecord}
use Rattle.book_check.proofs.lines.record_start.Given as goal

abbrev pub invariant-blanks : goal.invariant-blanks
invariant-blanks l = record {
  before : IsBefore l.text l.cursor;
  at : l.cursor.at + blank_front (drop l.cursor.at l.text) ≡ l.fn.start.at + blank_front (drop l.fn.start.at l.text);
  same : SameRecord l.text l.fn.start l.cursor;
}

abbrev pub decreases-blanks : goal.decreases-blanks
decreases-blanks l = length l.text - l.cursor.at
