use Rattle.std.proofs.Common.{◌≡◌, drop}
use Rattle.std.specs.List.{list_any}
use Rattle.book_remarks.specs.Remarks.{starts}
use Rattle.book_remarks.proofs.remarks.has_started.Given as goal

abbrev pub invariant-loop-entry : goal.invariant-loop-entry
invariant-loop-entry l = list_any starts (drop l.entry-index l.log) ≡ list_any starts l.log
