use Rattle.std.proofs.Common.{◌≡◌, drop, find}
use Rattle.bsc_table.specs.Record.{is_stop_of}
use Rattle.verification.proofs.asked.stop_among.Given as goal

abbrev pub invariant-loop-entry : goal.invariant-loop-entry
invariant-loop-entry l =
    find (is_stop_of l.id l.serial) (drop l.entry-index l.later) ≡ find (is_stop_of l.id l.serial) l.later
