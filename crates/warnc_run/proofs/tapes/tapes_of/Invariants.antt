use Rattle.std.proofs.Common.{◌≡◌, map}
use Rattle.cbch_blocks.specs.RecordBlocks.{tape_of_record}
use Rattle.warnc_run.proofs.tapes.tapes_of.Given as goal

abbrev pub invariant-loop-record : goal.invariant-loop-record
invariant-loop-record l = l.tapes.items ≡ map tape_of_record l.yielded
