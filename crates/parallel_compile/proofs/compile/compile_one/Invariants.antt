use Rattle.std.proofs.Common.{◌≡◌, map, take}
use Rattle.cbch_blocks.specs.RecordBlocks.{tape_of_record}
use Rattle.parallel_compile.proofs.compile.compile_one.Given as goal

abbrev pub invariant-loop-record : goal.invariant-loop-record
invariant-loop-record l = l.tapes.items ≡ map tape_of_record (take l.record-index l.records)
