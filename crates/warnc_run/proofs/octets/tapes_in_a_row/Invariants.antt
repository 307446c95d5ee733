use Rattle.std.proofs.Common.{◌≡◌, take}
use Rattle.std.specs.List.{flat_map}
use Rattle.cbch_blocks.specs.RecordBlocks.{tape_of_record}
use Rattle.warnc_run.proofs.octets.tapes_in_a_row.Given as goal

abbrev pub invariant-loop-record : goal.invariant-loop-record
invariant-loop-record l = l.octets.items ≡ flat_map tape_of_record (take l.record-index l.records)
