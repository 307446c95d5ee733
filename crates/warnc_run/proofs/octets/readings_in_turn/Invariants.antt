use Rattle.std.proofs.Common.{◌≡◌, map, take}
use Rattle.handset.specs.Tape.{readings_of}
use Rattle.warnc_run.specs.Products.{reading_of_record}
use Rattle.warnc_run.proofs.octets.readings_in_turn.Given as goal

abbrev pub invariant-loop-record : goal.invariant-loop-record
invariant-loop-record l = readings_of l.readings.items ≡ map reading_of_record (take l.record-index l.records)
