use Rattle.std.proofs.Common.{Err, ap, refl}
use Rattle.handset.specs.Tape.{readings_of}
use Rattle.warnc_run.proofs.Readings.{only_memory}
use Rattle.warnc_run.proofs.text.report_read.Goals as goal

pub of_memory-requires : goal.of_memory-requires
of_memory-requires c =
    only_memory c.in-Err.fault c.args.records.now c.args.records.now (readings_of c.args.readings.now)
    (readings_of c.args.readings.now) refl c.requires refl (λ is. c.in-Err.ensures.cells.0 (ap Err is))
    c.in-Err.ensures.faults
