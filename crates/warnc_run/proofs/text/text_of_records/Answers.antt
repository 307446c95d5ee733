use Rattle.std.proofs.Common.{Err, ap, refl}
use Rattle.handset.specs.Tape.{readings_of}
use Rattle.warnc_run.proofs.Readings.{only_memory}
use Rattle.warnc_run.proofs.text.text_of_records.Goals as goal

pub of_memory-requires : goal.of_memory-requires
of_memory-requires g c =
    only_memory c.in-Err.fault c.args.records.now c.args.records.now
    (readings_of c.in_ok-readings-in-Chart.readings.items) (readings_of c.deref-in-Chart.result.now) refl
    c.in_ok-readings-in-Chart.ensures (ap readings_of c.deref-in-Chart.ensures.value)
    (λ is. c.in-Err.ensures.cells (ap Err is)) c.in-Err.ensures.faults

pub of_memory-requires-in-Err-part_octets : goal.of_memory-requires-in-Err-part_octets
of_memory-requires-in-Err-part_octets g c =
    let readings = c.in_ok-readings-in-ChartPart in
    only_memory c.in-Err-part_octets.fault c.args.records.now c.args.records.now
    (readings_of readings.readings.items) (readings_of c.deref-in-ChartPart.result.now) refl
    readings.ensures (ap readings_of c.deref-in-ChartPart.ensures.value)
    (λ is. c.in-Err-part_octets.ensures.cells (ap Err is)) c.in-Err-part_octets.ensures.faults
