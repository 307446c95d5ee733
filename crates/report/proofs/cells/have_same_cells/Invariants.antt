use Rattle.std.proofs.Common.{◌≡◌, map, take}
use Rattle.handset.specs.Tape.{readings_of}
use Rattle.report.proofs.cells.have_same_cells.Given as goal

abbrev pub invariant-loop-place : goal.invariant-loop-place
invariant-loop-place l =
    map (λ r. r.cell) (take l.place l.records)
    ≡ map (λ reading. reading.cell) (readings_of (take l.place l.readings))
