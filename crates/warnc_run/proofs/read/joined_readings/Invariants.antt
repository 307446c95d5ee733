use Rattle.std.proofs.Common.{◌≡◌, All}
use Rattle.std.specs.List.{flat_map}
use Rattle.handset.specs.Tape.{readings_of}
use Rattle.warnc_run.specs.ReadSteps.{WasMade, readings_in}
use Rattle.warnc_run.proofs.read.joined_readings.Given as goal

abbrev pub invariant-loop-made : goal.invariant-loop-made
invariant-loop-made l = (readings_of l.readings.items ≡ flat_map readings_in l.yielded) × All WasMade l.yielded
