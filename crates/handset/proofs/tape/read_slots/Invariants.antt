use Rattle.std.proofs.Common.{◌≡◌, ◌-◌, ◌≤◌, false}
use Rattle.device_ends.specs.Source.{reader_of, source_failed}
use Rattle.handset.proofs.TapeLaws.{Fed}
use Rattle.handset.proofs.tape.read_slots.Given as goal

abbrev pub invariant-loop-left : goal.invariant-loop-left
invariant-loop-left g l = record {
  within : l.left ≤ l.slots;
  fed :
      Fed (g.R.Read.remaining (reader_of l.initial.source)) (g.R.Read.remaining (reader_of l.source))
      (l.slots - l.left) l.handset;
  not_failed : source_failed l.source ≡ false;
}

abbrev pub decreases-loop-left : goal.decreases-loop-left
decreases-loop-left g l = l.left
