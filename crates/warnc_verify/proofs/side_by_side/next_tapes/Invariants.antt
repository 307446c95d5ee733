use Rattle.std.proofs.Common.{◌≡◌, ◌+◌, ◌-◌, ◌<◌, ◌≤◌, false, true, length}
use Rattle.device_ends.specs.Source.{reader_of, source_failed}
use Rattle.handset.specs.Recording.{ReadsRecordings}
use Rattle.warnc_verify.specs.VerifySteps.{held_by}
use Rattle.warnc_verify.proofs.side_by_side.next_tapes.Given as goal

abbrev pub invariant-loop-alloc : goal.invariant-loop-alloc
invariant-loop-alloc g l = record {
  read : ReadsRecordings (g.R.Read.remaining (reader_of l.initial.tapes)) (g.R.Read.remaining (reader_of l.tapes))
      (held_by l.batch.items);
  count : l.recorder ≡ l.initial.recorder + length l.batch.items;
  few : 0 < length l.batch.items → l.recorder ≤ 64;
  good : 0 < length l.batch.items → source_failed l.tapes ≡ false;
  stays : source_failed l.initial.tapes ≡ true → l.tapes ≡ l.initial.tapes;
}

abbrev pub decreases-loop-alloc : goal.decreases-loop-alloc
decreases-loop-alloc g l = l.most - length l.batch.items
