use Rattle.std.proofs.Common.{◌<◌, ◌≤◌, length, arith}
use Rattle.order_desk.proofs.NotesByCell.{none_ended, one_ended, noted_ended}
use Rattle.order_desk.proofs.settle.notes_by_cell.end_pass.Goals as goal

pub loop-place-init : goal.loop-place-init
loop-place-init c = none_ended c.args.noted.now

pub loop-place-preserved : goal.loop-place-preserved
loop-place-preserved c = one_ended c.loop-place.place c.args.noted.now c.loop-place.noted c.index-noted-place.result
    c.end_pass.new.self within c.end_pass.ensures c.loop-place.invariant
  where
    within : c.loop-place.place < length c.loop-place.noted
    within = omega (arith, c.loop-place-test.true, c.loop-place.invariant.places)

pub returns-clause-ended : goal.returns-clause-ended
returns-clause-ended c = λ books earlier given are. noted_ended books earlier given c.args.noted.now c.loop-place.noted
    c.loop-place.place are all c.loop-place.invariant
  where
    all : length c.loop-place.noted ≤ c.loop-place.place
    all = omega (arith, c.loop-place-test.false, c.loop-place.invariant.places)
