use Rattle.std.proofs.Common.{ap, ◌∙◌, map}
use Rattle.scheduler.specs.QueueSteps.{seen}
use Rattle.scheduler.proofs.Found.{stopped_none, stopped_one, right_stopped, turns_stopped}
use Rattle.scheduler.proofs.trees.stop_at.Goals as goal

pub returns-in-None-clause-seen : goal.returns-in-None-clause-seen
returns-in-None-clause-seen c = stopped_none c.args.entry c.args.slot c.args.nodes.now c.in-None.ensures

pub returns-in-Some-clause-seen : goal.returns-in-Some-clause-seen
returns-in-Some-clause-seen c =
    ap (map (seen c.args.slot)) c.change_in.ensures.kept ∙ rw c.stopped-kept.ensures (stopped_one c.args.entry
    c.args.slot c.args.nodes.now c.in-Some.place c.requires.rising c.in-Some.ensures)

pub returns-in-Some-clause-kept : goal.returns-in-Some-clause-kept
returns-in-Some-clause-kept c = record {
  right = rw (c.change_in.ensures.kept, c.stopped-kept.ensures) (right_stopped c.args.slot c.args.nodes.now
      c.in-Some.place c.in-Some.ensures.0 c.requires.kept.right);
  turns = rw (c.change_in.ensures.kept, c.stopped-kept.ensures) (turns_stopped c.args.slot c.args.nodes.now
      c.in-Some.place c.in-Some.ensures.0 c.requires.kept.turns);
  trees = c.change_in.ensures.trees;
}
