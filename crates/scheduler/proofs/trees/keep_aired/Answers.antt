use Rattle.std.proofs.Common.{refl, sym, ◌∙◌, get_or}
use Rattle.scheduler.specs.declared.tournament.Node.{Node}
use Rattle.scheduler.proofs.FirstTurn.{blank}
use Rattle.scheduler.proofs.Forest.{forest_set}
use Rattle.scheduler.proofs.Tree.{kept_as-kept, own_at-is}
use Rattle.scheduler.proofs.trees.keep_aired.Goals as goal

pub returns-then-kept-clause-kept : goal.returns-then-kept-clause-kept
returns-then-kept-clause-kept c = kept_as-kept c.args.nodes.now c.args.place blank c.args.kept

pub returns-then-kept-clause-trees : goal.returns-then-kept-clause-trees
returns-then-kept-clause-trees c =
    let n : Node = record (get_or c.args.nodes.now c.args.place blank) { kept = c.args.kept } in
    forest_set 2 c.args.nodes.now c.args.place n c.requires.within refl (sym (c.requires.turn c.if-kept.true)
    ∙ own_at-is c.args.nodes.now c.args.place blank c.requires.within) c.requires.trees
