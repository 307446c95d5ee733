use Rattle.std.proofs.Common.{◌<◌, ap, arith, length, min, ◌∙◌}
use Rattle.scheduler.proofs.Forest.{cut_at, cut_same, forest_of}
use Rattle.scheduler.proofs.trees.+build_trees.Goals as goal

pub returns-clause-trees : goal.returns-clause-trees
returns-clause-trees t c =
    let nodes = c.args.nodes.now in
    let cut = c.split_at_mut-near in
    let near = c.build-2.new.nodes in
    let far = c.build_trees.new.nodes in
    let some : 0 < c.args.later = omega (arith, c.if-later-eq0.false) in
    let is_cut = cut_at c.args.later c.min.result nodes cut.result.0.now cut.result.1.now (c.min.ensures
    ∙ ap (λ n. min n (length nodes)) c.tree_size.ensures) cut.ensures.value cut.ensures.front_len in
    forest_of c.args.later near far some (cut_same c.args.later cut.result.0.now cut.result.1.now near far
    (omega (arith, c.build-2.auto.nodes)) (omega (arith, c.build_trees.auto.nodes)) is_cut) c.build-2.ensures.tree
    c.build_trees.ensures.trees
