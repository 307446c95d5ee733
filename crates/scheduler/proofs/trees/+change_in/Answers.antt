use Rattle.std.proofs.Common.{◌<◌, arith, length, min, set, ap, subst, sym, ◌∙◌, refl}
use Rattle.std.proofs.lemmas.List.{length-append}
use Rattle.scheduler.specs.QueueSteps.{kept_in, IsForest}
use Rattle.scheduler.proofs.Forest.{cut_at, cut_same, forest_of, forest_parts, kept_near, kept_far}
use Rattle.scheduler.proofs.trees.+change_in.Goals as goal

pub change-requires-then-place-size-clause-tree : goal.change-requires-then-place-size-clause-tree
change-requires-then-place-size-clause-tree t c =
    let nodes = c.args.nodes.now in
    let cut = c.split_at_mut-near in
    let some : 0 < c.args.later = omega (arith, c.if-later-eq0.false) in
    let is_cut = cut_at c.args.later c.min.result nodes cut.result.0.now cut.result.1.now (c.min.ensures
    ∙ ap (λ n. min n (length nodes)) c.tree_size.ensures) cut.ensures.value cut.ensures.front_len in
    (forest_parts c.args.later cut.result.0.now cut.result.1.now some is_cut (subst (IsForest c.args.later)
    cut.ensures.value c.requires.trees)).0

pub change_in-requires : goal.change_in-requires
change_in-requires t c =
    let nodes = c.args.nodes.now in
    let cut = c.split_at_mut-near in
    let some : 0 < c.args.later = omega (arith, c.if-later-eq0.false) in
    let is_cut = cut_at c.args.later c.min.result nodes cut.result.0.now cut.result.1.now (c.min.ensures
    ∙ ap (λ n. min n (length nodes)) c.tree_size.ensures) cut.ensures.value cut.ensures.front_len in (
      omega (arith, some, c.decreases),
      (
        omega (
          arith,
          c.requires.within,
          c.if-place-size.false,
          ap length cut.ensures.value,
          length-append cut.result.0.now cut.result.1.now,
        ),
        (forest_parts c.args.later cut.result.0.now cut.result.1.now some is_cut (subst (IsForest c.args.later)
            cut.ensures.value c.requires.trees)).1,
      ),
    )

pub returns-then-place-size-clause-kept : goal.returns-then-place-size-clause-kept
returns-then-place-size-clause-kept t c =
    let cut = c.split_at_mut-near in
    kept_near cut.result.0.now cut.result.1.now c.change-then-place-size.new.nodes c.args.place c.args.kept
    c.if-place-size.true c.change-then-place-size.ensures.kept
    ∙ ap (λ ns. set (kept_in ns) c.args.place c.args.kept) (sym cut.ensures.value)

pub returns-then-place-size-clause-trees : goal.returns-then-place-size-clause-trees
returns-then-place-size-clause-trees t c =
    let nodes = c.args.nodes.now in
    let cut = c.split_at_mut-near in
    let new = c.change-then-place-size.new.nodes in
    let some : 0 < c.args.later = omega (arith, c.if-later-eq0.false) in
    let is_cut = cut_at c.args.later c.min.result nodes cut.result.0.now cut.result.1.now (c.min.ensures
    ∙ ap (λ n. min n (length nodes)) c.tree_size.ensures) cut.ensures.value cut.ensures.front_len in
    forest_of c.args.later new cut.result.1.now some (cut_same c.args.later cut.result.0.now cut.result.1.now new
    cut.result.1.now (omega (arith, c.change-then-place-size.auto.nodes)) refl is_cut)
    c.change-then-place-size.ensures.tree (forest_parts c.args.later cut.result.0.now cut.result.1.now some is_cut
    (subst (IsForest c.args.later) cut.ensures.value c.requires.trees)).1

pub returns-else-place-size-clause-kept : goal.returns-else-place-size-clause-kept
returns-else-place-size-clause-kept t c =
    let cut = c.split_at_mut-near in
    kept_far cut.result.0.now cut.result.1.now c.change_in.new.nodes c.args.place c.args.kept
    (omega (arith, c.if-place-size.false)) c.change_in.ensures.kept
    ∙ ap (λ ns. set (kept_in ns) c.args.place c.args.kept) (sym cut.ensures.value)

pub returns-else-place-size-clause-trees : goal.returns-else-place-size-clause-trees
returns-else-place-size-clause-trees t c =
    let nodes = c.args.nodes.now in
    let cut = c.split_at_mut-near in
    let new = c.change_in.new.nodes in
    let some : 0 < c.args.later = omega (arith, c.if-later-eq0.false) in
    let is_cut = cut_at c.args.later c.min.result nodes cut.result.0.now cut.result.1.now (c.min.ensures
    ∙ ap (λ n. min n (length nodes)) c.tree_size.ensures) cut.ensures.value cut.ensures.front_len in
    forest_of c.args.later cut.result.0.now new some (cut_same c.args.later cut.result.0.now cut.result.1.now
    cut.result.0.now new refl (omega (arith, c.change_in.auto.nodes)) is_cut) (forest_parts c.args.later
    cut.result.0.now cut.result.1.now some is_cut (subst (IsForest c.args.later) cut.ensures.value
    c.requires.trees)).0 c.change_in.ensures.trees
