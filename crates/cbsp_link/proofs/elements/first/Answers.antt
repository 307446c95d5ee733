use Rattle.std.proofs.Common.{sym, ◌∙◌, arith}
use Rattle.cbsp_link.proofs.Walks.{split_first, first-found, first-passed, first-ended, first-none}
use Rattle.cbsp_link.proofs.elements.first.Goals as goal

pub returns-then-number-wanted : goal.returns-then-number-wanted
returns-then-number-wanted c =
    sym c.walk.invariant ∙ first-found c.walk.left.now c.args.wanted _ _ _ _
    (split_first c.walk.left.now c.in-len1-up.len_at_least) c.in-Ok.ensures.taken c.if-number-wanted.true

pub walk-preserved : goal.walk-preserved
walk-preserved c =
    sym (first-passed c.walk.left.now c.args.wanted _ _ _ _
    (split_first c.walk.left.now c.in-len1-up.len_at_least) c.in-Ok.ensures.taken c.if-number-wanted.false)
    ∙ c.walk.invariant

pub returns-in-Err : goal.returns-in-Err
returns-in-Err c =
    sym c.walk.invariant ∙ first-ended c.walk.left.now c.args.wanted _ _ _
    (split_first c.walk.left.now c.in-len1-up.len_at_least) c.in-Err.ensures.fault

pub returns : goal.returns
returns c =
    sym c.walk.invariant ∙ first-none c.walk.left.now c.args.wanted (omega (arith, c.in_default.len_below))
