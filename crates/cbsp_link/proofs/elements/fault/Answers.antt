use Rattle.std.proofs.Common.{sym, ◌∙◌, arith}
use Rattle.cbsp_link.proofs.Walks.{split_first, fault-taken, fault-met, fault-none}
use Rattle.cbsp_link.proofs.elements.fault.Goals as goal

pub walk-preserved : goal.walk-preserved
walk-preserved c =
    sym (fault-taken c.walk.left.now _ _ _ _ (split_first c.walk.left.now c.in-len1-up.len_at_least)
    c.in-Ok.ensures.taken) ∙ c.walk.invariant

pub returns-in-Err : goal.returns-in-Err
returns-in-Err c =
    sym (fault-met c.walk.left.now _ _ _ (split_first c.walk.left.now c.in-len1-up.len_at_least)
    c.in-Err.ensures.fault) ∙ c.walk.invariant

pub returns : goal.returns
returns c = sym (fault-none c.walk.left.now (omega (arith, c.in_default.len_below))) ∙ c.walk.invariant
