use Rattle.std.proofs.Common.{sym, ◌∙◌}
use Rattle.cbsp_wire.proofs.ItemLemmas.{failures_are_by_lac_and_ci-first}
use Rattle.cbsp_wire.proofs.lists.failures_are_by_lac_and_ci.Goals as goal

pub failures-preserved : goal.failures-preserved
failures-preserved c =
    let first = failures_are_by_lac_and_ci-first c.failures.left.now c.in-len6-up.len_at_least in
    sym (rw c.if-discriminator-ne1.false at first) ∙ c.failures.invariant
