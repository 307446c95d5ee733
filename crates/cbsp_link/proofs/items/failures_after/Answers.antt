use Rattle.std.proofs.Common.{arith}
use Rattle.cbsp_link.specs.Item.{failure_item}
use Rattle.cbsp_link.proofs.Lists.{all_done, failure-taken, failure-wrong}
use Rattle.cbsp_link.proofs.Walks.{split_first}
use Rattle.cbsp_link.proofs.items.failures_after.Goals as goal

pub returns-in_default-failure : goal.returns-in_default-failure
returns-in_default-failure c =
    failure-wrong c.items.failures.items c.items.left.now _ _ c.args.octets.now
    (split_first c.items.left.now c.in-len1-up.len_at_least) c.in_default-failure.ensures.taken c.items.invariant

pub items-preserved : goal.items-preserved
items-preserved c =
    rw c.in_ok-push.ensures.items
    (failure-taken c.items.failures.items c.items.left.now _ _ c.args.octets.now c.in-Some.rest.now
    c.in-Some.failure (split_first c.items.left.now c.in-len1-up.len_at_least) c.in-Some.ensures.taken
    c.items.invariant)

pub returns : goal.returns
returns c =
    all_done failure_item c.items.failures.items c.items.left.now c.args.octets.now
    (omega (arith, c.in_default.len_below)) c.items.invariant
