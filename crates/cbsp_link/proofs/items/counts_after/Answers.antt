use Rattle.std.proofs.Common.{◌≡◌, ◌≢◌, length, rules, arith}
use Rattle.cbsp_link.specs.Item.{count_item}
use Rattle.cbsp_link.proofs.Lists.{all_done, count-taken, count-wrong}
use Rattle.cbsp_link.proofs.items.counts_after.Goals as goal

pub returns-in_default : goal.returns-in_default
returns-in_default c =
    count-wrong c.args.naming c.items.counts.items c.items.left.now c.args.octets.now
    (omega (
      arith,
      (let some : length c.items.left.now ≢ 0 = search (rules, c.is_empty.ensures, c.items-test.true) in
          some),
    )) c.in_default.ensures.taken c.items.invariant

pub items-preserved : goal.items-preserved
items-preserved c =
    rw c.in_ok-push.ensures.items
    (count-taken c.args.naming c.items.counts.items c.items.left.now c.args.octets.now c.in-Some.rest.now
    c.in-Some.count
    c.in-Some.ensures.taken c.items.invariant)

pub returns : goal.returns
returns c =
    all_done (count_item c.args.naming) c.items.counts.items c.items.left.now c.args.octets.now
    (omega (
      arith,
      (let none : length c.items.left.now ≡ 0 = search (rules, c.is_empty.ensures, c.items-test.false) in
          none),
    )) c.items.invariant
