use Rattle.std.proofs.Common.{rules}
use Rattle.cbch_blocks.proofs.Fronts.{split_off, not_split_off}
use Rattle.cbch_blocks.proofs.front.strip_front.Goals as goal

pub returns-then-are_same : goal.returns-then-are_same
returns-then-are_same c =
    let cases = c.in_ok-own.ensures.cases in
    split_off c.args.octets.now c.args.front.now c.in_ok-own.own.now c.in_ok-own.rest.now cases.1 cases.2
    (c.are_same.ensures.0 (search (rules, c.if-are_same.true)))

pub returns-else-are_same : goal.returns-else-are_same
returns-else-are_same c =
    let cases = c.in_ok-own.ensures.cases in
    not_split_off c.args.octets.now c.args.front.now c.in_ok-own.own.now cases.1
    (λ same. absurd (search (rules, c.if-are_same.false, c.are_same.ensures.1 same)))
