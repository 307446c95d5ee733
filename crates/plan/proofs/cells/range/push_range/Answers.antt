use Rattle.std.proofs.Common.{◌≡◌, ◌+◌, ◌-◌, append_assoc, arith, rules}
use Rattle.plan.proofs.Ranges.{cells_from_more}
use Rattle.plan.proofs.cells.range.push_range.Goals as goal

pub loop-place-preserved : goal.loop-place-preserved
loop-place-preserved c =
    let more = cells_from_more c.args.range.lac c.args.range.first c.loop-place.place in
    search (rules, more, c.loop-place.invariant, append_assoc)

pub returns : goal.returns
returns c =
    let more = cells_from_more c.args.range.lac c.args.range.first (c.args.range.last - c.args.range.first) in
    let all : c.loop-place.place ≡ c.args.range.last - c.args.range.first = omega (arith, c.loop-place-test.false) in
    let last : c.args.range.first + (c.args.range.last - c.args.range.first) ≡ c.args.range.last = omega arith in
    search (rules, more, all, last, c.loop-place.invariant, append_assoc)
