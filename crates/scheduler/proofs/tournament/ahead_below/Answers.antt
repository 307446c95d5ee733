use Rattle.std.proofs.Common.{◌≡◌, ◌+◌, ◌-◌, ◌*◌, ◌<◌, ◌≤◌, length, get_or, ap, sym, ◌∙◌, arith}
use Rattle.scheduler.specs.declared.turn.First.{First}
use Rattle.scheduler.specs.QueueSteps.{ahead_among, joined}
use Rattle.scheduler.proofs.FirstTurn.{blank}
use Rattle.scheduler.proofs.Tree.{ahead_at-is, among-past, among_more, among_short, below_is}
use Rattle.scheduler.proofs.tournament.ahead_below.Goals as goal

pub returns-then-place-nodes : goal.returns-then-place-nodes
returns-then-place-nodes c =
    c.nothing-ahead.ensures ∙ sym (below_is c.args.nodes.now c.args.place ∙ among-past c.args.nodes.now
    (c.args.place * 8 + 1) 8 (omega (arith, c.if-place-nodes.true)))

pub loop-below-preserved : goal.loop-below-preserved
loop-below-preserved c =
    let nodes = c.args.nodes.now in
    let first = c.args.place * 8 + 1 in
    let place = first + c.loop-below.below in
    let within : place < length nodes = omega (arith, c.loop-below-test.true) in
    c.joined-ahead.ensures ∙ ap (λ (a : First). joined a (get_or nodes place blank).ahead) c.loop-below.invariant
    ∙ ap (joined (ahead_among nodes first c.loop-below.below)) (sym (ahead_at-is nodes place blank within))
    ∙ sym (among_more nodes first c.loop-below.below)

pub returns : goal.returns
returns c =
    let nodes = c.args.nodes.now in
    let first = c.args.place * 8 + 1 in
    let some = c.loop-below.below in
    let past : length nodes ≤ first + some = omega (arith, c.loop-below-test.false) in
    let few : some ≤ 8 = omega (arith, c.if-place-nodes-2.false, c.loop-below.auto.below-end) in
    let all : some + (8 - some) ≡ 8 = omega (arith, few) in
    c.loop-below.invariant ∙ among_short nodes first some (8 - some) past ∙ ap (ahead_among nodes first) all
    ∙ sym (below_is nodes c.args.place)
