use Rattle.std.proofs.Common.{◌≡◌, ℕ, ◌+◌, ◌*◌, ◌<◌, ◌≤◌, arith, ap, length, leb, cond, set, get_or, sym, subst, ◌∙◌}
use Rattle.scheduler.specs.declared.turn.First.{First}
use Rattle.scheduler.specs.QueueSteps.{AreListed, ahead_at}
use Rattle.scheduler.proofs.FirstTurn.{blank}
use Rattle.scheduler.proofs.Tree.{ahead_at-is}
use Rattle.scheduler.proofs.Listed.{listed_end, listed_other, listed_place}
use Rattle.scheduler.proofs.tournament.list_below.Goals as goal

pub returns-then-place-nodes-clause-listed : goal.returns-then-place-nodes-clause-listed
returns-then-place-nodes-clause-listed c =
    listed_end c.args.slot c.args.nodes.now c.args.listed.now c.args.count (c.args.place * 8 + 1)
    (c.args.place * 8 + 9) (omega arith) c.requires.before (omega arith) (omega (arith, c.if-place-nodes.true))

pub loop-below-preserved : goal.loop-below-preserved
loop-below-preserved c =
    let nodes = c.args.nodes.now in
    let old = c.loop-below.listed in
    let found = c.loop-below.found in
    let place = c.args.place * 8 + 1 + c.loop-below.below in
    let was = c.loop-below.invariant in
    let within : place < length nodes = omega (arith, c.loop-below-test.true) in
    let room : found < length old = omega (arith, was.1.1.few, c.requires.room, c.loop-below.auto.listed, within) in
    let wake = sym (ap (λ (a : First). a.wake) (ahead_at-is nodes place blank within)) in
    let due = ap (λ w. leb w c.from.result) wake ∙ ap (leb (ahead_at nodes place).wake) c.from.ensures in
    let next : place + 1 ≡ c.args.place * 8 + 1 + (c.loop-below.below + 1) = omega arith in
    let its = c.list_place-found.ensures in
    let Listed : ℕ → Type 0 = λ bound. AreListed c.args.slot nodes (set old found place) (found
    + cond (leb (get_or nodes place blank).ahead.wake c.from.result) 1 0) bound in
    let are = subst Listed next (listed_place c.args.slot nodes old found place _ was.1.1 room within due) in (
      omega (arith, was.0, its.counted),
      (
        λ i h. ap (λ listed. get_or listed i 0) its.written ∙ (listed_other old found place i (omega (arith, h, was.0))
            ∙ was.1.0 i h),
        rw (its.written, its.counted) are,
      ),
    )

pub returns-clause-listed : goal.returns-clause-listed
returns-clause-listed c =
    let first = c.args.place * 8 + 1 in
    let past : length c.args.nodes.now ≤ first + c.loop-below.below = omega (arith, c.loop-below-test.false) in
    listed_end c.args.slot c.args.nodes.now c.loop-below.listed c.loop-below.found (first + c.loop-below.below)
    (c.args.place * 8 + 9) (omega arith) c.loop-below.invariant.1.1
    (omega (arith, c.if-place-nodes-2.false, c.loop-below.auto.below-end)) past
