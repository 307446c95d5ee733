use Rattle.std.proofs.Common.{◌≡◌, ℕ, ◌+◌, ◌*◌, arith, subst, sym, ap, ◌∙◌, ◌-◌, ◌<◌, get_or, set, take}
use Rattle.std.proofs.Common.{drop, leb, length, cond}
use Rattle.std.proofs.lemmas.List.{get_or-drop, get_or-take}
use Rattle.scheduler.specs.declared.turn.First.{First}
use Rattle.scheduler.specs.declared.tournament.Node.{Node}
use Rattle.scheduler.specs.QueueSteps.{AreListed, ahead_at}
use Rattle.scheduler.proofs.FirstTurn.{blank}
use Rattle.scheduler.proofs.Tree.{ahead_at-is}
use Rattle.scheduler.proofs.Listed.{listed_place, listed_other}
use Rattle.scheduler.proofs.tournament.list_eight.Goals as goal

pub loop-below-preserved : goal.loop-below-preserved
loop-below-preserved c =
    let nodes = c.args.nodes.now in
    let old = c.loop-below.listed in
    let found = c.loop-below.found in
    let first = c.args.place * 8 + 1 in
    let place = first + c.loop-below.below in
    let was = c.loop-below.invariant in
    let eight = take (first + 8 - first) (drop first nodes) in
    let within : place < length nodes = omega (arith, c.requires.within, c.loop-below-test.true) in
    let room : found < length old = omega (arith, was.1.1.few, c.requires.room, c.loop-below.auto.listed, within) in
    let here : get_or eight c.loop-below.below blank ≡ get_or nodes place blank =
    get_or-take (first + 8 - first) (drop first nodes) c.loop-below.below blank (omega (arith, c.loop-below-test.true))
    ∙ get_or-drop first nodes c.loop-below.below blank in
    let wake = ap (λ (n : Node). n.ahead.wake) here
    ∙ sym (ap (λ (a : First). a.wake) (ahead_at-is nodes place blank within)) in
    let due = ap (λ w. leb w c.from.result) wake ∙ ap (leb (ahead_at nodes place).wake) c.from.ensures in
    let next : place + 1 ≡ first + (c.loop-below.below + 1) = omega arith in
    let its = c.list_place-found.ensures in
    let Listed : ℕ → Type 0 = λ bound. AreListed c.args.slot nodes (set old found place) (found
    + cond (leb (get_or eight c.loop-below.below blank).ahead.wake c.from.result) 1 0) bound in
    let are = subst Listed next (listed_place c.args.slot nodes old found place _ was.1.1 room within due) in (
      omega (arith, was.0, its.counted),
      (
        λ i h. ap (λ listed. get_or listed i 0) its.written ∙ (listed_other old found place i (omega (arith, h, was.0))
            ∙ was.1.0 i h),
        rw (its.written, its.counted) are,
      ),
    )

pub list_place-found-requires : goal.list_place-found-requires
list_place-found-requires c =
    let are = c.loop-below.invariant.1.1 in
    omega (
      arith,
      are.room,
      are.few,
      c.requires.room,
      c.requires.within,
      c.loop-below.auto.listed,
      c.loop-below-test.true,
    )

pub returns-clause-listed : goal.returns-clause-listed
returns-clause-listed c =
    let all : c.args.place * 8 + 1 + c.loop-below.below ≡ c.args.place * 8 + 9 =
    omega (arith, c.loop-below-test.false, c.loop-below.auto.below-end) in
    let Listed : ℕ → Type 0 = λ bound. AreListed c.args.slot c.args.nodes.now c.loop-below.listed c.loop-below.found
    bound in
    subst Listed all c.loop-below.invariant.1.1
