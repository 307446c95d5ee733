use Rattle.std.proofs.Common.{◌+◌, ◌*◌, ◌<◌, arith, length, get_or, set, ap}
use Rattle.std.proofs.lemmas.List.{get_or-set_same, length-set}
use Rattle.scheduler.specs.declared.turn.First.{First}
use Rattle.scheduler.specs.QueueSteps.{IsDue}
use Rattle.scheduler.proofs.Listed.{due_within, none_due, looked_first, listed_to_next, looked_more, all_listed}
use Rattle.scheduler.proofs.tournament.list_due.Goals as goal

pub returns-then-ahead_at-from : goal.returns-then-ahead_at-from
returns-then-ahead_at-from c =
    let wake = ap (λ (a : First). a.wake) c.ahead_at.ensures in
    none_due c.args.slot c.args.nodes.now c.args.listed.now c.requires.tree
    (omega (arith, wake, c.if-ahead_at-from.true, c.from.ensures))

pub bounds-listed-0 : goal.bounds-listed-0
bounds-listed-0 c =
    let wake = ap (λ (a : First). a.wake) c.ahead_at.ensures in
    let within = due_within c.args.slot c.args.nodes.now 0 (omega arith)
    (omega (arith, wake, c.if-ahead_at-from.false, c.from.ensures)) in
    omega (arith, within, c.requires.room)

pub loop-looked-init : goal.loop-looked-init
loop-looked-init c =
    let listed = c.args.listed.now in
    let wake = ap (λ (a : First). a.wake) c.ahead_at.ensures in
    let due : IsDue c.args.slot c.args.nodes.now 0 =
    omega (arith, wake, c.if-ahead_at-from.false, c.from.ensures) in
    let within = due_within c.args.slot c.args.nodes.now 0 (omega arith) due in
    let long : 0 < length listed = omega (arith, within, c.requires.room) in (
      1,
      looked_first c.args.slot c.args.nodes.now (set listed 0 0) (omega (arith, long, length-set listed 0 0))
          (get_or-set_same listed 0 0 0 long) within due,
    )

pub bounds-listed-looked : goal.bounds-listed-looked
bounds-listed-looked c =
    omega (
      arith,
      c.loop-looked-test.true,
      c.loop-looked.invariant.1.are.room,
      c.requires.room,
      c.loop-looked.auto.listed,
      length-set c.args.listed.now 0 0,
    )

pub list_below-count-requires-clause-before : goal.list_below-count-requires-clause-before
list_below-count-requires-clause-before c =
    listed_to_next c.args.slot c.args.nodes.now c.loop-looked.listed c.loop-looked.count c.loop-looked.looked
    c.loop-looked.invariant.0 c.requires.tree c.loop-looked.invariant.1 c.loop-looked-test.true

pub loop-looked-preserved : goal.loop-looked-preserved
loop-looked-preserved c = (
  get_or c.loop-looked.listed c.loop-looked.looked 0 * 8 + 9,
  looked_more c.args.slot c.args.nodes.now c.loop-looked.listed c.list_below-count.new.listed c.loop-looked.count
      c.list_below-count.result c.loop-looked.looked c.loop-looked.invariant.0 c.loop-looked.invariant.1
      c.loop-looked-test.true c.list_below-count.ensures.stays c.list_below-count.ensures.more
      c.list_below-count.ensures.listed,
)

pub returns : goal.returns
returns c =
    let was = c.loop-looked.invariant.1 in
    all_listed c.args.slot c.args.nodes.now c.loop-looked.listed c.loop-looked.count c.loop-looked.invariant.0
    c.requires.tree was.are was.some (λ i h. was.done i (omega (arith, h, was.within, c.loop-looked-test.false)))
