use Rattle.std.proofs.Common.{◌≡◌, ℕ, ◌+◌, ◌-◌, ◌<◌, arith, get_or, subst}
use Rattle.scheduler.proofs.Listed.{AreRenewed, due_within, renewed_none, renewed_more}
use Rattle.scheduler.proofs.tournament.renew_listed.Goals as goal

pub loop-left-init : goal.loop-left-init
loop-left-init c = (
  omega arith,
  renewed_none c.args.slot c.args.nodes.now c.args.listed.now c.args.count c.requires.due c.requires.kept,
)

pub refresh-requires-clause-within : goal.refresh-requires-clause-within
refresh-requires-clause-within c =
    let was = c.loop-left.invariant.1 in
    let within = due_within c.args.slot c.args.nodes.now (get_or c.args.listed.now (c.loop-left.left - 1) 0)
    (omega arith) (c.requires.due.due (c.loop-left.left - 1)
    (omega (arith, c.loop-left-test.true, c.loop-left.invariant.0))) in
    omega (arith, within, was.long)

pub loop-left-preserved : goal.loop-left-preserved
loop-left-preserved c =
    let left = c.loop-left.left - 1 in
    let was = c.loop-left.invariant.1 in
    let its = c.refresh.ensures in
    let less : left < c.args.count = omega (arith, c.loop-left-test.true, c.loop-left.invariant.0) in
    let one_more : c.loop-left.left ≡ left + 1 = omega (arith, c.loop-left-test.true) in
    let Renewed : ℕ → Type 0 = λ n. AreRenewed c.args.slot c.args.listed.now n c.args.nodes.now c.loop-left.nodes in (
      omega (arith, less),
      renewed_more c.args.slot c.args.listed.now c.args.count left c.args.nodes.now c.loop-left.nodes
          c.refresh.new.nodes (omega arith) c.requires.kept.tree c.requires.due less (subst Renewed one_more was)
          c.refresh.auto.nodes its.seen its.right its.turns its.others its.awake its.node its.nodes,
    )

pub returns-clause-kept : goal.returns-clause-kept
returns-clause-kept c =
    let was = c.loop-left.invariant.1 in
    record {
      right = was.right;
      turns = was.turns;
      tree = λ k. was.nodes k (λ i h. absurd (omega (arith, h, c.loop-left-test.false)));
    }

pub returns-clause-awake : goal.returns-clause-awake
returns-clause-awake c =
    c.loop-left.invariant.1.awake 0 (λ i h. absurd (omega (arith, h, c.loop-left-test.false)))
