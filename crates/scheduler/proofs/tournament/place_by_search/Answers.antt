use Rattle.std.proofs.Common.{arith}
use Rattle.scheduler.proofs.Places.{lesser_before, no_lesser_behind}
use Rattle.scheduler.proofs.tournament.place_by_search.Goals as goal

pub loop-low-preserved-then-nodes-middle : goal.loop-low-preserved-then-nodes-middle
loop-low-preserved-then-nodes-middle c =
    let inv = c.loop-low.invariant in (
      omega (arith, c.loop-low-test.true),
      (
        inv.1.0,
        (
          λ k d h. lesser_before c.args.nodes.now _ c.args.entry _ c.requires (omega (
            arith,
            inv.1.0,
            c.loop-low-test.true,
          )) c.if-nodes-middle.true k d h,
          inv.1.1.1,
        ),
      ),
    )

pub loop-low-preserved : goal.loop-low-preserved
loop-low-preserved c =
    let inv = c.loop-low.invariant in (
      omega (arith, c.loop-low-test.true),
      (
        omega (arith, inv.1.0, c.loop-low-test.true),
        (
          inv.1.1.0,
          λ k d h within. no_lesser_behind c.args.nodes.now _
              c.args.entry _ c.requires (omega (arith, inv.1.0, c.loop-low-test.true)) c.if-nodes-middle.false k d h
              within,
        ),
      ),
    )
