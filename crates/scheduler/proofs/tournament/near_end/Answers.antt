use Rattle.std.proofs.Common.{◌-◌, arith}
use Rattle.scheduler.proofs.Places.{lesser_before}
use Rattle.scheduler.proofs.tournament.near_end.Goals as goal

pub returns-then-nodes-near-clause-before : goal.returns-then-nodes-near-clause-before
returns-then-nodes-near-clause-before c = λ k d h.
    lesser_before c.args.nodes.now (c.saturating_sub-near.result - 1) c.args.entry _ c.requires
    (omega (arith, c.saturating_sub-near.ensures, c.if-near-gt0.true)) c.if-nodes-near.true k d
    (omega (arith, h, c.if-near-gt0.true))
