use Rattle.std.proofs.Common.{rules}
use Rattle.handset.proofs.TapeLaws.{front-more}
use Rattle.handset.proofs.input.read_front.Goals as goal

pub loop-filled-preserved : goal.loop-filled-preserved
loop-filled-preserved g c = record {
  bound = search rules;
  consumed =
      front-more _ _ _ _ _ _ _ _ c.loop-filled.invariant.bound c.in_ok-count.ensures.bound.0
      c.loop-filled.invariant.consumed c.in_ok-count.ensures.octets.0;
  not_failed = search rules;
}
