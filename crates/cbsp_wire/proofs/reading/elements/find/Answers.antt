use Rattle.std.proofs.Common.{sym, ◌∙◌, arith}
use Rattle.cbsp_wire.proofs.Walks.{bodies_of-found, bodies_of-passed, bodies_of-ended}
use Rattle.cbsp_wire.proofs.reading.elements.find.Goals as goal

pub returns-then-found-number-clause-bodies : goal.returns-then-found-number-clause-bodies
returns-then-found-number-clause-bodies c =
    sym c.walk.invariant.same ∙ bodies_of-found _ _ _ _ _ _ c.in-Ok.ensures.taken c.if-found-number.true

pub walk-preserved : goal.walk-preserved
walk-preserved c = record {
  same = sym (bodies_of-passed _ _ _ _ _ _ c.in-Ok.ensures.taken c.if-found-number.false) ∙ c.walk.invariant.same;
  shorter = omega (arith, c.in-Ok.ensures.shorter);
}

pub returns-in-Err-clause-bodies : goal.returns-in-Err-clause-bodies
returns-in-Err-clause-bodies c = sym c.walk.invariant.same ∙ bodies_of-ended _ _ _ _ c.in-Err.ensures.ended
