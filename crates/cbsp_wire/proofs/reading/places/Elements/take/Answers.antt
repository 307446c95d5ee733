use Rattle.std.proofs.Common.{sym, ◌∙◌}
use Rattle.cbsp_wire.proofs.Places.{noted_end}
use Rattle.cbsp_wire.proofs.Walks.{stop-taken, stop-ended}
use Rattle.cbsp_wire.proofs.reading.places.Elements.take.Goals as goal

pub walk-preserved : goal.walk-preserved
walk-preserved c = record {
  stop = sym (stop-taken _ _ _ _ c.in-Ok.ensures.taken) ∙ c.walk.invariant.stop;
  noted = c.note.ensures _ _ _ c.in-Ok.ensures.taken c.walk.invariant.noted;
}

pub invariant_of-result : goal.invariant_of-result
invariant_of-result c = (
  sym (stop-ended _ _ _ c.in-Err.ensures.ended) ∙ c.walk.invariant.stop,
  λ n. noted_end _ n _ _ _ c.in-Err.ensures.ended (c.walk.invariant.noted n),
)
