use Rattle.std.proofs.lemmas.List.Elements.{All-nil}
use Rattle.warnc_run.specs.ApartSteps.{IsSomePart}
use Rattle.warnc_run.proofs.ApartLaws.{joined_next, some_next}
use Rattle.warnc_run.proofs.apart.joined.Goals as goal

pub loop-part-init : goal.loop-part-init
loop-part-init c = (c.new-all.ensures.items, All-nil IsSomePart)

pub loop-part-preserved : goal.loop-part-preserved
loop-part-preserved c = (
  joined_next c.loop-part.yielded c.in-Some.part c.loop-part.all.items c.append.new.self.items c.in_ok-records.records
      c.loop-part.invariant.0 c.in_ok-records.was c.in-Ok.ensures.items,
  some_next c.loop-part.yielded c.in-Some.part c.in_ok-records.records c.loop-part.invariant.1 c.in_ok-records.was,
)
