use Rattle.std.proofs.Common.{ap, subst, sym}
use Rattle.std.proofs.lemmas.List.Elements.{All-nil, All-push}
use Rattle.warnc_run.specs.ReadSteps.{WasMade, rows_in}
use Rattle.warnc_run.proofs.ReadParts.{rows_next}
use Rattle.warnc_run.proofs.read.joined_rows.Goals as goal

pub loop-made-init : goal.loop-made-init
loop-made-init c = (c.new-rows.ensures.items, All-nil WasMade)

pub loop-made-preserved : goal.loop-made-preserved
loop-made-preserved c = (
  rows_next c.loop-made.yielded c.in-Some.made c.loop-made.rows.items c.append.new.self.items c.in_ok-own.own.items
      c.loop-made.invariant.0 (ap rows_in c.in_ok-own.was) c.in_ok-append.ensures.items,
  All-push WasMade c.loop-made.yielded c.in-Some.made c.loop-made.invariant.1
      (subst WasMade (sym c.in_ok-own.was) tt),
)
