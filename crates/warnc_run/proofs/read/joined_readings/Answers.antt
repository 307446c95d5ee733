use Rattle.std.proofs.Common.{[], ◌∷◌, ◌∙◌, ap, subst, sym}
use Rattle.std.proofs.lemmas.List.{map-append}
use Rattle.std.proofs.lemmas.List.Elements.{All-nil, All-push}
use Rattle.handset.specs.Tape.{reading_of, readings_of}
use Rattle.warnc_run.specs.ReadSteps.{WasMade, readings_in}
use Rattle.warnc_run.proofs.ReadParts.{readings_next}
use Rattle.warnc_run.proofs.read.joined_readings.Goals as goal

pub loop-made-init : goal.loop-made-init
loop-made-init c = (ap readings_of c.new-readings.ensures.items, All-nil WasMade)

pub loop-made-preserved : goal.loop-made-preserved
loop-made-preserved c =
    let reading = c.in_ok-reading.reading in (
      readings_next c.loop-made.yielded c.in-Some.made (readings_of c.loop-made.readings.items)
          (readings_of c.push.new.self.items) (reading_of reading ∷ []) c.loop-made.invariant.0
          (ap readings_in c.in_ok-reading.was)
          (ap readings_of c.in_ok-push.ensures.items
          ∙ map-append reading_of c.loop-made.readings.items (reading ∷ [])),
      All-push WasMade c.loop-made.yielded c.in-Some.made c.loop-made.invariant.1
          (subst WasMade (sym c.in_ok-reading.was) tt),
    )
