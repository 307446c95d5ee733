use Rattle.std.proofs.Common.{◌+◌, ◌++◌, ◌∙◌, ℕ, ap₂, length}
use Rattle.chart.proofs.LoadLaws.{claimed_next, drawn_after}
use Rattle.chart.specs.Load.{step_at, step_text}
use Rattle.chart.proofs.load.push_line.Goals as goal

pub loop-place-preserved : goal.loop-place-preserved
loop-place-preserved c claims are =
    let so = c.loop-place.invariant claims are in
    let from = c.args.from in
    let place = c.loop-place.place in
    let here = are place c.loop-place-test.true in (
      here ∙ claimed_next from place claims,
      drawn_after (step_at from claims) from place (length c.args.loads.now) c.loop-place.page
          c.push_step_after.new.page _ c.loop-place-test.true
          (c.in_ok-push_step_after.ensures
          ∙ ap₂ (λ (before load : ℕ). c.loop-place.page ++ step_text (from + place) before load) so.0 here)
          so.1,
    )
