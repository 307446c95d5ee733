use Rattle.short_pages.specs.declared.pages.Pages.{Pages}
use Rattle.warnc_verify.specs.VerifySteps.{TakesBatch}
use Rattle.warnc_verify.proofs.side_by_side.take_batch.Given as goal

abbrev pub invariant-loop-one : goal.invariant-loop-one
invariant-loop-one l = (pages : Pages) → TakesBatch pages l.initial.findings l.findings l.yielded
