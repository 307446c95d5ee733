use Rattle.std.proofs.Common.{◌<◌, List, ℕ, length, arith, rules}
use Rattle.gsmtap.specs.Capture.{IsCaptureFault}
use Rattle.gsmtap.specs.CaptureSteps.{IsNextFault}
use Rattle.gsmtap.specs.declared.capture.CaptureFault.{CaptureFault}
use Rattle.gsmtap.specs.declared.capture.CaptureFault.TheVariants as fault
use Rattle.gsmtap.specs.declared.capture.Settings.{Settings}
use Rattle.std.proofs.lemmas.Grind.{common_steps}
use Rattle.std.proofs.lemmas.Result.{err_from_is_err_and}
use Rattle.gsmtap.proofs.TapeSteps.{ArePushed, goes_on, is_long, is_short, pushed_more}
use Rattle.gsmtap.proofs.capture.capture_of.Goals.{then-tapes-test+else-not-is_empty, else-tapes-test}
use Rattle.gsmtap.proofs.capture.capture_of.Goals as goal

-- the fault of the next tape is that of the input
fault_of_next : (settings : Settings) (input left : List ℕ) (number : ℕ) (output : List ℕ) (why : CaptureFault) →
    ArePushed settings input left number output → number < 64 → IsNextFault left why → IsCaptureFault input why
fault_of_next settings input left number output fault.Short sofar few cut =
    is_short settings input left number output sofar few cut
fault_of_next settings input left number output fault.Long sofar few oversized =
    is_long settings input left number output sofar few oversized
fault_of_next settings input left number output fault.Refused sofar few told = tt

pub returns-in_err-left-clause-fault : goal.returns-in_err-left-clause-fault
returns-in_err-left-clause-fault c =
    let failed = err_from_is_err_and c.from_residual-in_err-left.result c.from_residual-in_err-left.ensures.1 in
    rw (failed.1, failed.2)
    (fault_of_next c.args.settings c.args.input.now c.tapes.left.now c.tapes.number c.tapes.output.items
    c.in_err-left.field-0.0 c.tapes.invariant.pushed (omega arith) c.in_err-left.ensures.fault)

pub tapes-preserved : goal.tapes-preserved
tapes-preserved c = record {
  few = omega arith;
  pushed =
      pushed_more c.args.settings c.args.input.now c.tapes.left.now c.in_ok-left.left.now c.tapes.number
      c.tapes.output.items c.push_next.new.output.items c.tapes.invariant.pushed c.in_ok-left.ensures.pushed;
}

pub returns-else-is_empty-clause-fault : goal.returns-else-is_empty-clause-fault
returns-else-is_empty-clause-fault c =
    let some : 0 < length c.tapes.left.now = search rules in
    elim c.tapes-test.branch [
      | then-tapes-test+else-not-is_empty w ↦ absurd (grind (arith, common_steps))
      | else-tapes-test w ↦
          goes_on c.args.settings c.args.input.now c.tapes.left.now c.tapes.number c.tapes.output.items
          c.tapes.invariant.pushed (omega arith) some
    ]
