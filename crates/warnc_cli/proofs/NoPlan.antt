-- What `plan` refuses: a fault of status 1 is one of the input.
use Rattle.std.proofs.Common.{◌≡◌, ℕ, List, arith, inl, inr}
use Rattle.std.proofs.Common.{Option, None, Some, IfSome}
use Rattle.plan.specs.PlanOutput.{IsPlanFault}
use Rattle.plan.specs.declared.fault.PlanFault.{PlanFault}
use Rattle.plan.specs.declared.fault.PlanFault.TheVariants as fault
use Rattle.warnc_cli.specs.Status.{status_of_plan_fault}
use Rattle.warnc_cli.specs.Tasks.{IsNoPlan}

refused_here : (input : List ℕ) (old new : Option (List ℕ)) (why : PlanFault) → IsPlanFault input old new why
    → status_of_plan_fault why ≡ 1
    → IsNoPlan input
refused_here input old new fault.ReadFailed told is = absurd (omega (arith, is))
refused_here input old new fault.TooLong told is = inl told.0
refused_here input old new (fault.Row f) told is = inr (f, told.1)
refused_here input old new fault.Refused told is = absurd (omega (arith, is))
refused_here input old new fault.WriteFailed told is = absurd (omega (arith, is))

-- a fault of `plan` with status 1 says that the input comes to no book
pub refused_plan : (left : Option (List ℕ)) (old new : Option (List ℕ)) (why : PlanFault)
    → IfSome left (λ input. IsPlanFault input old new why)
    → status_of_plan_fault why ≡ 1
    → IfSome left IsNoPlan
refused_plan None old new why told is = tt
refused_plan (Some input) old new why told is = refused_here input old new why told is
