use Rattle.std.proofs.Common.{List, ℕ, arith, rules, subst, sym}
use Rattle.plan.specs.PlanOutput.{IsPlanOutput}
use Rattle.plan.specs.PlanSteps.{IsNoPlan}
use Rattle.plan.proofs.WholeInput.{fault_of_read, front_out, output_out, too_long}
use Rattle.plan.proofs.plan.plan_stream.Goals as goal

pub returns-then-len-gt-MAX_INPUT-clause-err : goal.returns-then-len-gt-MAX_INPUT-clause-err
returns-then-len-gt-MAX_INPUT-clause-err g c =
    too_long _ c.in-Ok.input.items _ _ c.in-Ok.ensures.value (omega arith) (search rules)

pub returns-in-Err-clause-err : goal.returns-in-Err-clause-err
returns-in-Err-clause-err g c =
    let told : IsNoPlan c.in-Ok.input.items c.in-Err.fault =
    subst (λ (octets : List ℕ). IsNoPlan octets c.in-Err.fault) c.deref.ensures.value c.in-Err.ensures.err in
    fault_of_read _ c.in-Ok.input.items _ _ c.in-Err.fault c.in-Ok.ensures.value (omega arith) told (search rules)

pub returns-in-Ok-write_all-clause-ok : goal.returns-in-Ok-write_all-clause-ok
returns-in-Ok-write_all-clause-ok g c =
    let made : IsPlanOutput c.in-Ok.input.items c.deref-2.result.now =
    subst (λ (octets : List ℕ). IsPlanOutput octets c.deref-2.result.now) c.deref.ensures.value
    (subst (λ (octets : List ℕ). IsPlanOutput c.deref.result.now octets) (sym c.deref-2.ensures.value)
    c.in-Ok-planned_book.ensures.ok) in
    output_out _ c.in-Ok.input.items c.deref-2.result.now _ _ c.in-Ok.ensures.value (omega arith) made
    c.in-Ok-write_all.ensures.ok

pub returns-clause-err : goal.returns-clause-err
returns-clause-err g c =
    let made : IsPlanOutput c.in-Ok.input.items c.deref-2.result.now =
    subst (λ (octets : List ℕ). IsPlanOutput octets c.deref-2.result.now) c.deref.ensures.value
    (subst (λ (octets : List ℕ). IsPlanOutput c.deref.result.now octets) (sym c.deref-2.ensures.value)
    c.in-Ok-planned_book.ensures.ok) in
    front_out _ c.in-Ok.input.items c.deref-2.result.now _ _ c.in-Ok.ensures.value (omega arith) made
    c.in-Err-write_all.ensures.err
