use Rattle.std.proofs.Common.{◌≢◌, Some, List, subst, sym}
use Rattle.std.specs.List.{All}
use Rattle.admission.specs.declared.budget.Held.{Held}
use Rattle.admission.specs.Waiting.{behind_of}
use Rattle.admission.proofs.Tables.{IsAdmitted-refill}
use Rattle.admission.proofs.budget.Budget.release_at.Goals as goal

pub invariant_of-self : goal.invariant_of-self
invariant_of-self c =
    let Free : List Held → Type 0 = λ table. All (λ (h : Held). behind_of h ≢ Some c.args.entry) table in
    IsAdmitted-refill _ _ _ _ (rw c.as_mut_slice.ensures.value at c.end_at.ensures) c.self.invariant
    (subst Free (sym c.self.view_is) c.requires.free)
