use Rattle.std.proofs.Common.{◌≢◌, List, ap, subst, ◌∙◌}
use Rattle.std.specs.List.{AllPairs}
use Rattle.admission.specs.declared.budget.Held.{Held}
use Rattle.admission.specs.Table.{excess_over}
use Rattle.admission.proofs.Tables.{place_behind}
use Rattle.admission.proofs.budget.Budget.reserve_behind.Goals as goal

pub add-requires-clause-handed : goal.add-requires-clause-handed
add-requires-clause-handed c =
    let Distinct : List Held → Type 0 = λ table. AllPairs (λ (a b : Held). a.entry ≢ b.entry) table in
    let distinct = subst Distinct c.self.view_is c.self.invariant.distinct in
    let excess = c.excess_over-excess.ensures ∙ ap (excess_over c.args.behind c.args.load)
    (c.as_slice.ensures.value ∙ c.self.view_is) in
    place_behind c.args.behind c.args.load c.args.start _ c.args.self.now distinct c.requires.ends c.requires.free
    excess
