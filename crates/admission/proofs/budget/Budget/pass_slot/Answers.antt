use Rattle.std.proofs.Common.{rules, ◌≡◌, true, List, length, take, ap, sym, subst, ◌∙◌}
use Rattle.admission.specs.Table.{passed}
use Rattle.std.specs.List.{list_all}
use Rattle.admission.specs.declared.budget.Held.{Held}
use Rattle.admission.specs.TableSteps.{stays_at}
use Rattle.admission.proofs.Tables.{IsAdmitted-kept}
use Rattle.admission.proofs.Unchanged.{passed_unchanged}
use Rattle.admission.proofs.budget.Budget.pass_slot.Goals as goal

pub invariant_of-self : goal.invariant_of-self
invariant_of-self c =
    let table = c.self.inside.table.items in
    let written = c.keep_remaining-remaining.new.table in
    let long : length written ≡ length table =
    c.keep_remaining-remaining.auto.table ∙ ap length c.as_mut_slice.ensures.value in
    let front : take c.keep_remaining-remaining.result written ≡ passed c.args.slot table =
    c.keep_remaining-remaining.ensures.remaining ∙ ap (passed c.args.slot) c.as_mut_slice.ensures.value in
    rw c.truncate.ensures.items
    (IsAdmitted-kept c.args.slot c.keep_remaining-remaining.result table written long front c.self.invariant)

pub returns-else-not-passes_unchanged : goal.returns-else-not-passes_unchanged
returns-else-not-passes_unchanged c =
    let unchanged : c.passes_unchanged.result ≡ true = search (rules, c.if-not-passes_unchanged.false) in
    sym (passed_unchanged c.args.slot c.args.self.now
    (subst (λ (table : List Held). list_all (stays_at c.args.slot) table ≡ true)
    (c.as_slice.ensures.value ∙ c.self.view_is) (sym c.passes_unchanged.ensures ∙ unchanged)))
