use Rattle.std.proofs.Common.{◌≡◌, ◌∙◌, ℕ, ◌<◌, ◌≤◌, Option, List, length, true, slice_index_or, sym, subst, ap}
use Rattle.order_desk.specs.Agreement.{IsRightNumber}
use Rattle.order_desk.specs.SettleSteps.{IsLeastFailing, lesser}
use Rattle.order_desk.proofs.Noted.{least_strange}
use Rattle.order_desk.proofs.settle.numbers.first_strange.Goals as goal

pub returns : goal.returns
returns c = λ r passes long has.
    let not_once = c.first_not_once-not_once.result in
    let not_full = c.first_not_full-not_full.result in
    subst (IsLeastFailing (IsRightNumber r.cell r.log passes))
    (sym (c.lesser-2.ensures ∙ ap (λ (found : Option ℕ). lesser found not_full) c.lesser.ensures))
    (least_strange r passes c.args.notes.now not_once not_full has
    (subst (λ (times : List ℕ). IsLeastFailing (λ k. k < length times → slice_index_or times k 0 ≡ 1) not_once)
    c.as_slice.ensures.value c.first_not_once-not_once.ensures)
    (subst (λ n. IsLeastFailing (λ k. k ≡ 4096 → c.args.notes.now.is_full ≡ true → 4096 ≤ n) not_full) (sym long)
    c.first_not_full-not_full.ensures))
