use Rattle.std.proofs.Common.{◌≡◌, ◌∙◌, ℕ, ◌<◌, ◌≤◌, List, length, true, slice_index_or, sym, subst}
use Rattle.std.specs.List.{list_all}
use Rattle.order_desk.specs.Agreement.{IsRightSlot}
use Rattle.order_desk.specs.SettleSteps.{IsLeastFailing, ends_by, ranges_of}
use Rattle.order_desk.proofs.Noted.{least_overlap}
use Rattle.order_desk.proofs.settle.slots.first_overlap.Goals as goal

pub returns : goal.returns
returns c = λ r passes clock has.
    let times = c.in_ok-times.times.items in
    let not_once = c.first_not_once-not_once.result in
    let late = c.first_late-late.result in
    subst (IsLeastFailing (IsRightSlot r.cell r.clock passes)) (sym c.lesser.ensures)
    (least_overlap r passes c.args.notes.now times not_once late has (c.in_ok-times.ensures.0 ∙ sym clock)
    c.in_ok-times.ensures.1
    (subst (λ (ts : List ℕ). IsLeastFailing (λ slot. slot < length ts → slice_index_or ts slot 0 ≡ 1) not_once)
    c.as_slice.ensures.value c.first_not_once-not_once.ensures)
    (subst (λ n. IsLeastFailing (λ slot. n ≤ slot → list_all (ends_by slot) (ranges_of c.args.notes.now) ≡ true) late)
    (sym clock) c.first_late-late.ensures))
