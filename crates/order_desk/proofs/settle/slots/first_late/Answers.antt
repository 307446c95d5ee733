use Rattle.std.proofs.Common.{◌∙◌, leb, sym, ap}
use Rattle.std.specs.List.{list_all}
use Rattle.std.proofs.lemmas.Bool.{and_from, le-leb}
use Rattle.order_desk.specs.SettleSteps.{ends_by, ranges_of}
use Rattle.order_desk.proofs.Judged.{end_by_later}
use Rattle.order_desk.proofs.Ranges.{all_end}
use Rattle.order_desk.proofs.settle.slots.first_late.Goals as goal

pub returns-then-all_end_by : goal.returns-then-all_end_by
returns-then-all_end_by c = λ slot le.
    let clock = c.args.clock in
    let notes = c.args.notes.now in
    end_by_later clock slot (ranges_of notes) le (all_end clock notes.ranges.items notes.last
    ∙ and_from (leb notes.last.to clock) (list_all (ends_by clock) notes.ranges.items)
    (le-leb notes.last.to clock c.if-notes-clock.true) (ap (list_all (ends_by clock)) (sym c.as_slice.ensures.value)
    ∙ (sym c.all_end_by.ensures ∙ c.if-all_end_by.true)))
