use Rattle.std.proofs.Common.{◌≡◌, ◌∙◌, ℕ, Some, length, sym, ap, rules}
use Rattle.order_desk.specs.Agreement.{IsRightNumber, IsRightSlot}
use Rattle.order_desk.proofs.Judged.{first_some, first_none}
use Rattle.order_desk.proofs.settle.judge.Goals as goal

pub returns-in-Some-clause-err : goal.returns-in-Some-clause-err
returns-in-Some-clause-err c = λ _ passes has.
    let r = c.args.book.now in
    let first = first_some (IsRightNumber r.cell r.log passes) c.first_strange.result c.in-Some.number c.in-Some.is
    (c.first_strange.ensures r passes (sym (ap length c.log.ensures)) has) in
    (sym c.cell-cell.ensures, record { wrong = first.0; least = first.1 })

pub returns-in-Some-2-clause-err : goal.returns-in-Some-2-clause-err
returns-in-Some-2-clause-err c = λ _ passes has.
    let r = c.args.book.now in
    let numbers = first_none (IsRightNumber r.cell r.log passes) c.first_strange.result c.in_default.not-Some
    (c.first_strange.ensures r passes (sym (ap length c.log.ensures)) has) in
    let first = first_some (IsRightSlot r.cell r.clock passes) c.in_ok-slot.field-0 c.in-Some-2.slot c.in-Some-2.is
    (c.in_ok-slot.ensures r passes (sym c.clock-clock.ensures.clock) has) in
    (sym c.cell-cell.ensures, record { numbers = numbers; wrong = first.0; least = first.1 })

pub returns-in-None-clause-ok : goal.returns-in-None-clause-ok
returns-in-None-clause-ok c = λ _ passes has.
    let r = c.args.book.now in
    let numbers = first_none (IsRightNumber r.cell r.log passes) c.first_strange.result c.in_default.not-Some
    (c.first_strange.ensures r passes (sym (ap length c.log.ensures)) has) in
    let slots = first_none (IsRightSlot r.cell r.clock passes) c.in_ok-slot.field-0 none
    (c.in_ok-slot.ensures r passes (sym c.clock-clock.ensures.clock) has) in
    record { numbers = numbers; slots = slots }
  where
    none : (k : ℕ) → c.in_ok-slot.field-0 ≡ Some k → ⊥
    none k is = search (rules, sym c.in-None.is ∙ is)
