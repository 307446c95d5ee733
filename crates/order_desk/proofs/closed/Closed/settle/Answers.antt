use Rattle.std.proofs.Common.{◌≡◌, ◌≢◌, ◌∙◌, All, List, Err, sym, subst, ap, refl, rules}
use Rattle.std.specs.List.{AllZip}
use Rattle.std.proofs.lemmas.Result.{IfOk-weaker}
use Rattle.cbsp_wire.specs.declared.message.Cell.{Cell}
use Rattle.bsc_table.specs.Record.{Record}
use Rattle.order_desk.specs.declared.settle.SettleFault.{SettleFault}
use Rattle.order_desk.specs.declared.settle.SettleFault.TheVariants as faults
use Rattle.order_desk.specs.Agreement.{Agrees}
use Rattle.order_desk.specs.SettleSteps.{IsFirstJudged}
use Rattle.order_desk.specs.Settled.{AreOwn, ClosedDesk, IsBookOf, IsFault, IsPlayedOut}
use Rattle.order_desk.proofs.Reported.{in_err, noted_of_right, reports_judged}
use Rattle.order_desk.proofs.closed.Closed.settle.Goals as goal

pub judge_all-requires : goal.judge_all-requires
judge_all-requires c = (
  c.args.passes.now,
  noted_of_right c.self.inside.slots (c.deref-3.ensures.value ∙ sym c.deref.ensures.value)
      (c.deref-4.ensures.value ∙ sym c.deref-2.ensures.value) (c.deref-5.ensures.value ∙ sym c.deref-2.ensures.value)
      c.deref-6.ensures.value (c.first_wrong.ensures.none c.in_default.is) c.in_ok-noted.ensures.noted,
)

pub returns-in_err-judge_all-clause-err : goal.returns-in_err-judge_all-clause-err
returns-in_err-judge_all-clause-err c =
    let desk : ClosedDesk = c.args.self in
    let fault : SettleFault = c.in_err-judge_all.field-0.0 in
    let is : c.from_residual-in_err-judge_all.result ≡ Err fault =
    search (rules, c.from_residual-in_err-judge_all.ensures) in
    in_err (IsFault desk c.args.passes.now) fault c.from_residual-in_err-judge_all.result is
    (reports_judged desk c.args.passes.now fault own right judged)
  where
    cells_are : c.deref.result.now ≡ c.args.self.cells
    cells_are = c.deref.ensures.value ∙ ap (λ (d : ClosedDesk). d.cells) c.self.view_is

    own : AreOwn c.args.self.cells c.args.passes.now
    own = subst (λ (cells : List Cell). AreOwn cells c.args.passes.now) cells_are (c.in_ok-noted.ensures.own refl)

    right : AllZip (IsBookOf c.args.self.slots) c.args.self.cells c.args.self.books
    right = search (
      rules,
      c.first_wrong.ensures.none c.in_default.is,
      c.self.view_is,
      c.deref-3.ensures.value,
      c.deref-4.ensures.value,
    )

    judged : c.in_err-judge_all.field-0.0 ≢ faults.Refused
        → IsFirstJudged c.args.passes.now c.args.self.books c.in_err-judge_all.field-0.0
    judged = λ other. subst (λ (books : List Record).
        IsFirstJudged c.args.passes.now books c.in_err-judge_all.field-0.0)
        (c.deref-5.ensures.value ∙ ap (λ (d : ClosedDesk). d.books) c.self.view_is)
        (c.in_err-judge_all.ensures.err other c.args.passes.now
        (noted_of_right c.self.inside.slots (c.deref-3.ensures.value ∙ sym c.deref.ensures.value)
        (c.deref-4.ensures.value ∙ sym c.deref-2.ensures.value) (c.deref-5.ensures.value ∙ sym c.deref-2.ensures.value)
        c.deref-6.ensures.value (c.first_wrong.ensures.none c.in_default.is) c.in_ok-noted.ensures.noted))

pub returns-clause-ok : goal.returns-clause-ok
returns-clause-ok c = IfOk-weaker c.records_of.result _ _ (λ records played. record {
  own = own;
  right = right;
  agree = agree;
  played = subst (λ (books : List Record). AllZip IsPlayedOut books records.items)
      (ap (λ (d : ClosedDesk). d.books) c.self.view_is) played;
}) c.records_of.ensures.ok
  where
    own : AreOwn c.args.self.cells c.args.passes.now
    own = subst (λ (cells : List Cell). AreOwn cells c.args.passes.now)
        (c.deref.ensures.value ∙ ap (λ (d : ClosedDesk). d.cells) c.self.view_is) (c.in_ok-noted.ensures.own refl)

    right : AllZip (IsBookOf c.args.self.slots) c.args.self.cells c.args.self.books
    right = search (
      rules,
      c.first_wrong.ensures.none c.in_default.is,
      c.self.view_is,
      c.deref-3.ensures.value,
      c.deref-4.ensures.value,
    )

    agree : All (Agrees c.args.passes.now) c.args.self.books
    agree = subst (All (Agrees c.args.passes.now))
        (c.deref-5.ensures.value ∙ ap (λ (d : ClosedDesk). d.books) c.self.view_is)
        (c.in_ok-judge_all.ensures.ok refl c.args.passes.now
        (noted_of_right c.self.inside.slots (c.deref-3.ensures.value ∙ sym c.deref.ensures.value)
        (c.deref-4.ensures.value ∙ sym c.deref-2.ensures.value) (c.deref-5.ensures.value ∙ sym c.deref-2.ensures.value)
        c.deref-6.ensures.value (c.first_wrong.ensures.none c.in_default.is) c.in_ok-noted.ensures.noted))
