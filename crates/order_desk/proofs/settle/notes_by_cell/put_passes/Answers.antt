use Rattle.std.proofs.Common.{◌≡◌, ◌≢◌, ◌∙◌, ◌+◌, List, [], ◌∷◌, ◌++◌, All, take, Err, true, sym, subst}
use Rattle.std.proofs.Common.{refl, rules}
use Rattle.std.proofs.lemmas.List.{take_all}
use Rattle.std.proofs.lemmas.List.Elements.{All-nil}
use Rattle.order_desk.specs.declared.note.Note.{Note}
use Rattle.order_desk.specs.declared.settle.SettleFault.{SettleFault}
use Rattle.order_desk.specs.declared.settle.SettleFault.TheVariants as faults
use Rattle.order_desk.specs.Settled.{AreOwn, is_of_cells}
use Rattle.order_desk.specs.SettleSteps.{AreNoted, IsForeignBy, IsForeignIn}
use Rattle.order_desk.proofs.Reported.{foreign_of_passes, in_err, take_next}
use Rattle.order_desk.proofs.Walked.{all_with}
use Rattle.order_desk.proofs.settle.notes_by_cell.put_passes.Goals as goal

pub loop-pass-init : goal.loop-pass-init
loop-pass-init c = (refl, All-nil (All (λ n. is_of_cells c.args.cells.now n ≡ true)), λ right are. are)

pub loop-pass-preserved : goal.loop-pass-preserved
loop-pass-preserved c =
    let before : List (List Note) = take c.loop-pass.pass-index c.args.passes.now in
    let pass : List Note = c.pass-item.result in
    let more : take (c.loop-pass.pass-index + 1) c.args.passes.now ≡ before ++ pass ∷ [] =
    take_next c.args.passes.now c.loop-pass.pass-index pass c.pass-item.is c.loop-pass-test.true in (
      c.end_pass.ensures.places ∙ (c.put_all.ensures.places ∙ c.loop-pass.invariant.0),
      subst (AreOwn c.args.cells.now) (sym more)
          (all_with (All (λ n. is_of_cells c.args.cells.now n ≡ true)) before pass c.loop-pass.invariant.1
          (subst (All (λ n. is_of_cells c.args.cells.now n ≡ true)) c.notes.ensures
          (c.in_ok-put_all.ensures.own refl))),
      λ right start. subst (λ (ps : List (List Note)). AreNoted c.args.books.now ps [] c.end_pass.new.noted) (sym more)
          (c.end_pass.ensures.ended c.args.books.now before pass
          (subst (λ (given : List Note). AreNoted c.args.books.now before given c.put_all.new.noted) c.notes.ensures
          (c.in_ok-put_all.ensures.noted refl before right (c.loop-pass.invariant.2 right start)))),
    )

pub returns-in_err-put_all-clause-foreign : goal.returns-in_err-put_all-clause-foreign
returns-in_err-put_all-clause-foreign c =
    let pass : List Note = c.pass-item.result in
    let fault : SettleFault = c.in_err-put_all.field-0.0 in
    let is : c.from_residual.result ≡ Err fault = search (rules, c.from_residual.ensures) in
    in_err (λ fault. fault ≢ faults.Refused → IsForeignBy c.args.cells.now c.args.passes.now fault) fault
    c.from_residual.result is (λ other.
    foreign_of_passes c.args.cells.now c.args.passes.now c.loop-pass.pass-index pass fault c.pass-item.is
    c.loop-pass-test.true c.loop-pass.invariant.1 (subst (λ (notes : List Note).
    IsForeignIn c.args.cells.now notes fault) c.notes.ensures (c.in_err-put_all.ensures.foreign other)))

pub returns-clause-own : goal.returns-clause-own
returns-clause-own c = λ _. subst (AreOwn c.args.cells.now)
    (take_all c.loop-pass.pass-index c.args.passes.now c.loop-pass-test.false) c.loop-pass.invariant.1

pub returns-clause-noted : goal.returns-clause-noted
returns-clause-noted c = λ _ right start.
    subst (λ (ps : List (List Note)). AreNoted c.args.books.now ps [] c.loop-pass.noted)
    (take_all c.loop-pass.pass-index c.args.passes.now c.loop-pass-test.false)
    (c.loop-pass.invariant.2 right start)
