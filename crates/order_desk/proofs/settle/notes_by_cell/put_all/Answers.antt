use Rattle.std.proofs.Common.{◌≡◌, ◌≢◌, ◌∙◌, ◌+◌, List, [], ◌∷◌, ◌++◌, All, take, drop, Err, true, sym}
use Rattle.std.proofs.Common.{subst, refl, rules}
use Rattle.std.proofs.lemmas.List.{take_all}
use Rattle.std.proofs.lemmas.List.Elements.{All-nil}
use Rattle.order_desk.specs.declared.note.Note.{Note}
use Rattle.order_desk.specs.declared.settle.SettleFault.{SettleFault}
use Rattle.order_desk.specs.declared.settle.SettleFault.TheVariants as faults
use Rattle.order_desk.specs.Settled.{is_of_cells}
use Rattle.order_desk.specs.SettleSteps.{AreNoted, IsForeignIn}
use Rattle.order_desk.proofs.Reported.{in_err, split_at, take_next}
use Rattle.order_desk.proofs.Walked.{all_with}
use Rattle.order_desk.proofs.settle.notes_by_cell.put_all.Goals as goal

pub loop-note-init : goal.loop-note-init
loop-note-init c = (refl, All-nil (λ n. is_of_cells c.args.cells.now n ≡ true), λ earlier right are. are)

pub loop-note-preserved : goal.loop-note-preserved
loop-note-preserved c =
    let given : List Note = take c.loop-note.note-index c.args.notes.now in
    let more : take (c.loop-note.note-index + 1) c.args.notes.now ≡ given ++ c.note-item.result ∷ [] =
    take_next c.args.notes.now c.loop-note.note-index c.note-item.result c.note-item.is c.loop-note-test.true in (
      c.put.ensures.places ∙ c.loop-note.invariant.0,
      subst (All (λ n. is_of_cells c.args.cells.now n ≡ true)) (sym more)
          (all_with (λ n. is_of_cells c.args.cells.now n ≡ true) given c.note-item.result c.loop-note.invariant.1
          (c.in_ok-near.ensures.own refl)),
      λ earlier right are. subst (λ (ns : List Note). AreNoted c.args.books.now earlier ns c.put.new.noted) (sym more)
          (c.in_ok-near.ensures.noted refl earlier given right (c.loop-note.invariant.2 earlier right are)),
    )

pub returns-in_err-near-clause-foreign : goal.returns-in_err-near-clause-foreign
returns-in_err-near-clause-foreign c =
    let place = c.loop-note.note-index in
    let note : Note = c.note-item.result in
    let fault : SettleFault = c.in_err-near.field-0.0 in
    let is : c.from_residual.result ≡ Err fault = search (rules, c.from_residual.ensures) in
    in_err (λ fault. fault ≢ faults.Refused → IsForeignIn c.args.cells.now c.args.notes.now fault) fault
    c.from_residual.result is (λ other. record {
      before = take place c.args.notes.now;
      note = note;
      after = drop (place + 1) c.args.notes.now;
      noted = split_at c.args.notes.now place note c.note-item.is c.loop-note-test.true;
      own = c.loop-note.invariant.1;
      foreign = (c.in_err-near.ensures.foreign other).0;
      told = (c.in_err-near.ensures.foreign other).1;
    })

pub returns-clause-own : goal.returns-clause-own
returns-clause-own c = λ _. subst (All (λ n. is_of_cells c.args.cells.now n ≡ true))
    (take_all c.loop-note.note-index c.args.notes.now c.loop-note-test.false) c.loop-note.invariant.1

pub returns-clause-noted : goal.returns-clause-noted
returns-clause-noted c = λ _ earlier right are.
    subst (λ (ns : List Note). AreNoted c.args.books.now earlier ns c.loop-note.noted)
    (take_all c.loop-note.note-index c.args.notes.now c.loop-note-test.false)
    (c.loop-note.invariant.2 earlier right are)
