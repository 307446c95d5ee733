use Rattle.std.proofs.Common.{◌≡◌, ◌≢◌, ◌+◌, ◌<◌, List, [], All, take, drop, length, Err}
use Rattle.std.proofs.Common.{sym, subst, refl, arith, rules}
use Rattle.std.proofs.lemmas.List.{take_all}
use Rattle.std.proofs.lemmas.List.Elements.{All-nil}
use Rattle.bsc_table.specs.Record.{Record}
use Rattle.order_desk.specs.declared.note.Note.{Note}
use Rattle.order_desk.specs.declared.settle.SettleFault.{SettleFault}
use Rattle.order_desk.specs.declared.settle.SettleFault.TheVariants as faults
use Rattle.order_desk.specs.Agreement.{Agrees}
use Rattle.order_desk.specs.SettleSteps.{AreNoted, IsFirstJudged}
use Rattle.order_desk.proofs.Reported.{in_err, split_at, take_next}
use Rattle.order_desk.proofs.NotesByCell.{noted_at}
use Rattle.order_desk.proofs.Walked.{all_with}
use Rattle.order_desk.proofs.settle.judge_all.Goals as goal

pub bounds-noted-place : goal.bounds-noted-place
bounds-noted-place c = within
  where
    within : c.loop-place.place < length c.args.noted.now
    within = omega (arith, c.loop-place-test.true, c.requires.1.places)

pub judge-requires : goal.judge-requires
judge-requires c = (noted_at c.args.books.now c.requires.0 c.args.noted.now c.loop-place.place
    c.index-books-place.result c.index-noted-place.result c.requires.1 c.loop-place-test.true c.index-books-place.is
    c.index-noted-place.is).places

pub loop-place-init : goal.loop-place-init
loop-place-init c = λ passes are. All-nil (Agrees passes)

pub loop-place-preserved : goal.loop-place-preserved
loop-place-preserved c = λ passes are.
    let place = c.loop-place.place in
    let book : Record = c.index-books-place.result in
    subst (All (Agrees passes))
    (sym (take_next c.args.books.now place book c.index-books-place.is c.loop-place-test.true))
    (all_with (Agrees passes) (take place c.args.books.now) book (c.loop-place.invariant passes are)
    (c.in_ok-judge.ensures.ok refl passes (noted_at c.args.books.now passes c.args.noted.now place book
    c.index-noted-place.result are c.loop-place-test.true c.index-books-place.is c.index-noted-place.is)))

pub returns-in_err-judge-clause-err : goal.returns-in_err-judge-clause-err
returns-in_err-judge-clause-err c =
    let place = c.loop-place.place in
    let book : Record = c.index-books-place.result in
    let fault : SettleFault = c.in_err-judge.field-0.0 in
    let is : c.from_residual.result ≡ Err fault = search (rules, c.from_residual.ensures) in
    in_err (λ fault. fault ≢ faults.Refused → (passes : List (List Note))
    → AreNoted c.args.books.now passes [] c.args.noted.now → IsFirstJudged passes c.args.books.now fault) fault
    c.from_residual.result is (λ other passes are. record {
      before = take place c.args.books.now;
      judged = book;
      later = drop (place + 1) c.args.books.now;
      all = split_at c.args.books.now place book c.index-books-place.is c.loop-place-test.true;
      agree = c.loop-place.invariant passes are;
      strange = c.in_err-judge.ensures.err other passes (noted_at c.args.books.now passes c.args.noted.now place book
          c.index-noted-place.result are c.loop-place-test.true c.index-books-place.is c.index-noted-place.is);
    })

pub returns-clause-ok : goal.returns-clause-ok
returns-clause-ok c = λ _ passes are. subst (All (Agrees passes))
    (take_all c.loop-place.place c.args.books.now c.loop-place-test.false) (c.loop-place.invariant passes are)
