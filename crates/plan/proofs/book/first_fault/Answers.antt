use Rattle.std.proofs.Common.{◌≡◌, ◌<◌, ◌+◌, ◌++◌, ◌∷◌, ◌∙◌, [], ap, sym, subst, refl, arith, rules, true, false, ℕ}
use Rattle.std.proofs.Common.{List}
use Rattle.std.proofs.Common.{length, take, drop}
use Rattle.std.proofs.lemmas.List.{take_more}
use Rattle.alert_book.specs.Judging.{counted_after, none_counted, Counted, IsVerdict}
use Rattle.alert_book.specs.Row.{verb_of}
use Rattle.alert_book.specs.declared.judging.Verdict.{Verdict}
use Rattle.plan.specs.PlanOutput.{counted_rows, AreRight}
use Rattle.plan.specs.PlanSteps.{is_right}
use Rattle.plan.specs.declared.rows.Planned.{Planned}
use Rattle.plan.proofs.Rights.{counted_more, is_right_one, is_wrong, right_more, split_at}
use Rattle.plan.proofs.book.first_fault.Goals as goal

pub returns-then-not-is_right : goal.returns-then-not-is_right
returns-then-not-is_right c =
    let rows : List Planned = c.args.rows.now in
    let place = c.loop-planned.planned-index in
    let less : place < length rows = omega (arith, c.loop-planned-test.true) in
    let item : Planned = c.planned-item.result in
    let told : Verdict = c.in_ok-verdict.verdict in
    let judged : IsVerdict c.loop-planned.judge item.fields told =
    subst (λ (f : List (List ℕ)). IsVerdict c.loop-planned.judge f told) c.in_ok-record.ensures
    c.in_ok-verdict.ensures.verdict in
    let other : is_right told ≡ false = search (rules, c.is_right.ensures, c.if-not-is_right.true) in
    record {
      front = take place rows;
      wrong = item;
      after = drop (place + 1) rows;
      split = split_at rows place item less
          ∙ ap (λ (p : Planned). take place rows ++ p ∷ drop (place + 1) rows) (sym c.planned-item.is);
      right = c.loop-planned.invariant.1;
      told = is_wrong told other;
      judged = subst (λ (b : Counted). IsVerdict b item.fields told) (sym c.loop-planned.invariant.0) judged;
      row = refl;
      verb = c.verb_of.ensures ∙ ap (λ (word : List ℕ). verb_of word) c.text_at.ensures;
    }

pub loop-planned-preserved : goal.loop-planned-preserved
loop-planned-preserved c =
    let rows : List Planned = c.args.rows.now in
    let place = c.loop-planned.planned-index in
    let less : place < length rows = omega (arith, c.loop-planned-test.true) in
    let item : Planned = c.planned-item.result in
    let told : Verdict = c.in_ok-verdict.verdict in
    let more : take place rows ++ item ∷ [] ≡ take (place + 1) rows =
    ap (λ (p : Planned). take place rows ++ p ∷ []) c.planned-item.is ∙ sym (take_more rows place item less) in
    let holds : is_right told ≡ true = search (rules, c.is_right.ensures, c.if-not-is_right.false) in
    let judged : IsVerdict c.loop-planned.judge item.fields told =
    subst (λ (f : List (List ℕ)). IsVerdict c.loop-planned.judge f told) c.in_ok-record.ensures
    c.in_ok-verdict.ensures.verdict in
    let here = subst (λ (b : Counted). IsVerdict b item.fields told) (sym c.loop-planned.invariant.0) judged in
    let right = subst (λ (v : Verdict). IsVerdict (counted_rows none_counted (take place rows)) item.fields v)
    (is_right_one told holds) here in (
      ap (λ (r : List Planned). counted_rows none_counted r) (sym more)
          ∙ counted_more none_counted (take place rows) item
          ∙ ap (λ (b : Counted). counted_after b item.fields) c.loop-planned.invariant.0
          ∙ ap (λ (f : List (List ℕ)). counted_after c.loop-planned.judge f) (sym c.in_ok-record.ensures)
          ∙ sym c.in_ok-verdict.ensures.counted,
      subst (λ (r : List Planned). AreRight none_counted r) more
          (right_more none_counted (take place rows) item c.loop-planned.invariant.1 right),
    )
