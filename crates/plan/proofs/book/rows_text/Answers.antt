use Rattle.std.proofs.Common.{◌≡◌, ◌<◌, ◌+◌, ◌++◌, ◌∷◌, ◌∙◌, [], ap, sym, subst, arith, ℕ, List, length, take}
use Rattle.std.proofs.lemmas.List.{take_more}
use Rattle.std.specs.List.{flat_map}
use Rattle.plan.specs.PlanOutput.{row_line}
use Rattle.plan.specs.PlanSteps.{IsText}
use Rattle.plan.specs.declared.rows.Planned.{Planned}
use Rattle.plan.proofs.Rights.{lines_more}
use Rattle.plan.proofs.book.rows_text.Goals as goal

pub loop-planned-preserved : goal.loop-planned-preserved
loop-planned-preserved c =
    let rows : List Planned = c.args.rows.now in
    let place = c.loop-planned.planned-index in
    let less : place < length rows = omega (arith, c.loop-planned-test.true) in
    let more : take place rows ++ c.planned-item.result ∷ [] ≡ take (place + 1) rows =
    ap (λ (p : Planned). take place rows ++ p ∷ []) c.planned-item.is
    ∙ sym (take_more rows place c.planned-item.result less) in
    subst (λ (text : List ℕ). IsText c.push.new.self text)
    (sym (lines_more (take place rows) c.planned-item.result) ∙ ap (λ (r : List Planned). flat_map row_line r) more)
    (c.in_ok-push.ensures (flat_map row_line (take place rows)) c.loop-planned.invariant)
