use Rattle.std.proofs.Common.{◌∙◌, ◌++◌, ◌≤◌, ℕ, List, ap, subst, arith, drop, length, take}
use Rattle.std.specs.List.{flat_map}
use Rattle.std.proofs.lemmas.List.{length-drop, take_all, take_rest}
use Rattle.std.proofs.lemmas.Result.{IfOk-weaker}
use Rattle.report.specs.declared.row.Row.{Row}
use Rattle.report.specs.ReportText.{heading, part_text, row_line}
use Rattle.report.specs.TextSteps.{IsTable}
use Rattle.report.proofs.ListLaws.{flat_map-more}
use Rattle.report.proofs.output.text_of.Goals as goal

pub loop-place-preserved : goal.loop-place-preserved
loop-place-preserved c =
    let rows : List Row = c.args.rows.now in
    let place : ℕ = c.loop-place.place in
    let count : ℕ = c.in_ok-place.field-0 in
    let long : count ≤ length (drop place rows) =
    subst (λ (xs : List Row). count ≤ length xs) (take_rest rows place) c.in_ok-place.ensures.within.1 in
    record {
      within = omega (arith, long, length-drop place rows, c.loop-place-test.true);
      text =
          subst (λ (xs : List ℕ). IsTable c.push_cell.new.self xs)
          (flat_map-more row_line rows place count (heading c.args.headed))
          (subst (λ (xs : List Row). IsTable c.push_cell.new.self (part_text c.args.headed (take place rows)
          ++ flat_map row_line (take count xs))) (take_rest rows place)
          (c.in_ok-place.ensures.lines _ c.loop-place.invariant.text));
    }

pub returns : goal.returns
returns c =
    IfOk-weaker c.into_octets.result _ _
    (λ octets is. is _ c.loop-place.invariant.text
    ∙ ap (λ (rows : List Row). part_text c.args.headed rows) (take_all c.loop-place.place c.args.rows.now
    (omega arith)))
    c.into_octets.ensures
