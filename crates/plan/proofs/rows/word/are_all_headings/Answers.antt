use Rattle.std.proofs.Common.{◌<◌, ap, List, ℕ, length, arith, rules}
use Rattle.std.specs.List.{list_all}
use Rattle.csv.specs.Records.{fields_of}
use Rattle.plan.specs.PlanRow.{is_heading}
use Rattle.alert_book.proofs.ColumnLaws.{column_drop}
use Rattle.plan.proofs.rows.word.are_all_headings.Goals as goal

pub loop-place-preserved : goal.loop-place-preserved
loop-place-preserved c =
    let fields : List (List ℕ) = fields_of c.args.fields.now in
    let place = c.loop-place.place in
    let less : place < length fields = omega (arith, c.loop-place-test.true, c.len-place-end.ensures) in
    let next = ap (λ (f : List (List ℕ)). list_all is_heading f) (column_drop fields place less) in
    search (rules, next, c.loop-place.invariant)

pub returns-then-not-is_heading : goal.returns-then-not-is_heading
returns-then-not-is_heading c =
    let fields : List (List ℕ) = fields_of c.args.fields.now in
    let place = c.loop-place.place in
    let less : place < length fields = omega (arith, c.loop-place-test.true, c.len-place-end.ensures) in
    let next = ap (λ (f : List (List ℕ)). list_all is_heading f) (column_drop fields place less) in
    search (rules, next, c.loop-place.invariant)
