use Rattle.std.proofs.Common.{◌<◌, ap, append_assoc, List, ℕ, length, arith, rules}
use Rattle.csv.specs.Records.{fields_of}
use Rattle.plan.specs.PlanRow.{fields_from}
use Rattle.alert_book.proofs.ColumnLaws.{column_drop}
use Rattle.plan.proofs.rows.row.push_fields.Goals as goal

pub loop-place-preserved : goal.loop-place-preserved
loop-place-preserved c =
    let fields : List (List ℕ) = fields_of c.args.cut.now in
    let place = c.loop-place.place in
    let less : place < length fields = omega (arith, c.loop-place-test.true, c.len-place-end.ensures) in
    let next = ap (λ (f : List (List ℕ)). fields_from c.args.areas.now c.args.verb place f)
    (column_drop fields place less) in
    search (rules, next, c.loop-place.invariant, append_assoc)
