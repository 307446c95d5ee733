use Rattle.std.proofs.Common.{◌<◌, ap, append_assoc, List, ℕ, length, arith, rules}
use Rattle.std.specs.List.{flat_map}
use Rattle.csv.specs.Records.{fields_of}
use Rattle.plan.specs.PlanCells.{parts_of}
use Rattle.alert_book.proofs.ColumnLaws.{column_drop}
use Rattle.plan.proofs.cells.area.area_of.Goals as goal

pub loop-place-preserved : goal.loop-place-preserved
loop-place-preserved c =
    let fields : List (List ℕ) = fields_of c.args.fields.now in
    let place = c.loop-place.place in
    let less : place < length fields = omega (arith, c.loop-place-test.true, c.len-place-end.ensures) in
    let next = ap (λ (f : List (List ℕ)). flat_map parts_of f) (column_drop fields place less) in
    search (rules, next, c.loop-place.invariant, append_assoc)
