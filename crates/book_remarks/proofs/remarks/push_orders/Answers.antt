use Rattle.std.proofs.Common.{◌≡◌, ◌∙◌, ◌++◌, List, Some, ap, arith, length, map, refl, sym, take}
use Rattle.std.specs.List.{slice_get}
use Rattle.std.proofs.lemmas.Option.{slice_get_read}
use Rattle.report.proofs.ListLaws.{flat_map-place}
use Rattle.alert_book.specs.declared.book.order.Order.{Order}
use Rattle.book_remarks.specs.declared.says.CellMark.{CellMark}
use Rattle.book_remarks.specs.declared.remarks.Remark.{Remark}
use Rattle.book_remarks.specs.Answers.{Column}
use Rattle.book_remarks.specs.Remarks.{mark_in, order_remarks, remarks_at, remarks_of_place}
use Rattle.book_remarks.proofs.remarks.push_orders.Goals as goal

pub loop-place-preserved : goal.loop-place-preserved
loop-place-preserved c =
    let orders : List Order = c.args.orders.now in
    let columns : List Column = c.args.columns.now in
    let here : slice_get orders c.loop-place.place ≡ Some c.index-orders-place.result =
    slice_get_read orders (length orders) c.loop-place.place c.index-orders-place.result refl (omega arith)
    c.index-orders-place.is in
    let found : c.deref.result.now ≡ map (mark_in c.loop-place.place) columns =
    c.deref.ensures.value ∙ c.in_ok-in_cells.ensures in
    let added : c.push_order.new.remarks.items ≡ c.loop-place.remarks.items ++ remarks_at orders columns
    c.loop-place.place =
    c.in_ok-push_order.ensures
    ∙ ap (λ (in_cells : List CellMark). c.loop-place.remarks.items
    ++ order_remarks (take c.loop-place.place orders) c.index-orders-place.result in_cells) found
    ∙ ap (λ (xs : List Remark). c.loop-place.remarks.items ++ xs)
    (sym (ap (remarks_of_place orders columns c.loop-place.place) here)) in
    added ∙ ap (λ (xs : List Remark). xs ++ remarks_at orders columns c.loop-place.place) c.loop-place.invariant
    ∙ flat_map-place (remarks_at orders columns) c.loop-place.place c.args.remarks.now.items
