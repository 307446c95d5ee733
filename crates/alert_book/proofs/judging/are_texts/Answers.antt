use Rattle.std.proofs.Common.{◌<◌, ◌∙◌, arith, length, sym}
use Rattle.csv.specs.Records.{fields_of}
use Rattle.alert_book.specs.Fields.{column}
use Rattle.alert_book.proofs.ColumnLaws.{is_no_text, is_text, texts_here, texts_more}
use Rattle.alert_book.proofs.judging.are_texts.Goals as goal

pub loop-place-preserved : goal.loop-place-preserved
loop-place-preserved c =
    let fields = fields_of c.args.fields.now in
    let place = c.loop-place.place in
    let less : place < length fields = omega (arith, c.len-place-end.ensures) in
    c.loop-place.invariant
    ∙ texts_more fields place less (is_text (column fields place) c.in-Some.field-0.now c.in-Some.ensures)

pub returns-in-None : goal.returns-in-None
returns-in-None c =
    let fields = fields_of c.args.fields.now in
    let place = c.loop-place.place in
    let less : place < length fields = omega (arith, c.len-place-end.ensures) in
    sym (c.loop-place.invariant
    ∙ texts_here fields place less (is_no_text (column fields place) (rw c.in-None.is at c.text_at.ensures)))
