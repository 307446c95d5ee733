use Rattle.std.proofs.Common.{◌∙◌, arith, rules, ap}
use Rattle.alert_book.specs.Extent.{most_octets}
use Rattle.alert_book.specs.declared.judging.bounds.Bounds.{Bounds}
use Rattle.book_texts.proofs.WholeBook.{fault_of_read, too_long}
use Rattle.book_texts.proofs.texts.texts_stream.Goals as goal

pub returns-then-len-most-clause-err : goal.returns-then-len-most-clause-err
returns-then-len-most-clause-err g c =
    too_long c.args.what c.args.pages _ c.most_octets-most.result c.in-Ok.input.items _ _
    (c.most_octets-most.ensures.most ∙ ap (λ (b : Bounds). most_octets b) c.bounds.ensures)
    c.in-Ok.ensures.value (omega arith) (search rules)

pub returns-in-Err-clause-err : goal.returns-in-Err-clause-err
returns-in-Err-clause-err g c =
    fault_of_read c.args.what c.args.pages _ c.most_octets-most.result c.in-Ok.input.items c.deref.result.now _ _
    c.in-Err.fault
    (c.most_octets-most.ensures.most ∙ ap (λ (b : Bounds). most_octets b) c.bounds.ensures)
    c.in-Ok.ensures.value c.deref.ensures.value
    (omega arith) c.in-Err.ensures.err (search rules)
