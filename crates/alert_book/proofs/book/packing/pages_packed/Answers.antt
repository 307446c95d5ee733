use Rattle.rayon.proofs.ListFacts.{IfOk-then}
use Rattle.std.proofs.lemmas.Result.{IfErr-weaker}
use Rattle.alert_book.proofs.PageLaws.{pages_have, wrong_first}
use Rattle.alert_book.proofs.book.packing.pages_packed.Goals as goal

pub returns-in-Ok-clause-ok : goal.returns-in-Ok-clause-ok
returns-in-Ok-clause-ok c =
    let packed = rw c.in-Ok.is at c.requires in
    IfOk-then c.in_order.result _ _ c.in_order.ensures.ok (λ pages is.
    pages_have c.args.orders.now pages.items (rw is at packed))

pub returns-in-Ok-clause-err : goal.returns-in-Ok-clause-err
returns-in-Ok-clause-err c =
    let packed = rw c.in-Ok.is at c.requires in
    IfErr-weaker c.in_order.result _ _
    (λ fault first. wrong_first c.args.orders.now c.in-Ok.packed.items fault packed first)
    c.in_order.ensures.err
