use Rattle.std.proofs.Common.{◌≡◌, ◌++◌, ◌+◌, ◌∷◌, [], List, ℕ, subst, sym, take, arith, append_assoc, ap, ◌∙◌}
use Rattle.std.proofs.lemmas.List.{take_all, take_more}
use Rattle.std.proofs.lemmas.Result.{IfOk-weaker}
use Rattle.alert_book.specs.declared.book.order.Order.{Order}
use Rattle.book_texts.specs.TextsOutput.{header_line, AreLinesOf}
use Rattle.book_texts.specs.TextsSteps.{IsTable}
use Rattle.book_texts.proofs.Lines.{one_line_more}
use Rattle.book_texts.proofs.texts.table_of.Goals as goal

pub loop-order-preserved : goal.loop-order-preserved
loop-order-preserved c =
    let had = c.loop-order.invariant in
    let line = c.in_ok-push_order.ensures (header_line c.args.pages ++ had.0) had.2 in
    let orders : take c.loop-order.order-index c.args.orders.now ++ c.order-item.result ∷ []
    ≡ take (c.loop-order.order-index + 1) c.args.orders.now =
    ap (λ (o : Order). take c.loop-order.order-index c.args.orders.now ++ o ∷ []) c.order-item.is
    ∙ sym (take_more c.args.orders.now c.loop-order.order-index c.order-item.result (omega (
      arith,
      c.loop-order-test.true,
    ))) in (
      had.0 ++ line.0,
      subst (λ (xs : List Order). AreLinesOf c.args.pages xs (had.0 ++ line.0)) orders
          (one_line_more c.args.pages (take c.loop-order.order-index c.args.orders.now) c.order-item.result had.0
          line.0 had.1 line.1),
      subst (λ (xs : List ℕ). IsTable c.push_order.new.self xs) (append_assoc (header_line c.args.pages) had.0 line.0)
          line.2,
    )

pub returns : goal.returns
returns c =
    let had = c.loop-order.invariant in
    let all : take c.loop-order.order-index c.args.orders.now ≡ c.args.orders.now =
    take_all c.loop-order.order-index c.args.orders.now (omega (arith, c.loop-order-test.false)) in
    IfOk-weaker c.into_octets.result _ _
    (λ octets holds. (
      had.0,
      subst (λ (xs : List Order). AreLinesOf c.args.pages xs had.0) all had.1,
      holds (header_line c.args.pages ++ had.0) had.2,
    ))
    c.into_octets.ensures
