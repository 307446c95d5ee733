use Rattle.std.proofs.Common.{◌≡◌, List, ℕ, Some, rules, subst}
use Rattle.std.specs.Str.{chars}
use Rattle.std.proofs.lemmas.Result.{on_ok_weaker}
use Rattle.alert_book.specs.Book.{sending_of}
use Rattle.book_texts.specs.Cost.{IsCostOf}
use Rattle.book_texts.specs.TextsOutput.{text_line, IsCutFor}
use Rattle.book_texts.proofs.Lines.{line_of}
use Rattle.book_texts.proofs.table.Table.push_order.Goals as goal

pub returns-in-Some : goal.returns-in-Some
returns-in-Some c =
    let sending = c.in-Some.sending.now in
    let cost = c.cost_of_text-cost.result in
    let cut = c.cut_of_text-cut.result in
    let sent : Some sending ≡ sending_of c.args.order.now.action = c.in-Some.ensures in
    let text : c.as_str-text.result.now ≡ sending.text =
    search (rules, c.as_str-text.ensures.value) in
    let costs : IsCostOf (chars sending.text) cost =
    subst (λ (octets : List ℕ). IsCostOf (chars octets) cost) text c.cost_of_text-cost.ensures in
    let cuts : IsCutFor c.args.pages (chars sending.text) cut =
    subst (λ (octets : List ℕ). IsCutFor c.args.pages (chars octets) cut) text c.cut_of_text-cut.ensures in
    on_ok_weaker c.push_text.result
    (λ pushed octets is. (
      text_line c.args.order.now sending cost cut,
      line_of c.args.pages _ sending c.args.order.now cost cut sent costs cuts,
      pushed octets is,
    ))
    c.push_text.ensures
