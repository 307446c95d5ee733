-- The lines of orders, as they are appended one after another.
use Rattle.std.proofs.Common.{◌≡◌, List, ℕ, [], ◌∷◌, ◌++◌, refl, sym, ◌∙◌, ap, append-nil, append_assoc}
use Rattle.std.proofs.Common.{Option, Some, subst}
use Rattle.std.specs.Str.{chars}
use Rattle.alert_book.specs.Book.{sending_of}
use Rattle.alert_book.specs.declared.book.order.Order.{Order}
use Rattle.alert_book.specs.declared.book.order.Sending.{Sending}
use Rattle.book_texts.specs.Cost.{IsCostOf}
use Rattle.book_texts.specs.TextsOutput.{text_line, AreLinesOf, IsCutFor, IsLineOf}
use Rattle.book_texts.specs.declared.cost.TextCost.{TextCost}

-- the line of one more order, after those of the orders before it
pub one_line_more : (pages : Option ℕ) (orders : List Order) (order : Order) (lines line : List ℕ)
    → AreLinesOf pages orders lines
    → IsLineOf pages (sending_of order.action) order line
    → AreLinesOf pages (orders ++ order ∷ []) (lines ++ line)
one_line_more pages [] order lines line are is =
    (line, [], is, refl, ap (λ (front : List ℕ). front ++ line) are ∙ sym (append-nil line))
one_line_more pages (first ∷ orders) order lines line are is = (
  are.0,
  are.1 ++ line,
  are.2,
  one_line_more pages orders order are.1 line are.3 is,
  ap (λ (front : List ℕ). front ++ line) are.4 ∙ append_assoc are.0 are.1 line,
)

-- the line of an order that sends this
pub line_of : (pages : Option ℕ) (sent : Option Sending) (sending : Sending) (order : Order) (cost : TextCost)
    (cut : Option ℕ) → Some sending ≡ sent
    → IsCostOf (chars sending.text) cost
    → IsCutFor pages (chars sending.text) cut
    → IsLineOf pages sent order (text_line order sending cost cut)
line_of pages sent sending order cost cut same is cut_is =
    subst (λ (o : Option Sending). IsLineOf pages o order (text_line order sending cost cut)) same
    (cost, is, (cut, cut_is, refl))
