-- What holds of the texts of a book's orders, by its definition alone. Own.
use Rattle.std.specs.Prelude.{◌≡◌, ℕ, Some, List, All}
use Rattle.std.specs.Str.{IsUtf8}
use Rattle.alert_book.specs.declared.book.order.Order.{Order}
use Rattle.alert_book.specs.declared.book.order.Sending.{Sending}
use Rattle.alert_book.specs.declared.network.Origin.{Origin}
use Rattle.alert_book.specs.Book.{Contents, sending_of}
use Rattle.alert_book.specs.Origin.{IsBookFrom}

-- an order sends no text, or one that is UTF-8
abbrev pub HasUtf8Text : Order → Type 0
HasUtf8Text order = (sending : Sending) → sending_of order.action ≡ Some sending → IsUtf8 sending.text

-- the texts of a book are UTF-8, and those of a group's
abbrev pub TextsAreUtf8 : Type 0
TextsAreUtf8 = (from : Origin) (input : List ℕ) (book : Contents)
    → IsBookFrom from input book
    → All HasUtf8Text book.orders
