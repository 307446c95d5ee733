-- Orders whose messages have serial numbers (own). The type of books keeps this of its orders, and contracts of private
-- functions alone speak of it.
use Rattle.std.specs.Prelude.{⊤, ◌<◌}
use Rattle.alert_book.specs.declared.book.order.Action.{Action}
use Rattle.alert_book.specs.declared.book.order.Action.TheVariants as action
use Rattle.alert_book.specs.declared.book.order.Alert.{Alert}
use Rattle.alert_book.specs.declared.book.order.Order.{Order}

-- an alert whose versions have serial numbers
pub record HasSerials (alert : Alert) : Type 0 where
  pub scope : alert.scope < 4
  pub code : alert.code < 1024

-- an order of such an alert, of a version that an update can have
abbrev pub HasVersion : Action → Type 0
HasVersion (action.Write sending) = ⊤
HasVersion (action.Update version sending) = version < 16
HasVersion (action.Stop cells) = ⊤

pub record IsSendable (order : Order) : Type 0 where
  pub alert : HasSerials order.alert
  pub version : HasVersion order.action
