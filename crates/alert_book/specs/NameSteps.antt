-- What is kept of the names of a book's rows so far (own). Contracts of private functions alone speak of it.
use Rattle.std.specs.Prelude.{◌≡◌, ℕ, ◌+◌, ◌<◌, if◌then◌else◌, Option, Some, None, List, length, count_by}
use Rattle.std.specs.List.{slice_get}
use Rattle.std.specs.HashMap.{get_by_text}
use Rattle.alert_book.specs.declared.book.names.Known.{Known}
use Rattle.alert_book.specs.declared.book.names.Names.{Names}
use Rattle.alert_book.specs.declared.book.order.Order.{Order}
use Rattle.alert_book.specs.Fields.{first_order}
use Rattle.alert_book.specs.Row.{is_update_of, updates}

-- what is known of a name is true of some orders
abbrev pub IsKnownIn : List Order → List ℕ → Option Known → Type 0
IsKnownIn orders name None = first_order orders name ≡ None
IsKnownIn orders name (Some known) = (known.first < length orders)
    × (first_order orders name ≡ slice_get orders known.first)
    × (known.updates ≡ count_by (is_update_of name) orders)

-- and what is known of all names is
abbrev pub AreNames : Names → List Order → Type 0
AreNames names orders = (name : List ℕ) → IsKnownIn orders name (get_by_text names.by_name name)

-- whether an order is an update, as a number
abbrev pub update_count : Order → ℕ
update_count order = if updates order.action then 1 else 0

-- what is known of a name once one more order of it has a place
abbrev pub known_after : Option Known → (place : ℕ) → Order → Known
known_after None place order = record { first = place; updates = update_count order }
known_after (Some known) place order = record {
  first = known.first;
  updates = known.updates + update_count order;
}
