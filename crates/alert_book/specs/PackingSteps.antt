-- Texts that are packed side by side (own). Contracts of private functions alone speak of it.
use Rattle.std.specs.Prelude.{◌≡◌, ◌≢◌, ◌⊎◌, List, ◌∷◌, ◌++◌, map, Option, Some, Result, Ok, Err}
use Rattle.std.specs.Str.{chars}
use Rattle.cbs_page.specs.Text.{IsTextFault}
use Rattle.cbs_page.specs.declared.paging.Paged.{Paged}
use Rattle.cbs_page.specs.declared.paging.TextFault.{TextFault}
use Rattle.cbs_page.specs.declared.paging.TextFault.TheVariants as text
use Rattle.alert_book.specs.declared.fault.BookFault.{BookFault}
use Rattle.alert_book.specs.declared.fault.BookFaultKind.TheVariants as fault
use Rattle.alert_book.specs.declared.book.order.Order.{Order}
use Rattle.alert_book.specs.declared.book.order.Sending.{Sending}
use Rattle.alert_book.specs.Book.{ArePagesOf, fault_at, refused, sending_of}

-- the order's text can't be sent, and this says so of its row
pub record HasBadText (order : Order) (f : BookFault) : Type 0 where
  pub sending : Sending
  pub sent : sending_of order.action ≡ Some sending
  pub why : TextFault
  pub wrong : IsTextFault sending.language (chars sending.text) why
  pub told : why ≢ text.Refused
  pub named : f ≡ fault_at order.row (fault.Text why)

-- the pages of the order's text, or its fault, or out of memory
abbrev pub IsOrderPacked : Order → Result (Option Paged) BookFault → Type 0
IsOrderPacked order (Ok paged) = ArePagesOf (sending_of order.action) paged
IsOrderPacked order (Err f) = (f ≡ refused) ⊎ HasBadText order f

-- of what came of the orders, one after the other, this is the first fault
pub record IsFirstFault (packed : List (Result (Option Paged) BookFault)) (f : BookFault) : Type 0 where
  pub before : List (Option Paged)
  pub after : List (Result (Option Paged) BookFault)
  pub split : packed ≡ map Ok before ++ Err f ∷ after
