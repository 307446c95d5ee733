-- How a session advances (own). Contracts of private functions alone speak of it.
use Rattle.std.specs.Prelude.{◌≡◌, ℕ, Option, Some, None, List, [], ◌∷◌}
use Rattle.cbs_page.specs.declared.paging.Paged.{Paged}
use Rattle.alert_book.specs.declared.book.order.Order.{Order}
use Rattle.reply_outcome.specs.declared.outcome.Outcome.{Outcome}
use Rattle.alert_book.specs.declared.session.request.Request.{Request}
use Rattle.alert_book.specs.declared.session.NextRequests.{NextRequests}
use Rattle.alert_book.specs.Session.{orders_from}
use Rattle.alert_book.specs.SessionSteps.{AreBelievedWith}
use Rattle.alert_book.specs.Stands.{left_in, SessionState}

-- the requests that were found, or else those that are due
abbrev pub requests_with : Option NextRequests → List Request → List Request
requests_with None due = due
requests_with (Some found) due = found.requests.items

-- the requests that are due, and the orders that are then left
abbrev pub due_with : SessionState → Option NextRequests → List Request × List (Order × Option Paged)
due_with s None = (s.due, left_in s)
due_with s (Some found) = (found.requests.items, orders_from s.book s.part s.parts found.place)

abbrev pub first_in : List Request → Option Request
first_in [] = None
first_in (request ∷ due) = Some request

abbrev pub rest_of : List Request → List Request
rest_of [] = []
rest_of (request ∷ due) = due

abbrev pub row_after : Option Request → (row : ℕ) → ℕ
row_after None row = row
row_after (Some request) row = request.row

-- the first of these requests was sent, and what the reply to the one before says was kept
pub record HasAdvanced (old new : SessionState) (outcome : Option Outcome)
    (requests : List Request × List (Order × Option Paged)) : Type 0 where
  pub believed : AreBelievedWith old.versions new.versions old.sent outcome
  pub sent : new.sent ≡ first_in requests.0
  pub row : new.row ≡ row_after (first_in requests.0) old.row
  pub due : new.due ≡ rest_of requests.0
  pub left : left_in new ≡ requests.1
