-- What a session keeps, and when that stands for a state of the definition (own).
use Rattle.std.specs.Prelude.{◌≡◌, ⊤, ℕ, true, Option, Some, None, List, All}
use Rattle.cbs_page.specs.declared.paging.Paged.{Paged}
use Rattle.cbsp_wire.specs.declared.message.Cell.{Cell}
use Rattle.cbsp_wire.specs.declared.message.Message.{Message}
use Rattle.alert_book.specs.declared.book.order.Order.{Order}
use Rattle.alert_book.specs.declared.session.request.Request.{Request}
use Rattle.alert_book.specs.Session.{after_reply, orders_from, version_in, Replied, Standing}
use Rattle.reply_outcome.specs.Replies.{cells_asked}
use Rattle.alert_book.specs.Book.{Contents}
use Rattle.alert_book.specs.declared.session.request.CellVersion.{CellVersion}
use Rattle.alert_book.specs.VersionSteps.{has_place, kept_version}

-- what a session keeps: the versions that it believes live, the request that it sent last and its row, the requests
-- that are due, and of which part of which book, from which place on, the orders are that are left
pub record SessionState : Type 0 where
  pub versions : List (List CellVersion)
  pub sent : Option Request
  pub row : ℕ
  pub due : List Request
  pub book : Contents
  pub part : ℕ
  pub parts : ℕ
  pub place : ℕ

abbrev pub left_in : SessionState → List (Order × Option Paged)
left_in s = orders_from s.book s.part s.parts s.place

-- the cells that the request asks have places
abbrev pub HavePlaces : List (List CellVersion) → Option Request → Type 0
HavePlaces versions None = ⊤
HavePlaces versions (Some request) =
    All (λ cell. has_place versions request.number cell ≡ true) (cells_asked request.message)

-- the versions that are kept are those believed live by some replies
abbrev pub AreBelieved : List (List CellVersion) → List Replied → Type 0
AreBelieved versions replies =
    (number : ℕ) (cell : Cell) → kept_version versions number cell ≡ version_in replies number cell

-- what a session keeps stands for a state
pub record StandsFor (session : SessionState) (standing : Standing) : Type 0 where
  pub believed : AreBelieved session.versions standing.replies
  pub sent : session.sent ≡ standing.sent
  pub row : session.row ≡ standing.row
  pub due : session.due ≡ standing.due
  pub left : left_in session ≡ standing.left

-- one session stands where the other stood, or where its definition goes after a reply
abbrev pub Stays : (old new : SessionState) → Type 0
Stays old new = (standing : Standing) → StandsFor old standing → StandsFor new standing

abbrev pub Advances : Option Message → (old new : SessionState) → Type 0
Advances reply old new = (standing : Standing) → StandsFor old standing → StandsFor new (after_reply reply standing)
