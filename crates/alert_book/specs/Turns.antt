-- The turns of a session: its requests, each with the reply to it, from the first request to the last. Own.
use Rattle.std.specs.Prelude.{◌≡◌, ℕ, Bool, Some, None, List, [], ◌∷◌}
use Rattle.cbsp_wire.specs.declared.message.Cell.{Cell}
use Rattle.cbsp_wire.specs.declared.message.Message.{Message}
use Rattle.cbsp_wire.specs.CellLists.{contains}
use Rattle.alert_book.specs.declared.session.request.Request.{Request}
use Rattle.alert_book.specs.Book.{Contents}
use Rattle.alert_book.specs.Session.{after_reply, session_of, Standing}
use Rattle.reply_outcome.specs.Replies.{cells_asked}

-- a request, and what the reply to it means
pub record Turn : Type 0 where
  pub request : Request
  pub reply : Message

-- a session goes by these turns, one after the other, from one standing to another
abbrev pub GoesTo : Standing → List Turn → Standing → Type 0
GoesTo from [] to = to ≡ from
GoesTo from (turn ∷ later) to =
    (from.sent ≡ Some turn.request) × GoesTo (after_reply (Some turn.reply) from) later to

-- a session of a part of a book, with its first request if there is one
abbrev pub begun : Contents → (part parts : ℕ) → Standing
begun book part parts = after_reply None (session_of book part parts)

-- these are all the turns of a session of a part of a book: after the last of them there is no request
pub record AreTurnsOf (book : Contents) (part parts : ℕ) (turns : List Turn) : Type 0 where
  pub reached : Standing
  pub gone : GoesTo (begun book part parts) turns reached
  pub over : reached.sent ≡ None

-- whether a turn's message asks a cell
abbrev pub is_asked : Cell → Turn → Bool
is_asked cell turn = contains (cells_asked turn.request.message) cell
