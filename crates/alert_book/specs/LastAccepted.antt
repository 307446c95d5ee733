-- Which version of an alert a cell accepted last, by the turns of a session alone; and that a session replaces and
-- stops no other. Own.
use Rattle.std.specs.Prelude.{◌≡◌, ◌⊎◌, ℕ, true, Option, Some, None, List, ◌∷◌, ◌++◌, find, All}
use Rattle.cbsp_wire.specs.declared.cause.TheConstants.{MESSAGE_REFERENCE_NOT_IDENTIFIED}
use Rattle.cbsp_wire.specs.declared.message.Cell.{Cell}
use Rattle.cbsp_wire.specs.declared.message.Failure.{Failure}
use Rattle.cbsp_wire.specs.declared.message.Message.{Message}
use Rattle.cbsp_wire.specs.declared.message.Message.TheVariants as messages
use Rattle.cbsp_wire.specs.CellLists.{contains}
use Rattle.reply_outcome.specs.declared.outcome.Outcome.{Outcome}
use Rattle.alert_book.specs.declared.network.Origin.{Origin}
use Rattle.alert_book.specs.Book.{Contents}
use Rattle.alert_book.specs.Origin.{IsBookFrom}
use Rattle.alert_book.specs.Session.{Standing}
use Rattle.reply_outcome.specs.Replies.{outcome_of, refuses}
use Rattle.alert_book.specs.Turns.{begun, is_asked, GoesTo, Turn}

-- a version of an alert is known by the identifier and the serial number of its messages
abbrev pub Pair : Type 0
Pair = ℕ × ℕ

abbrev pub pair_if : (id : ℕ) → (serial : Option ℕ) → Option Pair
pair_if id None = None
pair_if id (Some serial) = Some (id, serial)

-- the version that a message has cells broadcast, and the one that it has them replace or stop
abbrev pub pair_sent : Message → Option Pair
pair_sent (messages.Write id new old cells channel category period broadcasts dcs contents) = Some (id, new)
pair_sent other = None

abbrev pub pair_gone : Message → Option Pair
pair_gone (messages.Write id new old cells channel category period broadcasts dcs contents) = pair_if id old
pair_gone (messages.Kill id old cells channel) = Some (id, old)
pair_gone reply = None

-- a turn asks a cell something of the alert of this number
abbrev pub IsAskedOf : (number : ℕ) → Cell → Turn → Type 0
IsAskedOf number cell turn = (turn.request.number ≡ number) × (is_asked cell turn ≡ true)

-- the reply to a turn's message says that the cell accepted: it lists the cell so, and no failure of it
pub record HasAccepted (cell : Cell) (turn : Turn) : Type 0 where
  pub outcome : Outcome
  pub replied : outcome_of turn.request.message turn.reply ≡ Some outcome
  pub listed : contains outcome.accepted cell ≡ true
  pub unrefused : find (refuses cell) outcome.refused ≡ None

-- or that it has no such message: it refused, since the message to replace or to stop isn't live there
pub record HasNone (cell : Cell) (turn : Turn) : Type 0 where
  pub outcome : Outcome
  pub replied : outcome_of turn.request.message turn.reply ≡ Some outcome
  pub failure : Failure
  pub refused : find (refuses cell) outcome.refused ≡ Some failure
  pub cause : failure.cause ≡ MESSAGE_REFERENCE_NOT_IDENTIFIED

-- of the turns that asked a cell something of an alert, and whose reply says that it accepted or has no such message,
-- the last one is a write of this version, and the cell accepted it
pub record HasAcceptedLast (turns : List Turn) (number : ℕ) (cell : Cell) (version : Pair) : Type 0 where
  pub before : List Turn
  pub turn : Turn
  pub later : List Turn
  pub split : turns ≡ before ++ turn ∷ later
  pub asked : IsAskedOf number cell turn
  pub sent : pair_sent turn.request.message ≡ Some version
  pub accepted : HasAccepted cell turn
  pub last : All (λ t. IsAskedOf number cell t → HasAccepted cell t ⊎ HasNone cell t → ⊥) later

-- a session asks no cell to replace or to stop a version of an alert but the one that the cell accepted last, by the
-- replies so far: so no update is sent to a cell that refused the write
abbrev pub LastAcceptedIsReplaced : Type 0
LastAcceptedIsReplaced = (from : Origin) (input : List ℕ) (book : Contents) (part parts : ℕ)
    (before later : List Turn) (turn : Turn) (reached : Standing) (cell : Cell) (version : Pair)
    → IsBookFrom from input book
    → GoesTo (begun book part parts) (before ++ turn ∷ later) reached
    → is_asked cell turn ≡ true
    → pair_gone turn.request.message ≡ Some version
    → HasAcceptedLast before turn.request.number cell version
