-- What the reply to a message says of the cells that were asked, and which version of an alert is live there after it.
-- Own.
--
-- A cell that accepts a write has its version from then on; one that accepts a kill, and one that refuses for a message
-- that isn't live, has none; any other answer, or none, changes nothing.
use Rattle.std.specs.Prelude.{ℕ, ◌==◌, ◌&&◌, Bool, true, false, if◌then◌else◌, Option, Some, None, List, [], find, map}
use Rattle.cbsp_wire.specs.declared.cause.TheConstants.{MESSAGE_REFERENCE_NOT_IDENTIFIED}
use Rattle.cbsp_wire.specs.declared.message.Cell.{Cell}
use Rattle.cbsp_wire.specs.declared.message.Count.{Count}
use Rattle.cbsp_wire.specs.declared.message.Failure.{Failure}
use Rattle.cbsp_wire.specs.declared.message.Message.{Message}
use Rattle.cbsp_wire.specs.declared.message.Message.TheVariants as messages
use Rattle.cbsp_wire.specs.CellLists.{contains}
use Rattle.cbsp_wire.specs.Range.{is_cell}
use Rattle.reply_outcome.specs.declared.outcome.Outcome.{Outcome}

-- the cells that a message asks
abbrev pub cells_asked : Message → List Cell
cells_asked (messages.Write id new old cells channel category period broadcasts dcs contents) = cells
cells_asked (messages.Kill id old cells channel) = cells
cells_asked reply = []

-- two serial numbers are one, or there is none twice
abbrev pub same_serial : Option ℕ → Option ℕ → Bool
same_serial None None = true
same_serial None (Some n) = false
same_serial (Some m) None = false
same_serial (Some m) (Some n) = m == n

-- whether a message is the write, or the kill, of this identifier and these serial numbers
abbrev pub is_write_of : (id new : ℕ) → (old : Option ℕ) → Message → Bool
is_write_of id new old (messages.Write of_id of_new of_old cells channel category period broadcasts dcs contents) =
    (of_id == id) && (of_new == new) && same_serial of_old old
is_write_of id new old message = false

abbrev pub is_kill_of : (id old : ℕ) → Message → Bool
is_kill_of id old (messages.Kill of_id of_old cells channel) = (of_id == id) && (of_old == old)
is_kill_of id old message = false

-- what a reply says of cells: those that accepted, and those that refused
abbrev pub outcome_with : List Cell → List Failure → Outcome
outcome_with accepted refused = record { accepted = accepted; refused = refused }

abbrev pub cells_counted : List Count → List Cell
cells_counted counts = map (λ count. count.cell) counts

-- the reply to a plain write lists the cells that accepted it; one to a replacement or a kill their completed
-- broadcasts
abbrev pub accepting : (old : Option ℕ) → List Count → List Cell → List Cell
accepting None completed cells = cells
accepting (Some serial) completed cells = cells_counted completed

-- whether a reply is one to this message: of its type, with its identifier and its serial numbers
abbrev pub is_reply_to : Message → (reply : Message) → Bool
is_reply_to message (messages.WriteDone id new old completed cells channel) = is_write_of id new old message
is_reply_to message (messages.WriteFailed id new old refused completed cells channel) = is_write_of id new old message
is_reply_to message (messages.KillDone id old completed cells channel) = is_kill_of id old message
is_reply_to message (messages.KillFailed id old refused completed cells channel) = is_kill_of id old message
is_reply_to message order = false

-- what a reply says of cells
abbrev pub outcome_of_reply : Message → Outcome
outcome_of_reply (messages.WriteDone id new old completed cells channel) =
    outcome_with (accepting old completed cells) []
outcome_of_reply (messages.WriteFailed id new old refused completed cells channel) =
    outcome_with (accepting old completed cells) refused
outcome_of_reply (messages.KillDone id old completed cells channel) = outcome_with (cells_counted completed) []
outcome_of_reply (messages.KillFailed id old refused completed cells channel) =
    outcome_with (cells_counted completed) refused
outcome_of_reply order = outcome_with [] []

-- and what it says to this message, if it is a reply to it
abbrev pub outcome_of : Message → (reply : Message) → Option Outcome
outcome_of message reply = if is_reply_to message reply then Some (outcome_of_reply reply) else None

-- the version after a refusal: none where the message to replace or to stop isn't live, else what it was
abbrev pub after_refusal : (cause : ℕ) → (before : Option ℕ) → Option ℕ
after_refusal cause before = if cause == MESSAGE_REFERENCE_NOT_IDENTIFIED then None else before

-- the version in a cell that was asked: after its refusal, if there is one; else the request's where it accepted
abbrev pub version_by : Option Failure → (accepted : Bool) → (asked before : Option ℕ) → Option ℕ
version_by (Some failure) accepted asked before = after_refusal failure.cause before
version_by None accepted asked before = if accepted then asked else before

-- whether a failure is this cell's
abbrev pub refuses : Cell → Failure → Bool
refuses cell failure = is_cell cell failure.cell

-- and so of a cell that was asked for a version, or for none where a message is to be stopped
abbrev pub version_by_reply : (asked : Option ℕ) → Outcome → Cell → (before : Option ℕ) → Option ℕ
version_by_reply asked outcome cell before =
    version_by (find (refuses cell) outcome.refused) (contains outcome.accepted cell) asked before
