-- The types of message, and the table of their elements. 3GPP TS 48.049, clause 8.1, in this project's own layouts.
use Rattle.std.specs.Prelude.{ℕ, ◌+◌, ◌==◌, if◌then◌else◌, Option, Some, None, List, [], ◌∷◌}
use Rattle.cbsp_wire.specs.Element.{u16_from_be}
use Rattle.cbsp_wire.specs.declared.message.message_type.MessageType.{MessageType}
use Rattle.cbsp_wire.specs.declared.message.message_type.MessageType.TheVariants as types
use Rattle.cbsp_wire.specs.declared.message.message_type.Presence.{Presence}
use Rattle.cbsp_wire.specs.declared.message.message_type.Presence.TheVariants.{Mandatory, Optional, Absent}
use Rattle.cbsp_wire.specs.declared.message.iei.TheConstants.{MESSAGE_CONTENT, OLD_SERIAL_NUMBER, NEW_SERIAL_NUMBER}
use Rattle.cbsp_wire.specs.declared.message.iei.TheConstants.{CELL_LIST}
use Rattle.cbsp_wire.specs.declared.message.iei.TheConstants.{CATEGORY, REPETITION_PERIOD, BROADCASTS_REQUESTED}
use Rattle.cbsp_wire.specs.declared.message.iei.TheConstants.{BROADCASTS_COMPLETED, FAILURE_LIST, DATA_CODING}
use Rattle.cbsp_wire.specs.declared.message.iei.TheConstants.{MESSAGE_IDENTIFIER, CHANNEL_INDICATOR, NUMBER_OF_PAGES}

-- the octet that says the type
abbrev pub octet_of_type : MessageType → ℕ
octet_of_type types.Write = 1
octet_of_type types.WriteDone = 2
octet_of_type types.WriteFailed = 3
octet_of_type types.Kill = 4
octet_of_type types.KillDone = 5
octet_of_type types.KillFailed = 6

abbrev pub type_from_octet : ℕ → Option MessageType
type_from_octet octet =
    if octet == 1 then Some types.Write
    else if octet == 2 then Some types.WriteDone
    else if octet == 3 then Some types.WriteFailed
    else if octet == 4 then Some types.Kill
    else if octet == 5 then Some types.KillDone
    else if octet == 6 then Some types.KillFailed
    else None

-- how long an element's body is: a number of octets, or two octets of length and as many as they say
pub data Size : Type 0 where
  Fixed : ℕ → Size
  Listed : Size

-- a row of the table: an element's number, its size, and whether each type of message has it
pub record Row : Type 0 where
  pub number : ℕ
  pub size : Size
  pub write : Presence
  pub write_done : Presence
  pub write_failed : Presence
  pub kill : Presence
  pub kill_done : Presence
  pub kill_failed : Presence

abbrev pub row : ℕ → Size → Presence → Presence → Presence → Presence → Presence → Presence → Row
row n s a b c d e f =
    record {
      number = n;
      size = s;
      write = a;
      write_done = b;
      write_failed = c;
      kill = d;
      kill_done = e;
      kill_failed = f;
    }

-- identifier, new serial number, old serial number, failures, completed, cells, channel, category, period, broadcasts,
-- pages, data coding, content: the order in which they are written
unfoldable pub table : List Row
table =
    row MESSAGE_IDENTIFIER (Fixed 2) Mandatory Mandatory Mandatory Mandatory Mandatory Mandatory
    ∷ row NEW_SERIAL_NUMBER (Fixed 2) Mandatory Mandatory Mandatory Absent Absent Absent
    ∷ row OLD_SERIAL_NUMBER (Fixed 2) Optional Optional Optional Mandatory Mandatory Mandatory
    ∷ row FAILURE_LIST Listed Absent Absent Mandatory Absent Absent Mandatory
    ∷ row BROADCASTS_COMPLETED Listed Absent Optional Optional Absent Optional Optional
    ∷ row CELL_LIST Listed Mandatory Optional Optional Mandatory Optional Optional
    ∷ row CHANNEL_INDICATOR (Fixed 1) Optional Optional Optional Optional Optional Optional
    ∷ row CATEGORY (Fixed 1) Optional Absent Absent Absent Absent Absent
    ∷ row REPETITION_PERIOD (Fixed 2) Mandatory Absent Absent Absent Absent Absent
    ∷ row BROADCASTS_REQUESTED (Fixed 2) Mandatory Absent Absent Absent Absent Absent
    ∷ row NUMBER_OF_PAGES (Fixed 1) Mandatory Absent Absent Absent Absent Absent
    ∷ row DATA_CODING (Fixed 1) Mandatory Absent Absent Absent Absent Absent
    ∷ row MESSAGE_CONTENT (Fixed 83) Mandatory Absent Absent Absent Absent Absent
    ∷ []

-- the row of a number
abbrev pub row_in : List Row → ℕ → Option Row
row_in [] n = None
row_in (r ∷ rs) n = if r.number == n then Some r else row_in rs n

-- whether a type of message has the element of a row
abbrev pub presence_in_row : MessageType → Row → Presence
presence_in_row types.Write r = r.write
presence_in_row types.WriteDone r = r.write_done
presence_in_row types.WriteFailed r = r.write_failed
presence_in_row types.Kill r = r.kill
presence_in_row types.KillDone r = r.kill_done
presence_in_row types.KillFailed r = r.kill_failed

abbrev pub presence_by : MessageType → Option Row → Presence
presence_by message_type None = Absent
presence_by message_type (Some r) = presence_in_row message_type r

unfoldable pub presence_of : MessageType → ℕ → Presence
presence_of message_type n = presence_by message_type (row_in table n)

abbrev pub size_in : Size → List ℕ → ℕ
size_in (Fixed k) octets = k
size_in Listed octets = 2 + u16_from_be octets

abbrev pub size_by : Option Row → List ℕ → ℕ
size_by None octets = 0
size_by (Some r) octets = size_in r.size octets

-- how many octets the body of an element takes, by its number and the octets after the number
unfoldable pub size_of : ℕ → List ℕ → ℕ
size_of n octets = size_by (row_in table n) octets
