-- What octets mean: the message at their front, and what follows it. 3GPP TS 48.049, clauses 5.2, 8.1.2 and 8.1.3.
use Rattle.std.specs.Prelude.{◌≡◌, ℕ, ◌==◌, if◌then◌else◌, List, ◌∷◌, length, take, drop, nat_lt}
use Rattle.std.specs.Prelude.{Option, Some, None, Result, Ok, Err}
use Rattle.cbsp_wire.specs.Element.{Element}
use Rattle.cbsp_wire.specs.Refusals.{length_field}
use Rattle.cbsp_link.specs.declared.fault.LinkFault.{LinkFault}
use Rattle.cbsp_link.specs.declared.fault.LinkFault.TheVariants.{CutMessage}
use Rattle.cbsp_link.specs.declared.iei.TheConstants.{OLD_SERIAL_NUMBER, NEW_SERIAL_NUMBER, CATEGORY}
use Rattle.cbsp_link.specs.declared.iei.TheConstants.{BROADCASTS_REQUESTED, DATA_CODING, RECOVERY_INDICATION}
use Rattle.cbsp_link.specs.declared.iei.TheConstants.{MESSAGE_IDENTIFIER, CHANNEL_INDICATOR}
use Rattle.cbsp_link.specs.declared.iei.TheConstants.{BROADCAST_MESSAGE_TYPE}
use Rattle.cbsp_link.specs.declared.message.Answered.{Answered}
use Rattle.cbsp_link.specs.declared.message.Answered.TheVariants as orders
use Rattle.cbsp_link.specs.declared.message.LinkMessage.{LinkMessage}
use Rattle.cbsp_link.specs.declared.message.LinkMessage.TheVariants as messages
use Rattle.cbsp_link.specs.declared.reading.Kind.{Kind}
use Rattle.cbsp_link.specs.declared.reading.Kind.TheVariants as kinds
use Rattle.cbsp_link.specs.Outcome.{◌>>=◌, needed, faultless}
use Rattle.cbsp_link.specs.Element.{elements_in, fault_in}
use Rattle.cbsp_link.specs.Value.{pair_in, octet_in, cells_in, counts_in, needed_cells, needed_failures}
use Rattle.cbsp_link.specs.Value.{needed_period, needed_pages}

-- the message at the front: its type, the octets after its header, and those after the message
pub record Front : Type 0 where
  pub message_type : ℕ
  pub body : List ℕ
  pub rest : List ℕ

-- a header is the type and the length of what follows it, in three octets (5.2)
unfoldable pub front_of : List ℕ → Result Front LinkFault
front_of (message_type ∷ a ∷ b ∷ c ∷ octets) =
    let size = length_field a b c in
    if nat_lt (length octets) size then Err CutMessage else Ok
    (record { message_type = message_type; body = take size octets; rest = drop size octets })
front_of octets = Err CutMessage

-- the types of message that are looked into (8.1.2)
abbrev pub kind_of : ℕ → Option Kind
kind_of message_type =
    if message_type == 1 then Some kinds.Write
    else if message_type == 2 then Some kinds.WriteDone
    else if message_type == 3 then Some kinds.WriteFailed
    else if message_type == 4 then Some kinds.Kill
    else if message_type == 5 then Some kinds.KillDone
    else if message_type == 6 then Some kinds.KillFailed
    else if message_type == 16 then Some kinds.Reset
    else if message_type == 17 then Some kinds.ResetDone
    else if message_type == 18 then Some kinds.ResetFailed
    else if message_type == 19 then Some kinds.Restart
    else if message_type == 20 then Some kinds.Failure
    else None

-- the order that a reply answers: to write, with the new serial number, or to stop, with the old one
unfoldable pub write_answered : List Element → Result Answered LinkFault
write_answered es = do
  new_serial ← needed NEW_SERIAL_NUMBER (pair_in NEW_SERIAL_NUMBER es)
  Ok (orders.Write new_serial (pair_in OLD_SERIAL_NUMBER es))

unfoldable pub kill_answered : List Element → Result Answered LinkFault
kill_answered es = do
  old_serial ← needed OLD_SERIAL_NUMBER (pair_in OLD_SERIAL_NUMBER es)
  Ok (orders.Kill old_serial)

-- a write: by its channel indicator one for the cell broadcast channel, else an emergency message
unfoldable pub broadcast : ℕ → ℕ → ℕ → List Element → Result LinkMessage LinkFault
broadcast channel id new_serial es = do
  cells ← needed_cells es
  period ← needed_period es
  broadcasts ← needed BROADCASTS_REQUESTED (pair_in BROADCASTS_REQUESTED es)
  dcs ← needed DATA_CODING (octet_in DATA_CODING es)
  contents ← needed_pages es
  Ok (messages.Write id new_serial (pair_in OLD_SERIAL_NUMBER es) cells channel (octet_in CATEGORY es) period
      broadcasts (record { 0 = dcs }) contents)

unfoldable pub emergency : ℕ → ℕ → List Element → Result LinkMessage LinkFault
emergency id new_serial es = do
  cells ← needed_cells es
  Ok (messages.Emergency id new_serial (pair_in OLD_SERIAL_NUMBER es) cells)

abbrev pub write_by : Option ℕ → ℕ → ℕ → List Element → Result LinkMessage LinkFault
write_by None id new_serial es = emergency id new_serial es
write_by (Some channel) id new_serial es = broadcast channel id new_serial es

unfoldable pub write : List Element → Result LinkMessage LinkFault
write es = do
  id ← needed MESSAGE_IDENTIFIER (pair_in MESSAGE_IDENTIFIER es)
  new_serial ← needed NEW_SERIAL_NUMBER (pair_in NEW_SERIAL_NUMBER es)
  write_by (octet_in CHANNEL_INDICATOR es) id new_serial es

unfoldable pub kill : List Element → Result LinkMessage LinkFault
kill es = do
  id ← needed MESSAGE_IDENTIFIER (pair_in MESSAGE_IDENTIFIER es)
  old_serial ← needed OLD_SERIAL_NUMBER (pair_in OLD_SERIAL_NUMBER es)
  cells ← needed_cells es
  Ok (messages.Kill id old_serial cells (octet_in CHANNEL_INDICATOR es))

-- replies
unfoldable pub done : Answered → List Element → Result LinkMessage LinkFault
done order es = do
  id ← needed MESSAGE_IDENTIFIER (pair_in MESSAGE_IDENTIFIER es)
  completed ← counts_in es
  cells ← cells_in es
  Ok (messages.Done id order completed cells (octet_in CHANNEL_INDICATOR es))

unfoldable pub failed : Answered → List Element → Result LinkMessage LinkFault
failed order es = do
  id ← needed MESSAGE_IDENTIFIER (pair_in MESSAGE_IDENTIFIER es)
  failures ← needed_failures es
  completed ← counts_in es
  cells ← cells_in es
  Ok (messages.Failed id order failures completed cells (octet_in CHANNEL_INDICATOR es))

-- what takes messages away
unfoldable pub reset_failed : List Element → Result LinkMessage LinkFault
reset_failed es = do
  failures ← needed_failures es
  cells ← cells_in es
  Ok (messages.ResetFailed failures cells)

unfoldable pub restart : List Element → Result LinkMessage LinkFault
restart es = do
  cells ← needed_cells es
  broadcast_type ← needed BROADCAST_MESSAGE_TYPE (octet_in BROADCAST_MESSAGE_TYPE es)
  recovery ← needed RECOVERY_INDICATION (octet_in RECOVERY_INDICATION es)
  Ok (messages.Restart cells broadcast_type recovery)

unfoldable pub failure : List Element → Result LinkMessage LinkFault
failure es = do
  failures ← needed_failures es
  broadcast_type ← needed BROADCAST_MESSAGE_TYPE (octet_in BROADCAST_MESSAGE_TYPE es)
  Ok (messages.Failure failures broadcast_type)

-- the message of a kind that elements say (8.1.3)
unfoldable pub message_of : Kind → List Element → Result LinkMessage LinkFault
message_of kinds.Write es = write es
message_of kinds.WriteDone es = write_answered es >>= λ order. done order es
message_of kinds.WriteFailed es = write_answered es >>= λ order. failed order es
message_of kinds.Kill es = kill es
message_of kinds.KillDone es = kill_answered es >>= λ order. done order es
message_of kinds.KillFailed es = kill_answered es >>= λ order. failed order es
message_of kinds.Reset es = needed_cells es >>= λ cells. Ok (messages.Reset cells)
message_of kinds.ResetDone es = needed_cells es >>= λ cells. Ok (messages.ResetDone cells)
message_of kinds.ResetFailed es = reset_failed es
message_of kinds.Restart es = restart es
message_of kinds.Failure es = failure es

-- a message of another type isn't looked into; of one that is, all elements are looked for first
abbrev pub message_by : ℕ → Option Kind → List ℕ → Result LinkMessage LinkFault
message_by message_type None body = Ok (messages.Other message_type)
message_by message_type (Some kind) body = faultless (elements_in body) (fault_in body) >>= message_of kind

-- a whole message, whose elements are whole: for no other octets is memory asked
abbrev pub IsWholeFront : Result Front LinkFault → Type 0
IsWholeFront (Ok front) = fault_in front.body ≡ None
IsWholeFront (Err f) = ⊥

unfoldable pub link_message : List ℕ → Result (LinkMessage × List ℕ) LinkFault
link_message octets = do
  front ← front_of octets
  message ← message_by front.message_type (kind_of front.message_type) front.body
  Ok (message, front.rest)
