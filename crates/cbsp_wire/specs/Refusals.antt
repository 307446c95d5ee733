-- The order in which octets are refused: the first that applies. Own.
--
-- 1. Truncated: fewer than 4 octets, or fewer after them than the length field says.
-- 2. TrailingBytes: more than the length field says.
-- 3. Cause 04: the type isn't one of the six.
-- 4. Truncated: an element goes past the end; elements are taken up to the first that isn't of this message.
-- 5. Cause 05: a mandatory element isn't among those taken.
-- 6. Cause 00: an element isn't of this message.
-- 7. Cause 01: an element other than 01 comes twice, or a value is out of its range.
-- 8. Refused: memory ran out.
--
-- The definitions stand in the other direction, each below those that it asks next.
use Rattle.std.specs.Prelude.{ℕ, ◌+◌, ◌*◌, nat_lt, not, if◌then◌else◌, List, ◌∷◌, length, Option, Some, None}
use Rattle.cbsp_wire.specs.declared.message.message_type.MessageType.{MessageType}
use Rattle.cbsp_wire.specs.declared.reading.elements.WalkEnd.{WalkEnd}
use Rattle.cbsp_wire.specs.declared.reading.elements.WalkEnd.TheVariants.{Complete, UnexpectedElement, CutOff}
use Rattle.cbsp_wire.specs.declared.fault.WireFault.{WireFault}
use Rattle.cbsp_wire.specs.declared.fault.WireFault.TheVariants.{Truncated, TrailingBytes, Cause, Refused}
use Rattle.cbsp_wire.specs.Element.{Element}
use Rattle.cbsp_wire.specs.Table.{type_from_octet}
use Rattle.cbsp_wire.specs.Walk.{walk_of}
use Rattle.cbsp_wire.specs.Range.{has_mandatory, elements_are_valid}
use Rattle.cbsp_wire.specs.declared.cause.TheConstants.{PARAMETER_NOT_RECOGNISED, PARAMETER_VALUE_INVALID}
use Rattle.cbsp_wire.specs.declared.cause.TheConstants.{UNRECOGNISED_MESSAGE, MISSING_MANDATORY_ELEMENT}

-- 5 and 7, where the walk came to the end
abbrev pub fault_of_whole : MessageType → List Element → Option WireFault
fault_of_whole message_type es =
    if not (has_mandatory message_type es) then Some (Cause MISSING_MANDATORY_ELEMENT)
    else if not (elements_are_valid es) then Some (Cause PARAMETER_VALUE_INVALID)
    else None

-- 5 and 6, where the walk ended at an element that isn't of this message
abbrev pub fault_of_unexpected : MessageType → List Element → Option WireFault
fault_of_unexpected message_type es =
    if not (has_mandatory message_type es) then Some (Cause MISSING_MANDATORY_ELEMENT) else Some
    (Cause PARAMETER_NOT_RECOGNISED)

-- 4, and the others by where the walk ended
abbrev pub fault_of_walk : MessageType → List Element → WalkEnd → Option WireFault
fault_of_walk message_type es CutOff = Some Truncated
fault_of_walk message_type es UnexpectedElement = fault_of_unexpected message_type es
fault_of_walk message_type es Complete = fault_of_whole message_type es

-- 3
abbrev pub fault_of_type : Option MessageType → List ℕ → Option WireFault
fault_of_type None rest = Some (Cause UNRECOGNISED_MESSAGE)
fault_of_type (Some message_type) rest = fault_of_walk message_type (walk_of message_type rest).elements
    (walk_of message_type rest).stop

-- the length field of three octets
abbrev pub length_field : ℕ → ℕ → ℕ → ℕ
length_field a b c = a * 65536 + b * 256 + c

-- 1 and 2
unfoldable pub first_fault : List ℕ → Option WireFault
first_fault (octet ∷ a ∷ b ∷ c ∷ rest) =
    if nat_lt (length rest) (length_field a b c) then Some Truncated
    else if nat_lt (length_field a b c) (length rest) then Some TrailingBytes
    else fault_of_type (type_from_octet octet) rest
first_fault octets = Some Truncated

-- the fault of the octets that an error reports; Refused reports none, for it comes last
abbrev pub reported_fault : WireFault → Option WireFault
reported_fault Refused = None
reported_fault Truncated = Some Truncated
reported_fault TrailingBytes = Some TrailingBytes
reported_fault (Cause cause) = Some (Cause cause)
