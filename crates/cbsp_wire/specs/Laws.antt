-- What follows from the definitions alone: octets mean one message at most, and what is written is read back. Own.
use Rattle.std.specs.Prelude.{◌≡◌, ◌↔◌, ℕ, List, true, None}
use Rattle.cbsp_wire.specs.declared.message.Message.{Message}
use Rattle.cbsp_wire.specs.declared.message.message_type.MessageType.{MessageType}
use Rattle.cbsp_wire.specs.Element.{Element}
use Rattle.cbsp_wire.specs.Meaning.{IsMessage}
use Rattle.cbsp_wire.specs.Range.{has_mandatory, elements_are_valid, is_writable}
use Rattle.cbsp_wire.specs.Refusals.{first_fault}
use Rattle.cbsp_wire.specs.Valid.{HasMandatory, AreValidElements}
use Rattle.cbsp_wire.specs.Written.{octets_of_message}

-- octets mean one message at most
abbrev pub OneMeaning : Type 0
OneMeaning = (octets : List ℕ) (m n : Message) → IsMessage octets m → IsMessage octets n → m ≡ n

-- octets that mean a message have no fault
abbrev pub MeantIsFaultless : Type 0
MeantIsFaultless = (octets : List ℕ) (m : Message) → IsMessage octets m → first_fault octets ≡ None

-- octets without a fault mean a message
abbrev pub FaultlessIsMeant : Type 0
FaultlessIsMeant = (octets : List ℕ) → first_fault octets ≡ None → (m : Message) × IsMessage octets m

-- the octets written of a message that some octets mean, mean it
abbrev pub WrittenIsMeant : Type 0
WrittenIsMeant = (octets : List ℕ) (m : Message) → IsMessage octets m → IsMessage (octets_of_message m) m

-- and they mean no other
abbrev pub WrittenIsReadBack : Type 0
WrittenIsReadBack = (octets : List ℕ) (m n : Message)
    → IsMessage octets m
    → IsMessage (octets_of_message m) n
    → n ≡ m

-- a message is writable exactly if some octets mean it
abbrev pub WritableExactlyIfMeant : Type 0
WritableExactlyIfMeant = (m : Message) → (is_writable m ≡ true) ↔ ((octets : List ℕ) × IsMessage octets m)

-- the test for cause 05 is exact: it passes if each mandatory element is there, and only then
abbrev pub MandatoryTestIsExact : Type 0
MandatoryTestIsExact = (message_type : MessageType) (es : List Element)
    → (has_mandatory message_type es ≡ true) ↔ HasMandatory message_type es

-- the test for cause 01 is exact: it passes if the elements are valid, and only then
abbrev pub ValidityTestIsExact : Type 0
ValidityTestIsExact = (es : List Element) → (elements_are_valid es ≡ true) ↔ AreValidElements es
