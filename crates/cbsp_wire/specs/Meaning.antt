-- What octets mean: a CBSP message as a list of elements, in any order. 3GPP TS 48.049, clauses 8.1 and 8.2, in this
-- project's own layouts.
use Rattle.std.specs.Prelude.{◌≡◌, ℕ, List, ◌∷◌, length}
use Rattle.std.specs.List.{AllByRecursion}
use Rattle.cbsp_wire.specs.declared.message.message_type.MessageType.{MessageType}
use Rattle.cbsp_wire.specs.declared.message.message_type.Presence.TheVariants as presences
use Rattle.cbsp_wire.specs.declared.fault.WireFault.{WireFault}
use Rattle.cbsp_wire.specs.declared.fault.WireFault.TheVariants.{Truncated, TrailingBytes, Cause, Refused}
use Rattle.cbsp_wire.specs.declared.message.Message.{Message}
use Rattle.cbsp_wire.specs.Element.{Element, octets_of_elements}
use Rattle.cbsp_wire.specs.Table.{octet_of_type, presence_of, size_of}
use Rattle.cbsp_wire.specs.Value.{message_of, type_of}
use Rattle.cbsp_wire.specs.Valid.{HasMandatory, AreValidElements}
use Rattle.cbsp_wire.specs.Refusals.{length_field}
use Rattle.cbsp_wire.specs.declared.cause.TheConstants.{PARAMETER_VALUE_INVALID}

-- an element of this type of message, whose body has its size
pub record IsOf (message_type : MessageType) (e : Element) : Type 0 where
  pub known : presence_of message_type e.number ≡ presences.Absent → ⊥
  pub sized : length e.body ≡ size_of e.number e.body

-- the elements of a message m: in any order, each mandatory one, none twice but contents, whole lists, values in their
-- ranges, and the fields found by look-up
pub record AreElementsOf (m : Message) (es : List Element) : Type 0 where
  pub of_type : AllByRecursion (IsOf (type_of m)) es
  pub mandatory : HasMandatory (type_of m) es
  pub valid : AreValidElements es
  pub value : m ≡ message_of (type_of m) es

-- octets that mean m: its type, the length of the rest, and some elements one after the other
unfoldable pub IsMessage : List ℕ → Message → Type 0
IsMessage (octet ∷ a ∷ b ∷ c ∷ rest) m =
    (octet ≡ octet_of_type (type_of m)) × (length_field a b c ≡ length rest) ×
    ((es : List Element) × (rest ≡ octets_of_elements es) × AreElementsOf m es)
IsMessage octets m = ⊥

-- why a message isn't written: no octets mean it, or memory ran out and some octets mean it
abbrev pub IsUnwritten : Message → WireFault → Type 0
IsUnwritten m (Cause cause) = (cause ≡ PARAMETER_VALUE_INVALID) × ((octets : List ℕ) → IsMessage octets m → ⊥)
IsUnwritten m Refused = (octets : List ℕ) × IsMessage octets m
IsUnwritten m Truncated = ⊥
IsUnwritten m TrailingBytes = ⊥
