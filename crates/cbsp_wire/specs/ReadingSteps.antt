-- The header of a message: contracts of private functions alone speak of it. Own.
use Rattle.std.specs.Prelude.{◌≡◌, ℕ, List, ◌∷◌, Some}
use Rattle.cbsp_wire.specs.declared.message.message_type.MessageType.{MessageType}
use Rattle.cbsp_wire.specs.Table.{type_from_octet}

-- the type of octets that begin a message, and the octets of its elements
abbrev pub HasHeader : List ℕ → MessageType → List ℕ → Type 0
HasHeader (octet ∷ a ∷ b ∷ c ∷ rest) message_type elements = (type_from_octet octet ≡ Some message_type)
    × (elements ≡ rest)
HasHeader octets message_type elements = ⊥
