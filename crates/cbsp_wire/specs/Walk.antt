-- The elements that octets begin with, and why no more of them are taken. Own.
use Rattle.std.specs.Prelude.{ℕ, zero, suc, List, [], ◌∷◌, length, take, drop, nat_lt, if◌then◌else◌, Result, Ok, Err}
use Rattle.cbsp_wire.specs.declared.message.message_type.MessageType.{MessageType}
use Rattle.cbsp_wire.specs.declared.message.message_type.Presence.{Presence}
use Rattle.cbsp_wire.specs.declared.message.message_type.Presence.TheVariants as presences
use Rattle.cbsp_wire.specs.declared.reading.elements.WalkEnd.{WalkEnd}
use Rattle.cbsp_wire.specs.declared.reading.elements.WalkEnd.TheVariants.{Complete, UnexpectedElement, CutOff}
use Rattle.cbsp_wire.specs.Element.{Element}
use Rattle.cbsp_wire.specs.Table.{presence_of, size_of}

-- an element of this message: its body, and the octets after it; CutOff where the octets end before the body
abbrev pub body_at : ℕ → List ℕ → Result (Element × List ℕ) WalkEnd
body_at n octets =
    let size = size_of n octets in
    if nat_lt (length octets) size then Err CutOff else Ok
    (record { number = n; body = take size octets }, drop size octets)

abbrev pub element_at : Presence → ℕ → List ℕ → Result (Element × List ℕ) WalkEnd
element_at presences.Absent n octets = Err UnexpectedElement
element_at presences.Mandatory n octets = body_at n octets
element_at presences.Optional n octets = body_at n octets

-- the element at the front, and the octets after it
abbrev pub front_of : MessageType → List ℕ → Result (Element × List ℕ) WalkEnd
front_of message_type [] = Err Complete
front_of message_type (n ∷ octets) = element_at (presence_of message_type n) n octets

-- the elements taken, and why the next wasn't
pub record Walk : Type 0 where
  pub elements : List Element
  pub stop : WalkEnd

abbrev pub then_walk : Result (Element × List ℕ) WalkEnd → (List ℕ → Walk) → Walk
then_walk (Ok x) others = record { elements = x.0 ∷ (others x.1).elements; stop = (others x.1).stop }
then_walk (Err s) others = record { elements = []; stop = s }

-- there are at most as many elements as octets
unfoldable pub walk_within : ℕ → MessageType → List ℕ → Walk
walk_within zero message_type octets = record { elements = []; stop = Complete }
walk_within (suc k) message_type octets = then_walk (front_of message_type octets)
    (λ rest. walk_within k message_type rest)

unfoldable pub walk_of : MessageType → List ℕ → Walk
walk_of message_type octets = walk_within (length octets) message_type octets
