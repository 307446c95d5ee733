-- What follows the header of a message, with the message's type: contracts of private functions alone speak of it. Own.
use Rattle.std.specs.Prelude.{ℕ, List}
use Rattle.cbsp_wire.specs.declared.message.message_type.MessageType.{MessageType}
use Rattle.cbsp_wire.specs.Element.{Element}
use Rattle.cbsp_wire.specs.Walk.{walk_of}

pub record Body : Type 0 where
  pub message_type : MessageType
  pub octets : List ℕ

-- the elements that are taken of it
abbrev pub elements_in : Body → List Element
elements_in body = (walk_of body.message_type body.octets).elements
