-- The messages of the link in a capture file: of each direction of each connection, in the order in which they came.
use Rattle.std.specs.Prelude.{◌≡◌, ℕ, ◌+◌, ◌==◌, ◌&&◌, Bool, List, [], ◌∷◌, ◌++◌, position, slice_index_or, slice_set}
use Rattle.std.specs.Prelude.{Option, Some, None, Result, Ok, Err, if◌then◌else◌}
use Rattle.gsmtap.specs.File.{Packet, link_numbered}
use Rattle.gsmtap.specs.Taken.{ComesTo, IsFileFault, Taking}
use Rattle.gsmtap.specs.declared.fault.AirFault.{AirFault}
use Rattle.gsmtap.specs.declared.fault.AirFaultKind.{AirFaultKind}
use Rattle.gsmtap.specs.declared.fault.AirFaultKind.TheVariants as kind
use Rattle.gsmtap.specs.declared.file.Link.{Link}
use Rattle.link_streams.specs.Carrying.{segment_in}
use Rattle.link_streams.specs.Directions.{begins_direction, begun_by, with_segment}
use Rattle.link_streams.specs.Segment.{Segment}
use Rattle.link_streams.specs.Stream.{Carried}
use Rattle.link_streams.specs.declared.direction.Direction.{Direction}
use Rattle.link_streams.specs.declared.message.LinkPacket.{LinkPacket}
use Rattle.link_streams.specs.declared.message.Way.{Way}
use Rattle.link_streams.specs.declared.messages.Heading.{Heading}

-- what is known after packets: how many they were, all directions in the order of their first segments, and all
-- messages
pub record Followed : Type 0 where
  pub packets : ℕ
  pub directions : List Direction
  pub messages : List LinkPacket

abbrev pub is_way : Way → Way → Bool
is_way a b =
    a.source == b.source && a.source_port == b.source_port && a.destination == b.destination
    && a.destination_port == b.destination_port

-- the directions and messages after a segment, whose direction is at this place, or new
abbrev pub after_new : (known : Followed) → Carried → Followed
after_new known after = record known {
  directions = known.directions ++ after.direction ∷ [];
  messages = after.messages;
}

abbrev pub after_old : (known : Followed) → (place : ℕ) → Carried → Followed
after_old known place after = record known {
  directions = slice_set known.directions place after.direction;
  messages = after.messages;
}

abbrev pub after_segment_at : Heading → Followed → Segment → (place : Option ℕ) → Followed
after_segment_at heading known segment None =
    if begins_direction segment
    then after_new known (with_segment heading segment (begun_by segment) known.messages) else known
after_segment_at heading known segment (Some place) =
    after_old known place
    (with_segment heading segment (slice_index_or known.directions place (begun_by segment)) known.messages)

abbrev pub direction_place : Way → List Direction → Option ℕ
direction_place way directions = position (λ (one : Direction). is_way way one.way) directions

unfoldable pub after_segment : (number : ℕ) → (time : Option ℕ) → Followed → Segment → Followed
after_segment number time known segment =
    after_segment_at (record { number = number; time = time; way = segment.way }) known segment
    (direction_place segment.way known.directions)

abbrev pub counted : (packets : ℕ) → Followed → Followed
counted packets known = record known { packets = packets }

-- after a packet, which may carry no segment of the link. A packet of a link type that isn't known is at fault
abbrev pub after_carrying : (time : Option ℕ) → Followed → Option Segment → Followed
after_carrying time known None = counted (known.packets + 1) known
after_carrying time known (Some segment) =
    counted (known.packets + 1) (after_segment (known.packets + 1) time known segment)

abbrev pub after_link : Followed → Packet → Option Link → Result Followed AirFaultKind
after_link known packet None = Err (kind.OtherLink packet.link)
after_link known packet (Some link) = Ok (after_carrying packet.time known (segment_in link packet.octets))

unfoldable pub follow : Followed → Packet → Result Followed AirFaultKind
follow known packet = after_link known packet (link_numbered packet.link)

-- how packets are taken for the messages of the link
abbrev pub for_messages : Taking Followed
for_messages = record { start = record { packets = 0; directions = []; messages = [] }; step = follow }

-- the input is a capture file of whole pieces, and these are the messages of the link in its packets
pub record AreMessagesIn (input : List ℕ) (messages : List LinkPacket) : Type 0 where
  pub known : Followed
  pub file : ComesTo for_messages input known
  pub all : messages ≡ known.messages

-- why an input has no messages, but for out of memory: the file is at fault
abbrev pub IsLinkFault : List ℕ → AirFault → Type 0
IsLinkFault input fault = IsFileFault for_messages input fault.packet fault.kind
