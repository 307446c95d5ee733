-- A connection of TCP on which the two sides send messages, as packets of a capture file: three segments open it (RFC
-- 9293, 3.5), and each message has one. Own, but for what is named.
use Rattle.std.specs.Prelude.{ℕ, ◌+◌, ◌%◌, List, [], ◌∷◌, ◌++◌, length}
use Rattle.gsmtap.specs.declared.packet.Start.{Start}
use Rattle.link_capture.specs.declared.connection.Places.{Places}
use Rattle.link_capture.specs.declared.connection.LinkSent.{LinkSent}
use Rattle.link_capture.specs.declared.segment.Segment.{Segment}
use Rattle.link_capture.specs.declared.segment.LinkSide.{LinkSide}
use Rattle.link_capture.specs.declared.segment.LinkSide.TheVariants.{Centre, Controller}
use Rattle.link_capture.specs.Segment.{other_side, segment_packet}

-- the place of the next octet of a side
abbrev pub place_of : LinkSide → Places → ℕ
place_of Centre places = places.centre
place_of Controller places = places.controller

-- places go round after 2 ^ 32 (RFC 9293, 3.4)
abbrev pub past : (place : ℕ) → List ℕ → ℕ
past place octets = (place + length octets) % 4294967296

-- the places after a side sent octets
abbrev pub places_after : LinkSide → List ℕ → Places → Places
places_after Centre octets places =
    record { centre = past places.centre octets; controller = places.controller }
places_after Controller octets places =
    record { centre = places.centre; controller = past places.controller octets }

abbrev pub segment_with : (connection : ℕ) → LinkSide → (sequence awaited flags : ℕ) → Segment
segment_with connection sender sequence awaited flags =
    record { connection = connection; sender = sender; sequence = sequence; awaited = awaited; flags = flags }

-- the segments that open a connection: SYN of the centre, SYN and ACK of the controller, and ACK. Each side's first
-- octet then has place 1
unfoldable pub opening : Start → (slot connection : ℕ) → List ℕ
opening start slot connection =
    segment_packet start slot (segment_with connection Centre 0 0 0x02) []
    ++ segment_packet start slot (segment_with connection Controller 0 1 0x12) []
    ++ segment_packet start slot (segment_with connection Centre 1 1 0x10) []

-- the segment of a message has PSH and ACK, and all that the other side sent is known
abbrev pub message_segment : (connection : ℕ) → Places → LinkSide → Segment
message_segment connection places sender =
    segment_with connection sender (place_of sender places) (place_of (other_side sender) places) 0x18

abbrev pub packets_from : Start → (connection : ℕ) → Places → List LinkSent → List ℕ
packets_from start connection places [] = []
packets_from start connection places (sent ∷ later) =
    segment_packet start sent.slot (message_segment connection places sent.sender) sent.octets
    ++ packets_from start connection (places_after sent.sender sent.octets places) later

-- the packets of a connection on which these messages are sent, each at the begin of its slot. It is opened at that of
-- the first, and not at all if there is none
abbrev pub connection_packets : Start → (connection : ℕ) → List LinkSent → List ℕ
connection_packets start connection [] = []
connection_packets start connection (sent ∷ later) =
    opening start sent.slot connection
    ++ packets_from start connection (record { centre = 1; controller = 1 }) (sent ∷ later)
