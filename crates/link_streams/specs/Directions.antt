-- How a direction of a connection begins, and how it takes a segment.
use Rattle.std.specs.Prelude.{ℕ, zero, suc, ◌&&◌, ◌||◌, nat_le, nat_lt, Bool, true, List, [], ◌∷◌, drop, length}
use Rattle.std.specs.Prelude.{if◌then◌else◌}
use Rattle.link_streams.specs.Segment.{Segment}
use Rattle.link_streams.specs.Stream.{Carried, message_length, sequence_after, with_data}
use Rattle.link_streams.specs.declared.direction.Direction.{Direction}
use Rattle.link_streams.specs.declared.message.LinkPacket.{LinkPacket}
use Rattle.link_streams.specs.declared.messages.Heading.{Heading}
use Rattle.link_streams.specs.declared.waiting.Waiting.{Waiting}

-- the place of a segment's data: SYN takes a sequence number of its own, before them (RFC 9293, 3.4)
abbrev pub syn_length : Bool → ℕ
syn_length syn = if syn then 1 else 0

abbrev pub first_place : Segment → ℕ
first_place segment = sequence_after segment.sequence (syn_length segment.syn)

abbrev pub data_of : Segment → Waiting
data_of segment = record { first = first_place segment; octets = segment.octets }

-- a direction begins with a segment: the stream's next octet is the first of its data
abbrev pub begun_by : Segment → Direction
begun_by segment = record { way = segment.way; next = first_place segment; waiting = []; begun = [] }

-- SYN begins it anew
abbrev pub direction_for : Segment → Direction → Direction
direction_for segment direction = if segment.syn then begun_by segment else direction

-- the types that there are (3GPP TS 48.049, 8.2.2)
abbrev pub is_type : ℕ → Bool
is_type number = nat_le 0x01 number && nat_le number 0x17

-- octets may be messages from the first one on: each has a type that there is, and its length leads to the next one,
-- but that the last one needn't be whole. There are at most as many messages as octets
unfoldable pub may_be_messages : (most : ℕ) → List ℕ → Bool
may_be_messages most [] = true
may_be_messages zero (number ∷ rest) = true
may_be_messages (suc most) (number ∷ rest) =
    is_type number && may_be_messages most (drop (message_length (number ∷ rest)) (number ∷ rest))

abbrev pub begins_messages : List ℕ → Bool
begins_messages octets = nat_lt 0 (length octets) && may_be_messages (length octets) octets

-- a direction of which no SYN was captured begins with the first segment whose data may be messages
abbrev pub begins_direction : Segment → Bool
begins_direction segment = segment.syn || begins_messages segment.octets

-- a segment is taken to a direction
abbrev pub with_segment : Heading → Segment → Direction → List LinkPacket → Carried
with_segment heading segment direction messages =
    with_data heading (direction_for segment direction) messages (data_of segment)
