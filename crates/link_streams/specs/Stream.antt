-- One direction of a connection: which octets its segments bring, and which messages these are.
use Rattle.std.specs.Prelude.{ℕ, zero, suc, ◌+◌, ◌-◌, ◌%◌, ◌==◌, ◌&&◌, ◌||◌, nat_le, nat_lt, Bool, List, [], ◌∷◌}
use Rattle.std.specs.Prelude.{◌++◌, length, drop, slice_index, Option, Some, None, if◌then◌else◌}
use Rattle.std.specs.List.{filter}
use Rattle.std.specs.Option.{option_or}
use Rattle.byteorder.specs.Endian.{big_number}
use Rattle.link_streams.specs.declared.direction.Direction.{Direction}
use Rattle.link_streams.specs.declared.message.LinkPacket.{LinkPacket}
use Rattle.link_streams.specs.declared.messages.Heading.{Heading}
use Rattle.link_streams.specs.declared.waiting.Waiting.{Waiting}

-- Places. The place of an octet is its sequence number, and after 2^32 of them they go round (RFC 9293, 3.4)

-- so many places after one
abbrev pub sequence_after : (place count : ℕ) → ℕ
sequence_after place count = (place + count) % 4294967296

-- how far a place is ahead of another
abbrev pub distance : (from place : ℕ) → ℕ
distance from place = (place + (4294967296 - from)) % 4294967296

-- of two places the one is later that is ahead of the other by less than half of all
abbrev pub is_later : (from place : ℕ) → Bool
is_later from place = nat_lt 0 (distance from place) && nat_lt (distance from place) 2147483648

-- Octets. A segment's data are octets from one place on, and of all octets with one place the first that came counts

-- the octet that a part has at a place
abbrev pub octet_from : Waiting → (place : ℕ) → Option ℕ
octet_from part place =
    if nat_lt (distance part.first place) (length part.octets)
    then Some (slice_index part.octets (distance part.first place)) else None

-- the octet at a place, of parts in the order in which they came
abbrev pub first_octet_at : List Waiting → (place : ℕ) → Option ℕ
first_octet_at [] place = None
first_octet_at (part ∷ rest) place = option_or (octet_from part place) (first_octet_at rest place)

abbrev pub before_gap : Option ℕ → List ℕ → List ℕ
before_gap None rest = []
before_gap (Some octet) rest = octet ∷ rest

-- the octets from a place on, up to the first that isn't there, or as many as are asked for
unfoldable pub octets_from : (most : ℕ) → List Waiting → (place : ℕ) → List ℕ
octets_from zero parts place = []
octets_from (suc most) parts place =
    before_gap (first_octet_at parts place) (octets_from most parts (sequence_after place 1))

-- more than can be there: as many segments as may wait, and one more, have fewer octets, as none has 2^16
abbrev pub most_octets : ℕ
most_octets = 33554432

-- Messages follow each other: a type, a length in three octets, and as many octets (3GPP TS 48.049, 5.2)

-- how many octets a message has, by its first four
abbrev pub message_length : List ℕ → ℕ
message_length octets = 4 + big_number 3 (drop 1 octets)

-- octets are a whole message
abbrev pub is_message : List ℕ → Bool
is_message octets = nat_le 4 (length octets) && length octets == message_length octets

-- the octets of a message that isn't whole yet, and all messages that are
pub record Cut : Type 0 where
  pub begun : List ℕ
  pub messages : List LinkPacket

-- a message that became whole in the packet of this heading
abbrev pub message_in : Heading → List ℕ → LinkPacket
message_in heading octets =
    record { number = heading.number; time = heading.time; way = heading.way; octets = octets }

abbrev pub ended : Heading → List LinkPacket → List ℕ → Cut
ended heading messages octets =
    if is_message octets then record { begun = []; messages = messages ++ message_in heading octets ∷ [] }
    else record { begun = octets; messages = messages }

-- after one octet more, and after many
abbrev pub with_octet : Heading → Cut → (octet : ℕ) → Cut
with_octet heading cut octet = ended heading cut.messages (cut.begun ++ octet ∷ [])

abbrev pub with_octets : Heading → Cut → List ℕ → Cut
with_octets heading cut [] = cut
with_octets heading cut (octet ∷ rest) = with_octets heading (with_octet heading cut octet) rest

abbrev pub cut_of : (begun : List ℕ) → List LinkPacket → Cut
cut_of begun messages = record { begun = begun; messages = messages }

-- A direction. What is known of one: the place of the next octet of its stream, the data that wait past a gap, and the
-- octets of the message that isn't whole yet

-- a direction, and all messages
pub record Carried : Type 0 where
  pub direction : Direction
  pub messages : List LinkPacket

abbrev pub carried_of : Direction → List LinkPacket → Carried
carried_of direction messages = record { direction = direction; messages = messages }

-- the stream goes on with these octets. Data wait on that have an octet after them
abbrev pub is_past : (next : ℕ) → Waiting → Bool
is_past next part = is_later next (sequence_after part.first (length part.octets))

abbrev pub go_on : Heading → Direction → List LinkPacket → (octets : List ℕ) → Carried
go_on heading direction messages octets = record {
  direction = record {
    way = direction.way;
    next = sequence_after direction.next (length octets);
    waiting = filter (is_past (sequence_after direction.next (length octets))) direction.waiting;
    begun = (with_octets heading (cut_of direction.begun messages) octets).begun;
  };
  messages = (with_octets heading (cut_of direction.begun messages) octets).messages;
}

-- it goes on with all octets that are there, up to the first gap
unfoldable pub joined : Heading → Direction → List LinkPacket → Carried
joined heading direction messages =
    go_on heading direction messages (octets_from most_octets direction.waiting direction.next)

-- how many segments may wait past a gap of a direction
abbrev pub most_waiting : ℕ
most_waiting = 256

-- data are kept if they have an octet that isn't in the stream yet, and have the stream's next octet, or room to wait
abbrev pub is_new_part : Direction → Waiting → Bool
is_new_part direction part =
    nat_lt 0 (length part.octets) && is_past direction.next part
    && (nat_lt (distance part.first direction.next) (length part.octets)
    || nat_lt (length direction.waiting) most_waiting)

-- a direction after data more
unfoldable pub with_data : Heading → Direction → List LinkPacket → Waiting → Carried
with_data heading direction messages part =
    if is_new_part direction part
    then joined heading (record direction { waiting = direction.waiting ++ part ∷ [] }) messages
    else carried_of direction messages
