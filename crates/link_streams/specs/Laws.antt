-- A law of streams (own), over their definitions alone: in whatever order and however cut the data of a direction came,
-- its messages are of the octets that came first, up to the first gap.
use Rattle.std.specs.Prelude.{◌≡◌, ℕ, ◌+◌, ◌<◌, ◌≤◌, List, [], ◌∷◌, ◌++◌, length, map}
use Rattle.std.specs.List.{AllByRecursion, flat_map}
use Rattle.link_streams.specs.Directions.{begun_by, first_place}
use Rattle.link_streams.specs.Segment.{Segment}
use Rattle.link_streams.specs.Stream.{Carried, carried_of, distance, most_octets, most_waiting, octets_from, with_data}
use Rattle.link_streams.specs.declared.message.LinkPacket.{LinkPacket}
use Rattle.link_streams.specs.declared.messages.Heading.{Heading}
use Rattle.link_streams.specs.declared.waiting.Waiting.{Waiting}

-- data that came, each in a packet with this heading
pub record Came : Type 0 where
  pub heading : Heading
  pub part : Waiting

-- a direction after all of them
abbrev pub after_all : Carried → List Came → Carried
after_all known [] = known
after_all known (one ∷ rest) = after_all (with_data one.heading known.direction known.messages one.part) rest

-- the octets of its messages, and of the one that isn't whole yet
abbrev pub stream_of : Carried → List ℕ
stream_of known = flat_map (λ (message : LinkPacket). message.octets) known.messages ++ known.direction.begun

-- data, one octet at least, that lie within so many octets from a place on that they don't go round
pub record IsNear (first : ℕ) (part : Waiting) : Type 0 where
  pub some : 0 < length part.octets
  pub place : part.first < 4294967296
  pub near : distance first part.first + length part.octets < most_octets

abbrev pub parts_of : List Came → List Waiting
parts_of came = map (λ (one : Came). one.part) came

-- of a direction that a segment begins, and no more data than may wait
abbrev pub StreamIsWhatCameFirst : Type 0
StreamIsWhatCameFirst =
    (segment : Segment) (came : List Came) → length came ≤ most_waiting →
    AllByRecursion (IsNear (first_place segment)) (parts_of came) →
    stream_of (after_all (carried_of (begun_by segment) []) came)
    ≡ octets_from most_octets (parts_of came) (first_place segment)
