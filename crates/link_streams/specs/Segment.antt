-- A TCP segment (RFC 9293).
use Rattle.std.specs.Prelude.{ℕ, Bool, List}
use Rattle.link_streams.specs.declared.message.Way.{Way}
use Rattle.link_streams.specs.declared.segment.SegmentFound.{SegmentFound}

-- a segment: from where to where it goes, its sequence number, whether it has the flag SYN, and its data
pub record Segment : Type 0 where
  pub way : Way
  pub sequence : ℕ
  pub syn : Bool
  pub octets : List ℕ

-- a segment that was found
abbrev pub segment_found : SegmentFound → Segment
segment_found it = record { way = it.way; sequence = it.sequence; syn = it.syn; octets = it.octets.now }
