-- The TCP segment that a packet carries, if it does: in IPv4 (RFC 791), TCP (RFC 9293). Each step is a function of the
-- octets. Checksums aren't looked at: a machine that has its network card compute them records wrong ones.
use Rattle.std.specs.Prelude.{ℕ, ◌-◌, ◌*◌, ◌/◌, ◌%◌, ◌==◌, ◌&&◌, ◌||◌, nat_le, Bool, List, length, take, drop}
use Rattle.std.specs.Prelude.{slice_index, Option, Some, None, option_and_then, if◌then◌else◌}
use Rattle.byteorder.specs.Endian.{big_number}
use Rattle.gsmtap.specs.Tap.{header_length, internet_of}
use Rattle.gsmtap.specs.declared.file.Link.{Link}
use Rattle.link_streams.specs.Segment.{Segment}
use Rattle.link_streams.specs.declared.message.Way.{Way}

-- the port of the link (3GPP TS 48.049 over TCP; IANA: 3gpp-cbsp)
abbrev pub link_port : ℕ
link_port = 48049

-- how many octets an IPv4 packet has: its frame may have more
abbrev pub total_length : List ℕ → ℕ
total_length octets = big_number 2 (drop 2 octets)

-- the TCP octets in an IPv4 packet: version 4, five words of header at least, recorded whole, no fragment, protocol 6
unfoldable pub transport_of : List ℕ → Option (List ℕ)
transport_of octets =
    if nat_le 20 (length octets) && slice_index octets 0 / 16 == 4 && nat_le 20 (header_length octets)
    && nat_le (header_length octets) (total_length octets) && nat_le (total_length octets) (length octets)
    && big_number 2 (drop 6 octets) % 0x4000 == 0 && slice_index octets 9 == 6
    then Some (take (total_length octets - header_length octets) (drop (header_length octets) octets)) else None

-- where data begins in TCP octets: the data offset counts words of four (RFC 9293, 3.1)
abbrev pub data_offset : List ℕ → ℕ
data_offset octets = 4 * (slice_index octets 12 / 16)

-- the flag SYN is the last but one of the eight (RFC 9293, 3.1)
abbrev pub has_syn : List ℕ → Bool
has_syn octets = slice_index octets 13 / 2 % 2 == 1

-- from where to where: addresses of IPv4, ports of TCP
abbrev pub way_of : (internet transport : List ℕ) → Way
way_of internet transport = record {
  source = big_number 4 (drop 12 internet);
  source_port = big_number 2 transport;
  destination = big_number 4 (drop 16 internet);
  destination_port = big_number 2 (drop 2 transport);
}

-- one of the two ends has the link's port
abbrev pub is_of_link : Way → Bool
is_of_link way = way.source_port == link_port || way.destination_port == link_port

-- the segment of the link that TCP octets are: five words of header at least, and no more than there are
unfoldable pub segment_of : (internet transport : List ℕ) → Option Segment
segment_of internet transport =
    if nat_le 20 (length transport) && nat_le 20 (data_offset transport)
    && nat_le (data_offset transport) (length transport) && is_of_link (way_of internet transport)
    then Some (record {
      way = way_of internet transport;
      sequence = big_number 4 (drop 4 transport);
      syn = has_syn transport;
      octets = drop (data_offset transport) transport;
    }) else None

-- the segment of the link that a packet carries
unfoldable pub segment_in : Link → List ℕ → Option Segment
segment_in link octets =
    option_and_then (λ internet. option_and_then (segment_of internet) (transport_of internet))
    (internet_of link octets)
