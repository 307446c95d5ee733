-- A segment of TCP (RFC 9293) in IPv4 (RFC 791) as a packet of the classic capture format. What is sent, by whom, and
-- from which addresses and ports is own; port 48049 is that of 3GPP TS 48.049.
use Rattle.std.specs.Prelude.{ℕ, ◌+◌, ◌-◌, ◌*◌, ◌/◌, ◌%◌, ◌==◌, if◌then◌else◌, List, [], ◌∷◌, ◌++◌, length, sum}
use Rattle.gsmtap.specs.Packet.{low_first_words, network_words}
use Rattle.gsmtap.specs.declared.packet.Start.{Start}
use Rattle.link_capture.specs.declared.segment.Segment.{Segment}
use Rattle.link_capture.specs.declared.segment.LinkSide.{LinkSide}
use Rattle.link_capture.specs.declared.segment.LinkSide.TheVariants.{Centre, Controller}

abbrev pub other_side : LinkSide → LinkSide
other_side Centre = Controller
other_side Controller = Centre

-- addresses are 10.0.0.1 and 10.0.0.2: their low words, beside the high word 0A00
abbrev pub address_low : LinkSide → ℕ
address_low Centre = 1
address_low Controller = 2

-- the controller has the port of the protocol, and the centre one of its own for each connection
abbrev pub port_of : LinkSide → (connection : ℕ) → ℕ
port_of Centre connection = 40000 + connection
port_of Controller connection = 48049

-- a checksum, where the words have this sum: with it their one's complement sum is FFFF (RFC 1071)
abbrev pub complement : ℕ → ℕ
complement n = (65535 - n % 65535) % 65535

-- the sum of the words of octets from a place on: those at even places are the high ones of their words, and a last
-- word of one octet has 0 after it (RFC 1071)
abbrev pub weight : (place : ℕ) → ℕ
weight place = if place % 2 == 0 then 256 else 1

abbrev pub octet_sum : (place : ℕ) → List ℕ → ℕ
octet_sum place [] = 0
octet_sum place (octet ∷ octets) = weight place * octet + octet_sum (place + 1) octets

-- how many octets a packet has from its IPv4 header on, and a segment from its header on
abbrev pub whole_length : List ℕ → ℕ
whole_length octets = (40 + length octets) % 65536

abbrev pub segment_length : List ℕ → ℕ
segment_length octets = (20 + length octets) % 65536

-- the words of the IPv4 header: version 4, five words, service 0; the length; no identification, flags or offset; 64
-- hops, TCP; the checksum; the addresses of who sends and of the other
unfoldable pub internet_words : LinkSide → (size checksum : ℕ) → List ℕ
internet_words sender size checksum =
    0x4500 ∷ size ∷ 0 ∷ 0 ∷ 0x4006 ∷ checksum ∷ 0x0A00 ∷ address_low sender ∷ 0x0A00
    ∷ address_low (other_side sender) ∷ []

unfoldable pub internet_header_of : LinkSide → (size : ℕ) → List ℕ
internet_header_of sender size =
    network_words (internet_words sender size (complement (sum (internet_words sender size 0))))

-- the words of the TCP header: ports; the place of the first octet and of the one that is awaited, high words first;
-- five words of header and the flags; the window; the checksum, and no urgent octets
unfoldable pub transport_words : Segment → (checksum : ℕ) → List ℕ
transport_words s checksum =
    port_of s.sender s.connection ∷ port_of (other_side s.sender) s.connection ∷ (s.sequence / 65536)
    ∷ (s.sequence % 65536) ∷ (s.awaited / 65536) ∷ (s.awaited % 65536) ∷ (0x5000 + s.flags) ∷ 65535 ∷ checksum ∷ 0 ∷ []

-- the sum of the words of the pseudo header (RFC 9293, 3.1): addresses, protocol and length
abbrev pub pseudo_sum : LinkSide → (size : ℕ) → ℕ
pseudo_sum sender size = 0x0A00 + address_low sender + 0x0A00 + address_low (other_side sender) + 6 + size

abbrev pub transport_checksum : Segment → List ℕ → ℕ
transport_checksum s octets =
    complement (pseudo_sum s.sender (segment_length octets) + sum (transport_words s 0) + octet_sum 0 octets)

unfoldable pub transport_header : Segment → List ℕ → List ℕ
transport_header s octets = network_words (transport_words s (transport_checksum s octets))

-- when a slot begins, in microseconds of the clock, where slot 0 begins at this time: a slot has 408 frames of 120/26
-- milliseconds, and what begins within a microsecond is sent after it
abbrev pub link_time : Start → (slot : ℕ) → ℕ
link_time start slot = 1000000 * start.second + start.microsecond + (slot * 24480000 + 12) / 13

-- the header that the file puts before each packet: seconds, which go round after 32 bits, microseconds, how many
-- octets are in the file, and how many there were
unfoldable pub packet_header : Start → (slot size : ℕ) → List ℕ
packet_header start slot size =
    low_first_words ((link_time start slot / 1000000 % 4294967296) ∷ (link_time start slot % 1000000) ∷ size ∷ size
    ∷ [])

-- a segment with its octets as a packet of the file
unfoldable pub segment_packet : Start → (slot : ℕ) → Segment → List ℕ → List ℕ
segment_packet start slot s octets =
    packet_header start slot (whole_length octets) ++ internet_header_of s.sender (whole_length octets)
    ++ transport_header s octets ++ octets
