-- One block of a tape as a packet of a capture: a packet of the classic capture format, in it IPv4 (RFC 791), in it UDP
-- (RFC 768) and in it GSMTAP, version 2, and then the block.
use Rattle.std.specs.Prelude.{ℕ, ◌+◌, ◌-◌, ◌*◌, ◌/◌, ◌%◌, List, [], ◌∷◌, ◌++◌, sum}
use Rattle.std.specs.List.{flat_map}
use Rattle.byteorder.specs.Endian.{big_bytes, little_bytes}
use Rattle.gsmtap.specs.declared.packet.Channel.{Channel}
use Rattle.gsmtap.specs.declared.packet.Channel.TheVariants.{BesideSdcch4, BesideSdcch8}
use Rattle.gsmtap.specs.declared.packet.Place.{Place}
use Rattle.gsmtap.specs.declared.packet.Start.{Start}

-- the 51-multiframe in which a block is sent, counted from the tape's first: a slot has eight of them, and its blocks
-- go out in the first four (3GPP TS 45.002, clause 6.5.4)
abbrev pub multiframe : Place → ℕ
multiframe place = 8 * place.slot + place.block

-- the first of the four frames of a 51-multiframe in which a cell broadcast channel sends a block. The channel stands
-- in place of SDCCH/4 number 2, which has frames 32 to 35, or of SDCCH/8 number 2, which has 8 to 11 (3GPP TS 45.002,
-- clause 7)
abbrev pub first_frame : Channel → ℕ
first_frame BesideSdcch4 = 32
first_frame BesideSdcch8 = 8

-- the number of a block's first frame, within the hyperframe of 2,048 * 26 * 51 frames (3GPP TS 45.002, clause 4.3.3)
abbrev pub frame_number : Channel → Place → ℕ
frame_number channel place = (multiframe place * 51 + first_frame channel) % 2715648

-- when a block is sent, in whole microseconds from the tape's begin: a frame has 120 / 26 milliseconds
abbrev pub microseconds : Place → ℕ
microseconds place = multiframe place * 51 * 120000 / 26

-- and in microseconds of the clock, where the tape begins at this time
abbrev pub clock_time : Start → Place → ℕ
clock_time start place = 1000000 * start.second + start.microsecond + microseconds place

-- numbers of 16 bits in network order, and of 32 bits with the low octets first
abbrev pub network_words : List ℕ → List ℕ
network_words words = flat_map (big_bytes 2) words

abbrev pub low_first_words : List ℕ → List ℕ
low_first_words words = flat_map (little_bytes 4) words

-- how many octets a packet has from its IPv4 header on: 20, 8, 16 and the block's 23
abbrev pub packet_length : ℕ
packet_length = 67

-- the header that the file puts before each packet: seconds, which go round after 32 bits, microseconds, how many
-- octets are in the file, and how many there were
unfoldable pub record_header : Start → Place → List ℕ
record_header start place =
    low_first_words ((clock_time start place / 1000000 % 4294967296) ∷ (clock_time start place % 1000000)
    ∷ packet_length ∷ packet_length ∷ [])

-- the checksum of the ten words of an IPv4 header, among which its own counts as 0: with it, their sum is a multiple of
-- 65,535, that is, their one's complement sum is FFFF (RFC 1071)
unfoldable pub checksum : List ℕ → ℕ
checksum words = (655350 - sum words) % 65535

-- the words of the IPv4 header before its checksum: version 4, five words, service 0; the length; as identification the
-- slot; no flags and no offset; 64 hops, UDP. And those after it: the source address is the cell, the destination is 10
-- and the tape's number in three octets, of which the first is 0
abbrev pub words_before : Place → List ℕ
words_before place = 0x4500 ∷ packet_length ∷ place.slot ∷ 0 ∷ 0x4011 ∷ []

abbrev pub words_after : Place → List ℕ
words_after place = place.cell.lac ∷ place.cell.ci ∷ 0x0A00 ∷ place.tape ∷ []

unfoldable pub internet_header : Place → List ℕ
internet_header place =
    network_words (words_before place ++ checksum (words_before place ++ 0 ∷ words_after place) ∷ words_after place)

-- the UDP header: from and to port 4729, its length with what follows, and no checksum
unfoldable pub datagram_header : List ℕ
datagram_header = network_words (4729 ∷ 4729 ∷ 47 ∷ 0 ∷ [])

-- the channel's number in GSMTAP: CBCH51 and CBCH52
abbrev pub channel_number : Channel → ℕ
channel_number BesideSdcch4 = 15
channel_number BesideSdcch8 = 12

-- the GSMTAP header: version 2, four words of 32 bits, type 1 (a block of the Um interface), time slot 0; ARFCN, signal
-- and SNR 0; the frame number; the channel, antenna 0, sub-slot 2, and an octet that is kept free
unfoldable pub tap_header : Channel → Place → List ℕ
tap_header channel place =
    (2 ∷ 4 ∷ 1 ∷ 0 ∷ 0 ∷ 0 ∷ 0 ∷ 0 ∷ []) ++ big_bytes 4 (frame_number channel place)
    ++ (channel_number channel ∷ 0 ∷ 2 ∷ 0 ∷ [])

-- a block as a packet of the file
unfoldable pub packet : Start → Channel → Place → List ℕ → List ℕ
packet start channel place block =
    record_header start place ++ internet_header place ++ datagram_header ++ tap_header channel place ++ block
