-- The block that a packet carries in GSMTAP, if it does: in IPv4 (RFC 791), in UDP (RFC 768). Each step is a function
-- of the octets.
use Rattle.std.specs.Prelude.{ℕ, ◌+◌, ◌-◌, ◌*◌, ◌/◌, ◌%◌, ◌==◌, ◌&&◌, ◌||◌, nat_le, Bool, true, List, length, take}
use Rattle.std.specs.Prelude.{drop}
use Rattle.std.specs.Prelude.{slice_index, Option, Some, None, option_and_then, if◌then◌else◌}
use Rattle.byteorder.specs.Endian.{big_number, little_number}
use Rattle.gsmtap.specs.declared.file.Link.{Link}
use Rattle.gsmtap.specs.declared.file.Link.TheVariants.{Cooked, CookedTwo, Ethernet, Internet, Loopback}
use Rattle.gsmtap.specs.declared.tap.Sent.{Sent}
use Rattle.gsmtap.specs.declared.tape.ChannelType.{ChannelType}
use Rattle.gsmtap.specs.declared.tape.ChannelType.TheVariants.{Cbch, Sdcch}
use Rattle.gsmtap.specs.declared.tape.Sender.{Sender}

-- what follows a tag of a virtual network, of two octets that say that it is one and two more (IEEE 802.1Q)
abbrev pub is_tag : ℕ → Bool
is_tag number = number == 0x8100 || number == 0x88A8

unfoldable pub without_tag : List ℕ → List ℕ
without_tag octets = if nat_le 4 (length octets) && is_tag (big_number 2 octets) then drop 4 octets else octets

-- what follows the type of IPv4
unfoldable pub after_type : List ℕ → Option (List ℕ)
after_type octets =
    if nat_le 2 (length octets) && big_number 2 octets == 0x0800 then Some (drop 2 octets) else None

-- what follows a header of this many octets, two tags at most, and the type of IPv4
unfoldable pub after_header : (header : ℕ) → List ℕ → Option (List ℕ)
after_header header octets =
    if nat_le header (length octets) then after_type (without_tag (without_tag (drop header octets))) else None

-- what follows a cooked header of the second version: it begins with the type, and has 20 octets
unfoldable pub after_cooked_two : List ℕ → Option (List ℕ)
after_cooked_two octets =
    if nat_le 20 (length octets) && big_number 2 octets == 0x0800 then Some (drop 20 octets) else None

-- what follows the number 2, IPv4's, in four octets: of whichever order the machine has that took it
unfoldable pub after_family : List ℕ → Option (List ℕ)
after_family octets =
    if nat_le 4 (length octets) && (little_number 4 octets == 2 || big_number 4 octets == 2) then Some (drop 4 octets)
    else None

-- the IPv4 packet in a packet: the packet itself; or after two addresses of Ethernet, of six octets each; or after a
-- header that Linux makes in place of that of any device, of 14 octets before the type, or with the type first; or
-- after the family of the loopback device
unfoldable pub internet_of : Link → List ℕ → Option (List ℕ)
internet_of Internet octets = Some octets
internet_of Ethernet octets = after_header 12 octets
internet_of Cooked octets = after_header 14 octets
internet_of CookedTwo octets = after_cooked_two octets
internet_of Loopback octets = after_family octets

-- it comes from the wanted address, where one is wanted
abbrev pub is_from : Option ℕ → List ℕ → Bool
is_from None octets = true
is_from (Some address) octets = big_number 4 (drop 12 octets) == address

-- the octets of the header of an IPv4 packet: its second half octet counts words of four
abbrev pub header_length : List ℕ → ℕ
header_length octets = 4 * (slice_index octets 0 % 16)

-- the datagram in an IPv4 packet: version 4, five words of header at least, whole (no fragment), protocol 17
unfoldable pub datagram_of : Option ℕ → List ℕ → Option (List ℕ)
datagram_of from octets =
    if nat_le 20 (length octets) && slice_index octets 0 / 16 == 4 && nat_le 20 (header_length octets)
    && nat_le (header_length octets) (length octets) && big_number 2 (drop 6 octets) % 0x4000 == 0
    && slice_index octets 9 == 17 && is_from from octets
    then Some (drop (header_length octets) octets) else None

-- what a datagram to port 4729 carries, by the length that it says
unfoldable pub payload_of : List ℕ → Option (List ℕ)
payload_of octets =
    if nat_le 8 (length octets) && big_number 2 (drop 2 octets) == 4729 && nat_le 8 (big_number 2 (drop 4 octets))
    && nat_le (big_number 2 (drop 4 octets)) (length octets)
    then Some (take (big_number 2 (drop 4 octets) - 8) (drop 8 octets)) else None

-- it names the wanted radio channel, where one is wanted: in the low 14 bits of a number
abbrev pub is_on : Option ℕ → List ℕ → Bool
is_on None octets = true
is_on (Some arfcn) octets = big_number 2 (drop 4 octets) % 0x4000 == arfcn

-- it is marked as a block of a cell broadcast channel: by the channel's own types, CBCH52 and CBCH51; or, by receivers
-- that know none, as one of the channel in whose place it stands, SDCCH/4 or SDCCH/8 number 2 (types 7 and 8, and
-- sub-slot 2; 3GPP TS 45.002, clause 7)
abbrev pub is_marked : ChannelType → List ℕ → Bool
is_marked Cbch octets = slice_index octets 12 == 12 || slice_index octets 12 == 15
is_marked Sdcch octets = (slice_index octets 12 == 7 || slice_index octets 12 == 8) && slice_index octets 14 == 2

-- the block in GSMTAP: version 2, a header of four words at least, type 1 (a block of the Um interface), downlink (bit
-- 14 of the ARFCN is 0), the wanted channel, and 23 octets after the header. It has the number of its frame
unfoldable pub block_of : Sender → List ℕ → Option Sent
block_of from octets =
    if nat_le 16 (length octets) && slice_index octets 0 == 2 && nat_le 4 (slice_index octets 1)
    && slice_index octets 2 == 1 && slice_index octets 4 / 64 % 2 == 0 && is_on from.arfcn octets
    && is_marked from.channel octets && length octets == 4 * slice_index octets 1 + 23
    then Some (record {
      frame = big_number 4 (drop 8 octets);
      block = drop (4 * slice_index octets 1) octets;
    }) else None

-- the block that a packet carries
unfoldable pub sent_in : Link → Sender → List ℕ → Option Sent
sent_in link from octets =
    option_and_then (λ internet. option_and_then (λ datagram. option_and_then (block_of from) (payload_of datagram))
    (datagram_of from.address internet)) (internet_of link octets)

-- whoever sends, on a channel that is marked as what it is
abbrev pub anyone : Sender
anyone = record { address = None; arfcn = None; channel = Cbch }
