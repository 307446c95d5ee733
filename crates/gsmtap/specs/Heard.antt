-- Who sends in a capture file: the senders of blocks of a cell broadcast channel, in the order of their first blocks.
use Rattle.std.specs.Prelude.{◌≡◌, ℕ, ◌-◌, ◌%◌, ◌==◌, ◌&&◌, not, nat_lt, Bool, false, if◌then◌else◌, List, []}
use Rattle.std.specs.Prelude.{◌∷◌, ◌++◌, drop, length, map, unwrap_or, Option, Some, None, Result, Ok, Err}
use Rattle.std.specs.List.{filter, position_from, suffix_len}
use Rattle.std.specs.Option.{option_and_then, option_map, option_map_or}
use Rattle.byteorder.specs.Endian.{big_number}
use Rattle.gsmtap.specs.File.{Packet, link_numbered}
use Rattle.gsmtap.specs.Taken.{ComesTo, IsFileFault, Taking}
use Rattle.gsmtap.specs.Tap.{block_of, datagram_of, internet_of, payload_of}
use Rattle.gsmtap.specs.Track.{place_in}
use Rattle.gsmtap.specs.declared.fault.AirFault.{AirFault}
use Rattle.gsmtap.specs.declared.fault.AirFaultKind.{AirFaultKind}
use Rattle.gsmtap.specs.declared.fault.AirFaultKind.TheVariants as kind
use Rattle.gsmtap.specs.declared.file.Link.{Link}
use Rattle.gsmtap.specs.declared.heard.Heard.{Heard}
use Rattle.gsmtap.specs.declared.tap.Station.{Station}
use Rattle.gsmtap.specs.declared.tape.ChannelType.{ChannelType}
use Rattle.gsmtap.specs.declared.tape.ChannelType.TheVariants.{Cbch, Sdcch}

-- GSMTAP has a block that is marked so, whoever sends it, in one of the places that a tape has: the basic channel's
abbrev pub is_heard : ChannelType → List ℕ → Bool
is_heard channel octets =
    option_map_or (λ sent. nat_lt (place_in sent.frame) 4)
    (block_of (record { address = None; arfcn = None; channel = channel }) octets) false

-- as which channel's it is marked, if it has one
abbrev pub channel_of : List ℕ → Option ChannelType
channel_of octets = if is_heard Cbch octets then Some Cbch else (if is_heard Sdcch octets then Some Sdcch else None)

-- who sends it: the source address of IPv4, and the radio channel that GSMTAP names
abbrev pub station_of : (internet payload : List ℕ) → Option Station
station_of internet payload = option_map (λ channel. record {
  address = big_number 4 (drop 12 internet);
  arfcn = big_number 2 (drop 4 payload) % 0x4000;
  channel = channel;
}) (channel_of payload)

-- who sends the block that a packet carries, if it carries one
unfoldable pub station_in : Link → List ℕ → Option Station
station_in link octets =
    option_and_then (λ internet. option_and_then (λ datagram. option_and_then (station_of internet)
    (payload_of datagram)) (datagram_of None internet)) (internet_of link octets)

abbrev pub mark_number : ChannelType → ℕ
mark_number Cbch = 0
mark_number Sdcch = 1

abbrev pub is_station : Station → Station → Bool
is_station a b = a.address == b.address && a.arfcn == b.arfcn && mark_number a.channel == mark_number b.channel

-- whether a packet carries a block of a sender
abbrev pub is_sent_by : Station → Option Station → Bool
is_sent_by station sent = option_map_or (is_station station) sent false

-- the senders of packets' blocks, each once, in the order of their first blocks
abbrev pub senders : List (Option Station) → List Station
senders [] = []
senders (None ∷ rest) = senders rest
senders (Some station ∷ rest) = station ∷ filter (λ one. not (is_station station one)) (senders rest)

-- a sender: how many of the packets carry a block of it, and the numbers of the first and the last of these, from 1
abbrev pub heard_of : List (Option Station) → Station → Heard
heard_of packets station = record {
  station = station;
  blocks = length (filter (is_sent_by station) packets);
  first = unwrap_or (position_from (is_sent_by station) 1 packets) 0;
  last = length packets - suffix_len (λ sent. not (is_sent_by station sent)) packets;
}

-- who sends in packets, of each of which this is the sender of its block
abbrev pub heard_in : List (Option Station) → List Heard
heard_in packets = map (heard_of packets) (senders packets)

-- a packet of a link type that isn't known is at fault
abbrev pub with_packet : List (Option Station) → Packet → Option Link → Result (List (Option Station)) AirFaultKind
with_packet before packet None = Err (kind.OtherLink packet.link)
with_packet before packet (Some link) = Ok (before ++ station_in link packet.octets ∷ [])

unfoldable pub hear : List (Option Station) → Packet → Result (List (Option Station)) AirFaultKind
hear before packet = with_packet before packet (link_numbered packet.link)

-- how packets are taken for the senders: of each it is known whose block it carries
abbrev pub for_hearing : Taking (List (Option Station))
for_hearing = record { start = []; step = hear }

-- the input is a capture file of whole pieces, and these send in its packets
pub record AreHeard (input : List ℕ) (heard : List Heard) : Type 0 where
  pub packets : List (Option Station)
  pub file : ComesTo for_hearing input packets
  pub senders_are : heard ≡ heard_in packets

-- why nobody can be named, but for out of memory
abbrev pub IsHeardFault : List ℕ → AirFault → Type 0
IsHeardFault input fault = IsFileFault for_hearing input fault.packet fault.kind
