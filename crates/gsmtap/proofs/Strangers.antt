-- A packet that carries no block of a sender changes nothing of the sender's tape.
use Rattle.std.proofs.Common.{◌≡◌, ℕ, ◌+◌, ◌%◌, Bool, true, false, eq-eqb, List, [], ◌∷◌, ◌++◌, refl, sym}
use Rattle.std.proofs.Common.{ap, ◌∙◌, subst, inl, inr, drop, Option, Some, None, Result, Ok, Err, nat_lt}
use Rattle.std.specs.Prelude.{◌==◌, ◌&&◌, slice_index}
use Rattle.std.specs.List.{list_any}
use Rattle.std.specs.Option.{option_and_then, option_map_or}
use Rattle.std.proofs.lemmas.Bool.{cases_Bool, eqb-true}
use Rattle.byteorder.specs.Endian.{big_number}
use Rattle.gsmtap.specs.Carried.{wanted_of}
use Rattle.gsmtap.specs.File.{Packet, link_numbered}
use Rattle.gsmtap.specs.Heard.{channel_of, hear, is_heard, is_sent_by, mark_number, station_in, station_of}
use Rattle.gsmtap.specs.Heard.{with_packet}
use Rattle.gsmtap.specs.Taken.{after_packets}
use Rattle.gsmtap.specs.Tap.{block_of, datagram_of, internet_of, is_marked, payload_of, sent_in}
use Rattle.gsmtap.specs.TapeOfCapture.{after_linked, after_packet, after_sent}
use Rattle.gsmtap.specs.Track.{Known, place_in, with_block}
use Rattle.gsmtap.specs.declared.fault.AirFaultKind.{AirFaultKind}
use Rattle.gsmtap.specs.declared.fault.AirFaultKind.TheVariants as kind
use Rattle.gsmtap.specs.declared.file.Link.{Link}
use Rattle.gsmtap.specs.declared.tap.Sent.{Sent}
use Rattle.gsmtap.specs.declared.tap.Station.{Station}
use Rattle.gsmtap.specs.declared.tape.ChannelType.{ChannelType}
use Rattle.gsmtap.specs.declared.tape.ChannelType.TheVariants.{Cbch, Sdcch}
use Rattle.gsmtap.specs.declared.tape.Sender.{Sender}

and-false : (b : Bool) → (b && false) ≡ false
and-false true = refl
and-false false = refl

-- whoever sends a block that is marked so
abbrev marked : ChannelType → Sender
marked channel = record { address = None; arfcn = None; channel = channel }

-- the sender of a station's blocks
abbrev pub from_of : Station → Sender
from_of station = (wanted_of station).from

-- Of two channels a block is marked as one

not_marked : (channel : ChannelType) (octets : List ℕ) → is_marked channel octets ≡ false →
    is_heard channel octets ≡ false
unfolding block_of
not_marked channel octets isnt = simp (isnt, and-false) refl

one_mark : (octets : List ℕ) → is_heard Sdcch octets ≡ true → is_marked Cbch octets ≡ false
one_mark octets heard = elim (cases_Bool (is_marked Cbch octets)) [
  | inr isnt ↦ isnt
  | inl is ↦ elim (cases_Bool (slice_index octets 12 == 12)) [
    | inl twelve ↦
        let number : slice_index octets 12 ≡ 12 = eqb-true _ _ twelve in
        let other : is_marked Sdcch octets ≡ false = rw number refl in
        absurd (cc (sym heard ∙ not_marked Sdcch octets other))
    | inr not_twelve ↦
        let fifteen : (slice_index octets 12 == 15) ≡ true = rw not_twelve at is in
        let number : slice_index octets 12 ≡ 15 = eqb-true _ _ fifteen in
        let other : is_marked Sdcch octets ≡ false = rw number refl in
        absurd (cc (sym heard ∙ not_marked Sdcch octets other))
  ]
]

channel_is : (channel : ChannelType) (octets : List ℕ) → is_heard channel octets ≡ true →
    channel_of octets ≡ Some channel
channel_is Cbch octets heard = rw heard refl
channel_is Sdcch octets heard = rw (not_marked Cbch octets (one_mark octets heard)) (rw heard refl)

-- A block of a sender is told to be its block

same_numbers : (a b : ℕ) → (a == b) ≡ true → (b == a) ≡ true
same_numbers a b is = eq-eqb b a (sym (eqb-true a b is))

told : (station : Station) (internet payload : List ℕ) →
    (big_number 4 (drop 12 internet) == station.address) ≡ true →
    (big_number 2 (drop 4 payload) % 0x4000 == station.arfcn) ≡ true → is_heard station.channel payload ≡ true →
    is_sent_by station (station_of internet payload) ≡ true
told station internet payload address arfcn heard =
    rw (channel_is station.channel payload heard)
    (rw (same_numbers _ _ address) (rw (same_numbers _ _ arfcn)
    (eq-eqb (mark_number station.channel) (mark_number station.channel) refl)))

-- so where none is told a packet has none, or one of the extended channel

by_place : (known : Known) (sent : Sent) → nat_lt (place_in sent.frame) 4 ≡ false → with_block known sent ≡ Ok known
unfolding with_block
by_place known sent other = rw other refl

by_block : (known : Known) (station : Station) (internet payload : List ℕ) (sent : Option Sent) →
    (big_number 4 (drop 12 internet) == station.address) ≡ true →
    (big_number 2 (drop 4 payload) % 0x4000 == station.arfcn) ≡ true →
    block_of (marked station.channel) payload ≡ sent →
    is_sent_by station (station_of internet payload) ≡ false → after_sent known sent ≡ Ok known
by_block known station internet payload None address arfcn is stranger = refl
by_block known station internet payload (Some sent) address arfcn is stranger =
    elim (cases_Bool (nat_lt (place_in sent.frame) 4)) [
      | inl here ↦
          let heard : is_heard station.channel payload ≡ true =
          ap (λ (it : Option Sent). option_map_or (λ (sent : Sent). nat_lt (place_in sent.frame) 4) it false) is ∙ here
          in
          absurd (cc (sym (told station internet payload address arfcn heard) ∙ stranger))
      | inr other ↦ by_place known sent other
    ]

by_arfcn : (known : Known) (station : Station) (internet payload : List ℕ) →
    (big_number 4 (drop 12 internet) == station.address) ≡ true →
    is_sent_by station (station_of internet payload) ≡ false →
    after_sent known (block_of (from_of station) payload) ≡ Ok known
unfolding block_of
by_arfcn known station internet payload address stranger =
    elim (cases_Bool (big_number 2 (drop 4 payload) % 0x4000 == station.arfcn)) [
      | inl is ↦
          let same : block_of (from_of station) payload ≡ block_of (marked station.channel) payload = rw is refl in
          ap (after_sent known) same
          ∙ by_block known station internet payload (block_of (marked station.channel) payload) address is refl
          stranger
      | inr isnt ↦
          let none : block_of (from_of station) payload ≡ None = simp (isnt, and-false) refl in
          ap (after_sent known) none
    ]

by_payload : (known : Known) (station : Station) (internet : List ℕ) (payload : Option (List ℕ)) →
    (big_number 4 (drop 12 internet) == station.address) ≡ true →
    is_sent_by station (option_and_then (station_of internet) payload) ≡ false →
    after_sent known (option_and_then (block_of (from_of station)) payload) ≡ Ok known
by_payload known station internet None address stranger = refl
by_payload known station internet (Some payload) address stranger =
    by_arfcn known station internet payload address stranger

by_datagram : (known : Known) (station : Station) (internet : List ℕ) (datagram : Option (List ℕ)) →
    (big_number 4 (drop 12 internet) == station.address) ≡ true →
    is_sent_by station
    (option_and_then (λ datagram. option_and_then (station_of internet) (payload_of datagram)) datagram) ≡ false →
    after_sent known
    (option_and_then (λ datagram. option_and_then (block_of (from_of station)) (payload_of datagram)) datagram)
    ≡ Ok known
by_datagram known station internet None address stranger = refl
by_datagram known station internet (Some datagram) address stranger =
    by_payload known station internet (payload_of datagram) address stranger

by_address : (known : Known) (station : Station) (internet : List ℕ) →
    is_sent_by station
    (option_and_then (λ datagram. option_and_then (station_of internet) (payload_of datagram))
    (datagram_of None internet)) ≡ false →
    after_sent known
    (option_and_then (λ datagram. option_and_then (block_of (from_of station)) (payload_of datagram))
    (datagram_of (Some station.address) internet)) ≡ Ok known
unfolding datagram_of
by_address known station internet stranger =
    elim (cases_Bool (big_number 4 (drop 12 internet) == station.address)) [
      | inl is ↦
          let same : datagram_of (Some station.address) internet ≡ datagram_of None internet = rw is refl in
          ap (λ (it : Option (List ℕ)). after_sent known
          (option_and_then (λ datagram. option_and_then (block_of (from_of station)) (payload_of datagram)) it)) same
          ∙ by_datagram known station internet (datagram_of None internet) is stranger
      | inr isnt ↦
          let none : datagram_of (Some station.address) internet ≡ None = simp (isnt, and-false) refl in
          ap (λ (it : Option (List ℕ)). after_sent known
          (option_and_then (λ datagram. option_and_then (block_of (from_of station)) (payload_of datagram)) it)) none
    ]

by_internet : (known : Known) (station : Station) (internet : Option (List ℕ)) →
    is_sent_by station
    (option_and_then (λ internet. option_and_then (λ datagram. option_and_then (station_of internet)
    (payload_of datagram)) (datagram_of None internet)) internet) ≡ false →
    after_sent known
    (option_and_then (λ internet. option_and_then (λ datagram. option_and_then (block_of (from_of station))
    (payload_of datagram)) (datagram_of (Some station.address) internet)) internet) ≡ Ok known
by_internet known station None stranger = refl
by_internet known station (Some internet) stranger = by_address known station internet stranger

-- a packet of another sender, or of none
pub unsent : (known : Known) (station : Station) (link : Link) (octets : List ℕ) →
    is_sent_by station (station_in link octets) ≡ false →
    after_sent known (sent_in link (from_of station) octets) ≡ Ok known
unfolding sent_in station_in
unsent known station link octets stranger = by_internet known station (internet_of link octets) stranger

-- Packets of others

any_before : (p : Option Station → Bool) (front : List (Option Station)) (one : Option Station) →
    p one ≡ true → list_any p (front ++ one ∷ []) ≡ true
any_before p [] one is = rw is refl
any_before p (first ∷ front) one is = elim (cases_Bool (p first)) [
  | inl here ↦ rw here refl
  | inr not_here ↦ rw not_here (any_before p front one is)
]

any_stays : (p : Option Station → Bool) (front : List (Option Station)) (one : Option Station) →
    list_any p front ≡ true → list_any p (front ++ one ∷ []) ≡ true
any_stays p [] one is = absurd cc
any_stays p (first ∷ front) one is = elim (cases_Bool (p first)) [
  | inl here ↦ rw here refl
  | inr not_here ↦ rw not_here (any_stays p front one (rw not_here at is))
]

-- a fault comes to nothing
pub failed : {S : Type 0} (step : S → Packet → Result S AirFaultKind) (number : ℕ) (why : AirFaultKind)
    (packets : List Packet) (known : S) → after_packets step number (Err why) packets ≡ Ok known → ⊥
failed step number why [] known is = cc
failed step number why (packet ∷ packets) known is = cc

any_link : (p : Option Station → Bool) (number : ℕ) (before : List (Option Station)) (packet : Packet)
    (packets : List Packet) (all : List (Option Station)) (link : Option Link) →
    after_packets hear number (with_packet before packet link) packets ≡ Ok all → list_any p before ≡ true →
    ((next : List (Option Station)) → after_packets hear number (Ok next) packets ≡ Ok all →
    list_any p next ≡ true → list_any p all ≡ true) →
    list_any p all ≡ true
any_link p number before packet packets all None is any onward =
    absurd (failed hear number (kind.OtherLink packet.link) packets all is)
any_link p number before packet packets all (Some link) is any onward =
    onward (before ++ station_in link packet.octets ∷ []) is
    (any_stays p before (station_in link packet.octets) any)

any_later : (p : Option Station → Bool) (number : ℕ) (before : List (Option Station)) (packets : List Packet)
    (all : List (Option Station)) → after_packets hear number (Ok before) packets ≡ Ok all →
    list_any p before ≡ true → list_any p all ≡ true
unfolding hear
any_later p number before [] all is any =
    let same : before ≡ all = cc in
    subst (λ it. list_any p it ≡ true) same any
any_later p number before (packet ∷ packets) all is any =
    any_link p (number + 1) before packet packets all (link_numbered packet.link) is any
    (λ next goes more. any_later p (number + 1) next packets all goes more)

stranger_link : (station : Station) (number : ℕ) (before : List (Option Station)) (packet : Packet)
    (packets : List Packet) (all : List (Option Station)) (known : Known) (link : Option Link) →
    after_packets hear number (with_packet before packet link) packets ≡ Ok all →
    list_any (is_sent_by station) all ≡ false →
    ((next : List (Option Station)) → after_packets hear number (Ok next) packets ≡ Ok all →
    after_packets (after_packet (from_of station)) number (Ok known) packets ≡ Ok known) →
    after_packets (after_packet (from_of station)) number (after_linked (from_of station) known packet link) packets
    ≡ Ok known
stranger_link station number before packet packets all known None is none onward =
    absurd (failed hear number (kind.OtherLink packet.link) packets all is)
stranger_link station number before packet packets all known (Some link) is none onward =
    let sent : Option Station = station_in link packet.octets in
    elim (cases_Bool (is_sent_by station sent)) [
      | inl here ↦
          let any : list_any (is_sent_by station) all ≡ true =
          any_later (is_sent_by station) number (before ++ sent ∷ []) packets all is
          (any_before (is_sent_by station) before sent here) in
          absurd (cc (sym any ∙ none))
      | inr other ↦
          ap (λ state. after_packets (after_packet (from_of station)) number state packets)
          (unsent known station link packet.octets other)
          ∙ onward (before ++ sent ∷ []) is
    ]

-- they change nothing of a sender's tape
pub strangers : (station : Station) (number : ℕ) (before : List (Option Station)) (packets : List Packet)
    (all : List (Option Station)) (known : Known) → after_packets hear number (Ok before) packets ≡ Ok all →
    list_any (is_sent_by station) all ≡ false →
    after_packets (after_packet (from_of station)) number (Ok known) packets ≡ Ok known
unfolding hear after_packet
strangers station number before [] all known is none = refl
strangers station number before (packet ∷ packets) all known is none =
    stranger_link station (number + 1) before packet packets all known (link_numbered packet.link) is none
    (λ next goes. strangers station (number + 1) next packets all known goes none)
