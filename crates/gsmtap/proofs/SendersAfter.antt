-- What is known of senders after one packet more.
use Rattle.std.proofs.Common.{◌≡◌, ℕ, zero, suc, ◌+◌, ◌-◌, ◌<◌, ◌≤◌, ◌^◌, Bool, true, false, List, [], ◌∷◌, ◌++◌}
use Rattle.std.proofs.Common.{length, map, get_or, refl, sym, ap, ◌∙◌, subst, inl, inr, arith}
use Rattle.std.proofs.Common.{Option, Some, None, Result, Ok, Err, is_some, slice_get, slice_set}
use Rattle.std.specs.List.{AllByRecursion, list_any, position_from}
use Rattle.std.specs.Option.{option_and_then, option_map}
use Rattle.std.proofs.lemmas.Bool.{cases_Bool}
use Rattle.std.proofs.lemmas.Iterator.Adapters.{position_from-zero}
use Rattle.std.proofs.lemmas.List.{length_push, map-append, map-set}
use Rattle.gsmtap.specs.Carried.{wanted_of}
use Rattle.gsmtap.specs.File.{Packet, link_numbered}
use Rattle.gsmtap.specs.Heard.{for_hearing, hear, heard_in, heard_of, is_sent_by, is_station, senders, station_in}
use Rattle.gsmtap.specs.Heard.{with_packet}
use Rattle.gsmtap.specs.HeardSteps.{heard_again, heard_at, newly_heard, place_of, with_sender}
use Rattle.gsmtap.specs.SendersSteps.{AreSendersAfter, HearAt, IsFirstHeard, IsHeardAgain}
use Rattle.gsmtap.specs.SendersSteps.{IsListenerFor, IsSenderAfter, place_among, tape_after, time_numbered}
use Rattle.gsmtap.specs.SendersSteps.{without_number}
use Rattle.gsmtap.specs.Taken.{Taking, after_packets, taken}
use Rattle.gsmtap.specs.Tap.{sent_in}
use Rattle.gsmtap.specs.TapeOfCapture.{after_linked, after_packet, after_sent, for_tape, nothing_known}
use Rattle.gsmtap.specs.Track.{Known}
use Rattle.gsmtap.specs.declared.fault.AirFault.{AirFault}
use Rattle.gsmtap.specs.declared.fault.AirFaultKind.{AirFaultKind}
use Rattle.gsmtap.specs.declared.fault.AirFaultKind.TheVariants as kind
use Rattle.gsmtap.specs.declared.file.Link.{Link}
use Rattle.gsmtap.specs.declared.heard.Heard.{Heard}
use Rattle.gsmtap.specs.declared.listener.Listener.{Listener}
use Rattle.gsmtap.specs.declared.sender_table.SenderState.{SenderState}
use Rattle.gsmtap.specs.declared.tap.Station.{Station}
use Rattle.gsmtap.proofs.PacketSteps.{taken_more}
use Rattle.gsmtap.proofs.Senders.{Apart, apart_senders, found_after, is_known, isnt_either, packet_counted}
use Rattle.gsmtap.proofs.Senders.{same_station, some_found}
use Rattle.gsmtap.proofs.Strangers.{failed, from_of, strangers, unsent}

-- What a sender's blocks come to

after_is : (from_station : Station) (known : Known) (packet : Packet) (link : Link) →
    link_numbered packet.link ≡ Some link →
    after_packet (from_of from_station) known packet
    ≡ after_sent known (sent_in link (from_of from_station) packet.octets)
unfolding after_packet
after_is station known packet link is = ap (after_linked (from_of station) known packet) is

told_after : (step : Known → Packet → Result Known AirFaultKind) (number : ℕ) (result : Result Known AirFaultKind) →
    without_number (after_packets step number result []) ≡ result
told_after step number (Ok known) = refl
told_after step number (Err why) = refl

-- what is taken, whichever packet a fault would be of
pub is_right : (result : Result Known AirFault) (known : Known) → without_number result ≡ Ok known → result ≡ Ok known
is_right (Ok other) known is = let same : other ≡ known = cc in ap Ok same
is_right (Err fault) known is = cc

-- and what isn't
pub is_wrong : (result : Result Known AirFault) (why : AirFaultKind) → without_number result ≡ Err why →
    (fault : AirFault) × (result ≡ Err fault) × (fault.kind ≡ why)
is_wrong (Ok known) why is = cc
is_wrong (Err fault) why is = let same : fault.kind ≡ why = cc in (fault, refl, same)

stays_wrong : {S : Type 0} (step : S → Packet → Result S AirFaultKind) (number : ℕ) (state : Result S AirFaultKind)
    (packets : List Packet) (packet : Packet) (fault : AirFault) →
    after_packets step number state packets ≡ Err fault →
    after_packets step number state (packets ++ packet ∷ []) ≡ Err fault
stays_wrong step number (Ok known) [] packet fault is = cc
stays_wrong step number (Err why) [] packet fault is = is
stays_wrong step number (Ok known) (first ∷ packets) packet fault is =
    stays_wrong step (number + 1) (step known first) packets packet fault is
stays_wrong step number (Err why) (first ∷ packets) packet fault is = is

tape_more : (station : Station) (packets : List Packet) (packet : Packet) (known : Known) →
    tape_after station packets ≡ Ok known →
    tape_after station (packets ++ packet ∷ []) ≡ after_packet (from_of station) known packet
tape_more station packets packet known is =
    let by : Taking Known = for_tape (wanted_of station) in
    ap without_number
    (taken_more by packets packet known (after_packet (from_of station) known packet)
    (is_right (taken by packets) known is) refl)
    ∙ told_after by.step (length packets + 1) (after_packet (from_of station) known packet)

tape_wrong : (station : Station) (packets : List Packet) (packet : Packet) (why : AirFaultKind) →
    tape_after station packets ≡ Err why → tape_after station (packets ++ packet ∷ []) ≡ Err why
unfolding taken
tape_wrong station packets packet why is =
    let by : Taking Known = for_tape (wanted_of station) in
    let wrong = is_wrong (taken by packets) why is in
    ap without_number (stays_wrong by.step 0 (Ok by.start) packets packet wrong.0 wrong.1) ∙ ap Err wrong.2

-- what is known of it after one packet more, whose block it may be
listens_by : (station : Station) (packets : List Packet) (packet : Packet) (link : Link)
    (result : Result Known AirFaultKind) (old new : Option Listener) → link_numbered packet.link ≡ Some link →
    tape_after station packets ≡ result → IsListenerFor old result →
    ((known : Known) → IsListenerFor old (Ok known) →
    IsListenerFor new (after_sent known (sent_in link (from_of station) packet.octets))) →
    ((why : AirFaultKind) → IsListenerFor old (Err why) → IsListenerFor new (Err why)) →
    IsListenerFor new (tape_after station (packets ++ packet ∷ []))
listens_by station packets packet link (Ok known) old new is comes listens goes gone =
    subst (λ (it : Result Known AirFaultKind). IsListenerFor new it)
    (sym (tape_more station packets packet known comes ∙ after_is station known packet link is)) (goes known listens)
listens_by station packets packet link (Err why) old new is comes listens goes gone =
    subst (λ (it : Result Known AirFaultKind). IsListenerFor new it)
    (sym (tape_wrong station packets packet why comes)) (gone why listens)

-- When packets came

get_before : (packets : List Packet) (packet : Packet) (place : ℕ) → place < length packets →
    slice_get (packets ++ packet ∷ []) place ≡ slice_get packets place
get_before [] packet place inside = absurd (omega (arith, inside))
get_before (first ∷ packets) packet zero inside = refl
get_before (first ∷ packets) packet (suc place) inside = get_before packets packet place (omega (arith, inside))

get_last : (packets : List Packet) (packet : Packet) →
    slice_get (packets ++ packet ∷ []) (length packets) ≡ Some packet
get_last [] packet = refl
get_last (first ∷ packets) packet = get_last packets packet

time_before : (packets : List Packet) (packet : Packet) (number : ℕ) → 0 < number → number ≤ length packets →
    time_numbered (packets ++ packet ∷ []) number ≡ time_numbered packets number
time_before packets packet number some inside =
    ap (option_and_then (λ (packet : Packet). packet.time))
    (get_before packets packet (number - 1) (omega (arith, some, inside)))

time_last : (packets : List Packet) (packet : Packet) → time_numbered (packets ++ packet ∷ []) (length packets + 1)
    ≡ packet.time
time_last packets packet =
    let last : length packets + 1 - 1 ≡ length packets = omega arith in
    ap (λ n. option_and_then (λ (packet : Packet). packet.time) (slice_get (packets ++ packet ∷ []) n)) last
    ∙ ap (option_and_then (λ (packet : Packet). packet.time)) (get_last packets packet)

-- What is known of a sender after one packet more

-- of another one's, or of none
other_after : (packets : List Packet) (packet : Packet) (link : Link) (sender : SenderState) →
    link_numbered packet.link ≡ Some link →
    is_sent_by sender.heard.station (station_in link packet.octets) ≡ false → IsSenderAfter packets sender →
    IsSenderAfter (packets ++ packet ∷ []) sender
other_after packets packet link sender is stranger known =
    let longer : length (packets ++ packet ∷ []) ≡ length packets + 1 = length_push packets packet in
    record {
      first = (known.first.0, omega (arith, known.first.1, longer));
      last = (known.last.0, omega (arith, known.last.1, longer));
      first_time =
          known.first_time ∙ sym (time_before packets packet sender.heard.first known.first.0 known.first.1);
      last_time = known.last_time ∙ sym (time_before packets packet sender.heard.last known.last.0 known.last.1);
      listens =
          listens_by sender.heard.station packets packet link (tape_after sender.heard.station packets)
          sender.listener sender.listener is refl known.listens
          (λ tape listens.
          subst (λ (it : Result Known AirFaultKind). IsListenerFor sender.listener it)
          (sym (unsent tape sender.heard.station link packet.octets stranger)) listens)
          (λ why listens. listens);
    }

-- of its own
own_after : (packets : List Packet) (packet : Packet) (link : Link) (old new : SenderState) →
    link_numbered packet.link ≡ Some link →
    IsHeardAgain (length packets + 1) packet.time (sent_in link (from_of old.heard.station) packet.octets) old new →
    IsSenderAfter packets old → IsSenderAfter (packets ++ packet ∷ []) new
own_after packets packet link old new is again known =
    let longer : length (packets ++ packet ∷ []) ≡ length packets + 1 = length_push packets packet in
    let station : new.heard.station ≡ old.heard.station = ap (λ (it : Heard). it.station) again.heard in
    let first : new.heard.first ≡ old.heard.first = ap (λ (it : Heard). it.first) again.heard in
    let last : new.heard.last ≡ length packets + 1 = ap (λ (it : Heard). it.last) again.heard in
    record {
      first = (omega (arith, first, known.first.0), omega (arith, first, known.first.1, longer));
      last = (omega (arith, last), omega (arith, last, longer));
      first_time =
          again.first_time ∙ known.first_time
          ∙ sym (time_before packets packet old.heard.first known.first.0 known.first.1)
          ∙ ap (time_numbered (packets ++ packet ∷ [])) (sym first);
      last_time =
          again.last_time ∙ sym (time_last packets packet) ∙ ap (time_numbered (packets ++ packet ∷ [])) (sym last);
      listens =
          subst (λ (it : Station). IsListenerFor new.listener (tape_after it (packets ++ packet ∷ []))) (sym station)
          (listens_by old.heard.station packets packet link (tape_after old.heard.station packets) old.listener
          new.listener is refl known.listens again.listens again.gone);
    }

-- or of its first block
first_after : (packets : List Packet) (stations : List (Option Station)) (packet : Packet) (link : Link)
    (station : Station) (new : SenderState) → link_numbered packet.link ≡ Some link →
    taken for_hearing packets ≡ Ok stations → list_any (is_sent_by station) stations ≡ false →
    IsFirstHeard (length packets + 1) station packet.time (sent_in link (from_of station) packet.octets) new →
    IsSenderAfter (packets ++ packet ∷ []) new
unfolding taken
first_after packets stations packet link station new is hears none one =
    let longer : length (packets ++ packet ∷ []) ≡ length packets + 1 = length_push packets packet in
    let same : new.heard.station ≡ station = ap (λ (it : Heard). it.station) one.heard in
    let first : new.heard.first ≡ length packets + 1 = ap (λ (it : Heard). it.first) one.heard in
    let last : new.heard.last ≡ length packets + 1 = ap (λ (it : Heard). it.last) one.heard in
    let nothing : tape_after station packets ≡ Ok (nothing_known 65535) =
    ap without_number (strangers station 0 [] packets stations (nothing_known 65535) hears none) in
    record {
      first = (omega (arith, first), omega (arith, first, longer));
      last = (omega (arith, last), omega (arith, last, longer));
      first_time =
          one.first_time ∙ sym (time_last packets packet) ∙ ap (time_numbered (packets ++ packet ∷ [])) (sym first);
      last_time =
          one.last_time ∙ sym (time_last packets packet) ∙ ap (time_numbered (packets ++ packet ∷ [])) (sym last);
      listens =
          subst (λ (it : Station). IsListenerFor new.listener (tape_after it (packets ++ packet ∷ []))) (sym same)
          (subst (λ (it : Result Known AirFaultKind). IsListenerFor new.listener it)
          (sym (tape_more station packets packet (nothing_known 65535) nothing
          ∙ after_is station (nothing_known 65535) packet link is))
          one.listens);
    }

-- What is known of all of them

others_after : (P Q : SenderState → Type 0) (test : SenderState → Bool) →
    ((one : SenderState) → test one ≡ false → P one → Q one) → (list : List SenderState) →
    list_any test list ≡ false → AllByRecursion P list → AllByRecursion Q list
others_after P Q test turns [] none all = tt
others_after P Q test turns (one ∷ rest) none all = elim (cases_Bool (test one)) [
  | inl is ↦ absurd (cc (rw is at none))
  | inr isnt ↦ (turns one isnt all.0, others_after P Q test turns rest (rw isnt at none) all.1)
]

-- no two pass a test
OnceOnly : (SenderState → Bool) → List SenderState → Type 0
OnceOnly test [] = Unit {0}
OnceOnly test (one ∷ rest) = (test one ≡ true → list_any test rest ≡ false) × OnceOnly test rest

next_place : (place : Option ℕ) (there : ℕ) → option_map suc place ≡ Some there →
    (before : ℕ) × (place ≡ Some before) × (there ≡ suc before)
next_place None there is = cc
next_place (Some before) there is = let same : suc before ≡ there = cc in (before, refl, sym same)

placed_after : (P Q : SenderState → Type 0) (test : SenderState → Bool) →
    ((one : SenderState) → test one ≡ false → P one → Q one) → (list : List SenderState) (place : ℕ)
    (new : SenderState) → OnceOnly test list → position_from test 0 list ≡ Some place → AllByRecursion P list →
    (P (get_or list place new) → test (get_or list place new) ≡ true → Q new) →
    AllByRecursion Q (slice_set list place new)
unfolding OnceOnly
placed_after P Q test turns [] place new once is all becomes = cc
placed_after P Q test turns (one ∷ rest) place new once is all becomes = elim (cases_Bool (test one)) [
  | inl passes ↦
      let found : ◌≡◌ {A = Option ℕ} (Some 0) (Some place) = rw passes at is in
      let here : 0 ≡ place = cc in
      subst (λ n. AllByRecursion Q (slice_set (one ∷ rest) n new)) here (
        (subst (λ n. P (get_or (one ∷ rest) n new) → test (get_or (one ∷ rest) n new) ≡ true → Q new) (sym here)
            becomes) all.0 passes,
        others_after P Q test turns rest (once.0 passes) all.1,
      )
  | inr fails ↦
      let later : position_from test 1 rest ≡ Some place = rw fails at is in
      let there = next_place (position_from test 0 rest) place (sym (found_after test 0 1 refl rest) ∙ later) in
      subst (λ n. AllByRecursion Q (slice_set (one ∷ rest) n new)) (sym there.2) (
        turns one fails all.0,
        placed_after P Q test turns rest there.0 new once.1 there.1 all.1
            (subst (λ n. P (get_or (one ∷ rest) n new) → test (get_or (one ∷ rest) n new) ≡ true → Q new) there.2
            becomes),
      )
]

all_push : (P : SenderState → Type 0) (list : List SenderState) (one : SenderState) → AllByRecursion P list → P one →
    AllByRecursion P (list ++ one ∷ [])
all_push P [] one all is = (is, tt)
all_push P (first ∷ rest) one all is = (all.0, all_push P rest one all.1 is)

-- The senders of a table are apart

abbrev is_of : Station → SenderState → Bool
is_of station one = is_station station one.heard.station

abbrev station_of_one : SenderState → Station
station_of_one one = one.heard.station

any_station : (station : Station) (list : List SenderState) →
    list_any (is_of station) list ≡ list_any (is_station station) (map station_of_one list)
any_station station [] = refl
any_station station (one ∷ rest) = elim (cases_Bool (is_station station one.heard.station)) [
  | inl is ↦ rw is refl
  | inr isnt ↦ rw isnt (any_station station rest)
]

once_only : (station : Station) (list : List SenderState) → Apart (map station_of_one list) →
    OnceOnly (is_of station) list
unfolding OnceOnly Apart
once_only station [] apart = tt
once_only station (one ∷ rest) apart = (
  λ is.
      any_station station rest
      ∙ subst (λ (it : Station). list_any (is_station it) (map station_of_one rest) ≡ false)
      (sym (same_station station one.heard.station is)) apart.0,
  once_only station rest apart.1,
)

stations_mapped : (list : List SenderState) →
    map station_of_one list ≡ map (λ (it : Heard). it.station) (map (λ (one : SenderState). one.heard) list)
stations_mapped [] = refl
stations_mapped (one ∷ rest) = ap (λ it. one.heard.station ∷ it) (stations_mapped rest)

stations_heard : (packets : List (Option Station)) (list : List Station) →
    map (λ (it : Heard). it.station) (map (heard_of packets) list) ≡ list
stations_heard packets [] = refl
stations_heard packets (station ∷ rest) = ap (λ it. station ∷ it) (stations_heard packets rest)

-- a table's senders
pub stations_are : (stations : List (Option Station)) (list : List SenderState) →
    map (λ (one : SenderState). one.heard) list ≡ heard_in stations → map station_of_one list ≡ senders stations
stations_are stations list are =
    stations_mapped list ∙ ap (map (λ (it : Heard). it.station)) are ∙ stations_heard stations (senders stations)

place_mapped : (station : Station) (from : ℕ) (list : List SenderState) →
    position_from (λ (one : Heard). is_station station one.station) from
    (map (λ (one : SenderState). one.heard) list)
    ≡ position_from (is_of station) from list
place_mapped station from [] = refl
place_mapped station from (one ∷ rest) = elim (cases_Bool (is_station station one.heard.station)) [
  | inl is ↦ rw is refl
  | inr isnt ↦ rw isnt (place_mapped station (from + 1) rest)
]

place_is : (station : Station) (list : List SenderState) →
    place_of station (map (λ (one : SenderState). one.heard) list) ≡ place_among station list
place_is station list =
    position_from-zero (λ (one : Heard). is_station station one.station)
    (map (λ (one : SenderState). one.heard) list)
    ∙ place_mapped station 0 list ∙ sym (position_from-zero (is_of station) list)

within : (test : SenderState → Bool) (list : List SenderState) (place : ℕ) →
    position_from test 0 list ≡ Some place → place < length list
within test [] place is = cc
within test (one ∷ rest) place is = elim (cases_Bool (test one)) [
  | inl passes ↦
      let found : ◌≡◌ {A = Option ℕ} (Some 0) (Some place) = rw passes at is in
      let here : 0 ≡ place = cc in
      omega (arith, here)
  | inr fails ↦
      let later : position_from test 1 rest ≡ Some place = rw fails at is in
      let there = next_place (position_from test 0 rest) place (sym (found_after test 0 1 refl rest) ∙ later) in
      omega (arith, there.2, within test rest there.0 there.1)
]

get_heard : (list : List SenderState) (place : ℕ) (new : SenderState) (heard : Heard) → place < length list →
    get_or (map (λ (one : SenderState). one.heard) list) place heard ≡ (get_or list place new).heard
get_heard [] place new heard inside = absurd (omega (arith, inside))
get_heard (one ∷ rest) zero new heard inside = refl
get_heard (one ∷ rest) (suc place) new heard inside = get_heard rest place new heard (omega (arith, inside))

many_by : (number : ℕ) (before : List (Option Station)) (packet : Packet) (packets : List Packet)
    (all : List (Option Station)) (link : Option Link) →
    after_packets hear number (with_packet before packet link) packets ≡ Ok all →
    ((next : List (Option Station)) → after_packets hear number (Ok next) packets ≡ Ok all →
    length all ≡ length next + length packets) →
    length all ≡ length before + length (packet ∷ packets)
many_by number before packet packets all None is onward =
    absurd (failed hear number (kind.OtherLink packet.link) packets all is)
many_by number before packet packets all (Some link) is onward =
    let sent : Option Station = station_in link packet.octets in
    omega (arith, onward (before ++ sent ∷ []) is, length_push before sent)

-- of each packet it is known whose block it carries
pub many_stations : (number : ℕ) (before : List (Option Station)) (packets : List Packet)
    (all : List (Option Station)) → after_packets hear number (Ok before) packets ≡ Ok all →
    length all ≡ length before + length packets
unfolding hear
many_stations number before [] all is =
    let same : before ≡ all = cc in
    ap length (sym same) ∙ omega arith
many_stations number before (packet ∷ packets) all is =
    many_by (number + 1) before packet packets all (link_numbered packet.link) is
    (λ next goes. many_stations (number + 1) next packets all goes)

-- The table after one packet more

all_others : (P Q : SenderState → Type 0) → ((one : SenderState) → P one → Q one) → (list : List SenderState) →
    AllByRecursion P list → AllByRecursion Q list
all_others P Q turns [] all = tt
all_others P Q turns (one ∷ rest) all = (turns one all.0, all_others P Q turns rest all.1)

unplaced : (test : SenderState → Bool) (list : List SenderState) → position_from test 0 list ≡ None →
    list_any test list ≡ false
unplaced test list is = elim (cases_Bool (list_any test list)) [
  | inl any ↦
      let found : is_some (position_from test 0 list) ≡ true = some_found test 0 list any in
      absurd (cc (rw is at found))
  | inr none ↦ none
]

-- it carries no block
pub unheard_after : (packets : List Packet) (stations : List (Option Station)) (list : List SenderState)
    (packet : Packet) (link : Link) → link_numbered packet.link ≡ Some link →
    station_in link packet.octets ≡ None → length stations < 2 ^ 63 → AreSendersAfter packets stations list →
    AreSendersAfter (packets ++ packet ∷ []) (stations ++ None ∷ []) list
unheard_after packets stations list packet link is none few known = record {
  heard = known.heard ∙ packet_counted stations None few;
  each = all_others (IsSenderAfter packets) (IsSenderAfter (packets ++ packet ∷ []))
      (λ one known.
      other_after packets packet link one is
      (ap (is_sent_by one.heard.station) none) known) list known.each;
}

-- it carries a block of this sender
pub heard_after : (packets : List Packet) (stations : List (Option Station)) (old new : List SenderState)
    (packet : Packet) (link : Link) (station : Station) (place : Option ℕ) →
    link_numbered packet.link ≡ Some link → station_in link packet.octets ≡ Some station →
    taken for_hearing packets ≡ Ok stations → length stations ≡ length packets → length stations < 2 ^ 63 →
    place_among station old ≡ place →
    HearAt (length packets + 1) station packet.time (sent_in link (from_of station) packet.octets) old new place →
    AreSendersAfter packets stations old → AreSendersAfter (packets ++ packet ∷ []) (stations ++ Some station ∷ []) new
heard_after packets stations old new packet link station None is sent hears many few at heard known =
    let none : list_any (is_of station) old ≡ false =
    unplaced (is_of station) old (sym (position_from-zero (is_of station) old) ∙ at) in
    let unknown : list_any (is_sent_by station) stations ≡ false =
    is_known station stations ∙ ap (list_any (is_station station)) (sym (stations_are stations old known.heard))
    ∙ sym (any_station station old) ∙ none in
    record {
      heard =
          ap (map (λ (one : SenderState). one.heard)) heard.2
          ∙ map-append (λ (one : SenderState). one.heard) old (heard.0 ∷ [])
          ∙ ap (λ it. map (λ (one : SenderState). one.heard) old ++ it ∷ []) heard.1.heard
          ∙ ap (λ it. it ++ newly_heard (length packets + 1) station ∷ []) known.heard
          ∙ sym (ap (heard_at (length packets + 1) (heard_in stations) station)
          (ap (place_of station) (sym known.heard) ∙ place_is station old ∙ at))
          ∙ ap (λ n. with_sender (n + 1) (heard_in stations) (Some station)) (sym many)
          ∙ packet_counted stations (Some station) few;
      each =
          subst (λ (it : List SenderState). AllByRecursion (IsSenderAfter (packets ++ packet ∷ [])) it) (sym heard.2)
          (all_push (IsSenderAfter (packets ++ packet ∷ [])) old heard.0
          (others_after (IsSenderAfter packets) (IsSenderAfter (packets ++ packet ∷ [])) (is_of station)
          (λ one other known.
          other_after packets packet link one is
          (ap (is_sent_by one.heard.station) sent ∙ isnt_either station one.heard.station other) known)
          old none known.each)
          (first_after packets stations packet link station heard.0 is hears unknown heard.1));
    }
heard_after packets stations old new packet link station (Some place) is sent hears many few at heard known =
    let found : position_from (is_of station) 0 old ≡ Some place =
    sym (position_from-zero (is_of station) old) ∙ at in
    let inside : place < length old = within (is_of station) old place found in
    let one : SenderState = heard.0 in
    let rows : List Heard = map (λ (one : SenderState). one.heard) old in
    record {
      heard =
          ap (map (λ (one : SenderState). one.heard)) heard.2
          ∙ map-set (λ (one : SenderState). one.heard) old place one
          ∙ ap (slice_set rows place)
          (heard.1.heard
          ∙ ap (heard_again (length packets + 1))
          (sym (get_heard old place one (newly_heard (length packets + 1) station) inside)))
          ∙ ap (λ it. heard_at (length packets + 1) it station (Some place)) known.heard
          ∙ sym (ap (heard_at (length packets + 1) (heard_in stations) station)
          (ap (place_of station) (sym known.heard) ∙ place_is station old ∙ at))
          ∙ ap (λ n. with_sender (n + 1) (heard_in stations) (Some station)) (sym many)
          ∙ packet_counted stations (Some station) few;
      each =
          subst (λ (it : List SenderState). AllByRecursion (IsSenderAfter (packets ++ packet ∷ [])) it) (sym heard.2)
          (placed_after (IsSenderAfter packets) (IsSenderAfter (packets ++ packet ∷ [])) (is_of station)
          (λ one other known.
          other_after packets packet link one is
          (ap (is_sent_by one.heard.station) sent ∙ isnt_either station one.heard.station other) known)
          old place one
          (once_only station old
          (subst (λ (it : List Station). Apart it) (sym (stations_are stations old known.heard))
          (apart_senders stations)))
          found known.each
          (λ before passes.
          own_after packets packet link (get_or old place one) one is
          (subst (λ (it : Station). IsHeardAgain (length packets + 1) packet.time
          (sent_in link (from_of it) packet.octets) (get_or old place one) one)
          (same_station station (get_or old place one).heard.station passes) heard.1)
          before));
    }
