-- The rows of senders that were heard in all packets of a file are those of the file.
use Rattle.std.proofs.Common.{◌≡◌, ◌≢◌, ℕ, zero, suc, ◌+◌, ◌-◌, ◌*◌, ◌<◌, ◌≤◌, ◌^◌, List, [], ◌∷◌, ◌++◌, length, map}
use Rattle.std.proofs.Common.{get_or, refl, sym, ap, ◌∙◌, subst, inl, inr, arith, append-nil, append_assoc, Option}
use Rattle.std.proofs.Common.{Some, None, Result, Ok, Err}
use Rattle.std.proofs.Common.{slice_get}
use Rattle.std.specs.List.{AllByRecursion}
use Rattle.std.specs.Option.{option_and_then, option_map}
use Rattle.gsmtap.specs.Carried.{IsUncarried, Summary, summary_of, wanted_of}
use Rattle.gsmtap.specs.File.{Packet, link_numbered}
use Rattle.gsmtap.specs.Heard.{for_hearing, hear, station_in, with_packet}
use Rattle.gsmtap.specs.Section.{Section}
use Rattle.gsmtap.specs.Senders.{AreRowsIn, CarriesIn, HaveAll, IsRowIn}
use Rattle.gsmtap.specs.SendersSteps.{AreRowsAfter, AreRowsOf, AreSendersAfter, CanListen, CarriesAfter, HaveHeard}
use Rattle.gsmtap.specs.SendersSteps.{IsCarriedFor, IsListenerFor, IsRowAfter, IsRowOf, IsSenderAfter, tape_after}
use Rattle.gsmtap.specs.SendersSteps.{Hear, HearsPacket, place_among, time_numbered}
use Rattle.gsmtap.specs.Taken.{AreTaken, Opens, Taking, after_packets, taken}
use Rattle.gsmtap.specs.Tap.{sent_in}
use Rattle.gsmtap.specs.TapeOfCapture.{after_packet, for_tape, nothing_known}
use Rattle.gsmtap.specs.TapeSteps.{IsBlockKind, last_slot}
use Rattle.gsmtap.specs.Times.{for_times, with_time}
use Rattle.gsmtap.specs.Track.{Known}
use Rattle.gsmtap.specs.declared.carried.Carried.{Carried}
use Rattle.gsmtap.specs.declared.fault.AirFault.{AirFault}
use Rattle.gsmtap.specs.declared.fault.AirFaultKind.{AirFaultKind}
use Rattle.gsmtap.specs.declared.fault.AirFaultKind.TheVariants as kind
use Rattle.gsmtap.specs.declared.file.Link.{Link}
use Rattle.gsmtap.specs.declared.heard.Heard.{Heard}
use Rattle.gsmtap.specs.declared.listener.Listener.{Listener}
use Rattle.gsmtap.specs.declared.sender_table.SenderRow.{SenderRow}
use Rattle.gsmtap.specs.declared.sender_table.SenderState.{SenderState}
use Rattle.gsmtap.specs.declared.sender_table.SenderTable.{SenderTable}
use Rattle.gsmtap.specs.declared.tap.Station.{Station}
use Rattle.gsmtap.specs.declared.tape.Sender.{Sender}
use Rattle.gsmtap.proofs.SendersAfter.{heard_after, is_right, is_wrong, many_stations, unheard_after}
use Rattle.gsmtap.proofs.Strangers.{failed}
use Rattle.gsmtap.proofs.TapesLaws.{moves, result_cases, with_state}
use Rattle.gsmtap.proofs.Walks.{few_begin, opens_short}
use Rattle.gsmtap.proofs.Within.{wrong_within}

-- So few packets are heard that slots can be counted

near_packets : (from : Sender) (number : ℕ) (known last : Known) (packets : List Packet) →
    after_packets (after_packet from) number (Ok known) packets ≡ Ok last →
    last_slot last.track ≤ last_slot known.track + 3328 * length packets
near_packets from number known last [] is =
    let same : known ≡ last = cc in
    let here : last_slot last.track ≡ last_slot known.track = ap (λ (it : Known). last_slot it.track) (sym same) in
    omega (arith, here)
near_packets from number known last (packet ∷ packets) is = elim (result_cases (after_packet from known packet)) [
  | inl some ↦
      let rest : last_slot last.track ≤ last_slot some.0.track + 3328 * length packets =
      near_packets from (number + 1) some.0 last packets
      (with_state (after_packet from) (number + 1) packets _ _ _ some.1 is) in
      omega (arith, rest, (moves from known some.0 packet some.1).near)
  | inr none ↦
      absurd (failed (after_packet from) (number + 1) none.0 packets last
      (with_state (after_packet from) (number + 1) packets _ _ _ none.1 is))
]

listener_can : (station : Station) (packets : List Packet) (listener : Option Listener)
    (result : Result Known AirFaultKind) → tape_after station packets ≡ result → IsListenerFor listener result →
    length packets < 2 ^ 46 → CanListen listener
unfolding taken
listener_can station packets None result comes is few = tt
listener_can station packets (Some listener) (Err why) comes is few = absurd is
listener_can station packets (Some listener) (Ok known) comes is few =
    let near : last_slot known.track ≤ 0 + 3328 * length packets =
    near_packets (wanted_of station).from 0 (nothing_known 65535) known packets
    (is_right (taken (for_tape (wanted_of station)) packets) known comes) in
    (known, is, omega (arith, near, few))

all_can : (packets : List Packet) (senders : List SenderState) → length packets < 2 ^ 46 →
    AllByRecursion (IsSenderAfter packets) senders → (place : ℕ) (default : SenderState) → place < length senders →
    CanListen (get_or senders place default).listener
all_can packets [] few all place default inside = absurd (omega (arith, inside))
all_can packets (one ∷ rest) few all zero default inside =
    listener_can one.heard.station packets one.listener (tape_after one.heard.station packets) refl all.0.listens few
all_can packets (one ∷ rest) few all (suc place) default inside =
    all_can packets rest few all.1 place default (omega (arith, inside))

-- each sender can be listened to
pub have_heard_can : (packets : List Packet) (senders : List SenderState) → length packets < 2 ^ 46 →
    HaveHeard packets senders → (place : ℕ) (default : SenderState) → place < length senders →
    CanListen (get_or senders place default).listener
have_heard_can packets senders few heard = all_can packets senders few heard.2.each

-- The rows of senders

carried_after : (station : Station) (packets : List Packet) (listener : Option Listener) (carried : Option Carried)
    (result : Result Known AirFaultKind) → tape_after station packets ≡ result → IsListenerFor listener result →
    IsCarriedFor listener carried → CarriesAfter station packets (option_map summary_of carried)
carried_after station packets None None (Ok known) comes is row = absurd is
carried_after station packets None None (Err why) comes is row =
    let wrong = is_wrong (taken (for_tape (wanted_of station)) packets) why comes in
    (wrong.0, wrong.1, subst (λ (it : AirFaultKind). IsBlockKind it) (sym wrong.2) is)
carried_after station packets None (Some carried) result comes is row = absurd row
carried_after station packets (Some listener) None result comes is row = absurd row
carried_after station packets (Some listener) (Some carried) (Err why) comes is row = absurd is
carried_after station packets (Some listener) (Some carried) (Ok known) comes is row =
    (known, is_right (taken (for_tape (wanted_of station)) packets) known comes, row known is)

row_after : (packets : List Packet) (sender : SenderState) (row : SenderRow) → IsSenderAfter packets sender →
    IsRowOf sender row → IsRowAfter packets row
row_after packets sender row known is = record {
  first_time =
      is.first_time ∙ known.first_time ∙ ap (λ (it : Heard). time_numbered packets it.first) (sym is.heard);
  last_time = is.last_time ∙ known.last_time ∙ ap (λ (it : Heard). time_numbered packets it.last) (sym is.heard);
  carries =
      subst (λ (it : Heard). CarriesAfter it.station packets (option_map summary_of row.carried)) (sym is.heard)
      (carried_after sender.heard.station packets sender.listener row.carried
      (tape_after sender.heard.station packets) refl known.listens is.carried);
}

rows_each : (packets : List Packet) (senders : List SenderState) (rows : List SenderRow) →
    AllByRecursion (IsSenderAfter packets) senders → AreRowsOf senders rows → AllByRecursion (IsRowAfter packets) rows
rows_each packets [] [] known are = tt
rows_each packets [] (row ∷ rows) known are = absurd are
rows_each packets (sender ∷ senders) [] known are = absurd are
rows_each packets (sender ∷ senders) (row ∷ rows) known are =
    (row_after packets sender row known.0 are.0, rows_each packets senders rows known.1 are.1)

rows_heard : (senders : List SenderState) (rows : List SenderRow) → AreRowsOf senders rows →
    map (λ (row : SenderRow). row.heard) rows ≡ map (λ (one : SenderState). one.heard) senders
rows_heard [] [] are = refl
rows_heard [] (row ∷ rows) are = absurd are
rows_heard (sender ∷ senders) [] are = absurd are
rows_heard (sender ∷ senders) (row ∷ rows) are =
    ap (λ it. it ∷ map (λ (row : SenderRow). row.heard) rows) are.0.heard
    ∙ ap (λ it. sender.heard ∷ it) (rows_heard senders rows are.1)

-- after some packets
pub rows_after : (packets : List Packet) (stations : List (Option Station)) (senders : List SenderState)
    (rows : List SenderRow) → AreSendersAfter packets stations senders → AreRowsOf senders rows →
    AreRowsAfter packets stations rows
rows_after packets stations senders rows known are = record {
  heard = rows_heard senders rows are ∙ known.heard;
  each = rows_each packets senders rows known.each are;
}

-- one row more
pub rows_more : (senders : List SenderState) (rows : List SenderRow) (sender : SenderState) (row : SenderRow) →
    AreRowsOf senders rows → IsRowOf sender row → AreRowsOf (senders ++ sender ∷ []) (rows ++ row ∷ [])
rows_more [] [] sender row are is = (is, tt)
rows_more [] (other ∷ rows) sender row are is = absurd are
rows_more (one ∷ senders) [] sender row are is = absurd are
rows_more (one ∷ senders) (other ∷ rows) sender row are is = (are.0, rows_more senders rows sender row are.1 is)

-- When packets came

times_taken : (number : ℕ) (before : List (Option ℕ)) (packets : List Packet) →
    after_packets with_time number (Ok before) packets ≡ Ok (before ++ map (λ (it : Packet). it.time) packets)
unfolding with_time
times_taken number before [] = ap Ok (sym (append-nil before))
times_taken number before (packet ∷ packets) =
    times_taken (number + 1) (before ++ packet.time ∷ []) packets
    ∙ ap Ok (append_assoc before (packet.time ∷ []) (map (λ (it : Packet). it.time) packets))

time_mapped : (packets : List Packet) (place : ℕ) →
    option_and_then (λ time. time) (slice_get (map (λ (it : Packet). it.time) packets) place)
    ≡ option_and_then (λ (it : Packet). it.time) (slice_get packets place)
time_mapped [] place = refl
time_mapped (packet ∷ packets) zero = refl
time_mapped (packet ∷ packets) (suc place) = time_mapped packets place

-- The rows of a file

-- what its packets were taken for, they are taken for anything
pub taken_for : {S T : Type 0} (one : Taking S) (other : Taking T) (here : Section) (octets : List ℕ)
    (there : Section) (number : ℕ) (known : S) (new : T) (are : AreTaken one here octets there [] number known) →
    taken other are.packets ≡ Ok new → AreTaken other here octets there [] number new
taken_for one other here octets there number known new are is = record {
  pieces = are.pieces;
  packets = are.packets;
  split = are.split;
  bring = are.bring;
  many = are.many;
  are_taken = is;
}

wrong_kind : (station : Station) (input : List ℕ) (here : Section) (after : List ℕ) (there : Section) (number : ℕ)
    (known : List (Option Station)) (fault : AirFault) (why : AirFaultKind) → fault.kind ≡ why →
    Opens input here after → (are : AreTaken for_hearing here after there [] number known) →
    taken (for_tape (wanted_of station)) are.packets ≡ Err fault → IsBlockKind why →
    IsUncarried station input (record { packet = fault.packet; kind = why })
wrong_kind station input here after there number known fault kind.NoCapture is opens are wrong of_kind = absurd of_kind
wrong_kind station input here after there number known fault (kind.OtherLink other) is opens are wrong of_kind =
    absurd of_kind
wrong_kind station input here after there number known fault kind.Short is opens are wrong of_kind = absurd of_kind
wrong_kind station input here after there number known fault kind.WrongBlock is opens are wrong of_kind =
    absurd of_kind
wrong_kind station input here after there number known fault kind.Differs is opens are wrong of_kind = record {
  here = here;
  after = after;
  opens = opens;
  so =
      wrong_within (for_tape (wanted_of station)) here after are.pieces [] there are.packets
      (record { packet = fault.packet; kind = kind.Differs }) are.split are.bring
      (wrong ∙ ap (λ (it : AirFaultKind). Err (record { packet = fault.packet; kind = it })) is);
}
wrong_kind station input here after there number known fault kind.StepsBack is opens are wrong of_kind = record {
  here = here;
  after = after;
  opens = opens;
  so =
      wrong_within (for_tape (wanted_of station)) here after are.pieces [] there are.packets
      (record { packet = fault.packet; kind = kind.StepsBack }) are.split are.bring
      (wrong ∙ ap (λ (it : AirFaultKind). Err (record { packet = fault.packet; kind = it })) is);
}
wrong_kind station input here after there number known fault kind.NoBlock is opens are wrong of_kind = absurd of_kind
wrong_kind station input here after there number known fault kind.Refused is opens are wrong of_kind = absurd of_kind

not_refused : (why : AirFaultKind) → IsBlockKind why → why ≢ kind.Refused
not_refused why of_kind same = subst (λ (it : AirFaultKind). IsBlockKind it) same of_kind

carries_in : (station : Station) (input : List ℕ) (here : Section) (after : List ℕ) (there : Section) (number : ℕ)
    (known : List (Option Station)) (carried : Option Summary) → Opens input here after →
    (are : AreTaken for_hearing here after there [] number known) → CarriesAfter station are.packets carried →
    CarriesIn input station carried
carries_in station input here after there number known None opens are carries = (
  record { packet = carries.0.packet; kind = carries.0.kind },
  wrong_kind station input here after there number known carries.0 carries.0.kind refl opens are carries.1 carries.2,
  not_refused carries.0.kind carries.2,
)
carries_in station input here after there number known (Some summary) opens are carries = record {
  known = carries.0;
  file = record {
    here = here;
    after = after;
    opens = opens;
    so = record {
      there = there;
      number = number;
      are =
          taken_for for_hearing (for_tape (wanted_of station)) here after there number known carries.0 are carries.1;
    };
  };
  summary_is = carries.2;
}

each_in : (input : List ℕ) (here : Section) (after : List ℕ) (there : Section) (number : ℕ)
    (known : List (Option Station)) (rows : List SenderRow) → Opens input here after →
    (are : AreTaken for_hearing here after there [] number known) → AllByRecursion (IsRowAfter are.packets) rows →
    AllByRecursion (IsRowIn input (map (λ (it : Packet). it.time) are.packets)) rows
each_in input here after there number known [] opens are all = tt
each_in input here after there number known (row ∷ rows) opens are all = (
  record {
    first_time = all.0.first_time ∙ sym (time_mapped are.packets (row.heard.first - 1));
    last_time = all.0.last_time ∙ sym (time_mapped are.packets (row.heard.last - 1));
    carries =
        carries_in row.heard.station input here after there number known (option_map summary_of row.carried) opens are
        all.0.carries;
  },
  each_in input here after there number known rows opens are all.1,
)

-- after all of its packets
pub rows_in : (input : List ℕ) (here : Section) (after : List ℕ) (there : Section) (number : ℕ)
    (known : List (Option Station)) (rows : List SenderRow) → Opens input here after →
    (are : AreTaken for_hearing here after there [] number known) → AreRowsAfter are.packets known rows →
    AreRowsIn input rows
unfolding taken
rows_in input here after there number known rows opens are is = record {
  heard = record {
    packets = known;
    file = record {
      here = here;
      after = after;
      opens = opens;
      so = record { there = there; number = number; are = are };
    };
    senders_are = is.heard;
  };
  times = map (λ (it : Packet). it.time) are.packets;
  times_are = record {
    here = here;
    after = after;
    opens = opens;
    so = record {
      there = there;
      number = number;
      are =
          taken_for for_hearing for_times here after there number known (map (λ (it : Packet). it.time) are.packets) are
          (times_taken 0 [] are.packets);
    };
  };
  each = each_in input here after there number known rows opens are is.each;
}

-- A packet more

hears_as : (stations : List (Option Station)) (packet : Packet) (link : Link) → link_numbered packet.link ≡ Some link →
    hear stations packet ≡ Ok (stations ++ station_in link packet.octets ∷ [])
unfolding hear
hears_as stations packet link is = ap (with_packet stations packet) is

-- of no block
pub hears_none : (number : ℕ) (packet : Packet) (link : Link) (list : List SenderState) →
    link_numbered packet.link ≡ Some link → station_in link packet.octets ≡ None → HearsPacket number packet list list
unfolding taken
hears_none number packet link list is none packets stations numbered few comes known =
    let many : length stations ≡ 0 + length packets = many_stations 0 [] packets stations comes in (
      stations ++ None ∷ [],
      hears_as stations packet link is ∙ ap (λ it. Ok (stations ++ it ∷ [])) none,
      unheard_after packets stations list packet link is none (omega (arith, many, numbered, few)) known,
    )

-- of a block
pub hears_one : (number : ℕ) (packet : Packet) (link : Link) (station : Station) (old new : List SenderState) →
    link_numbered packet.link ≡ Some link → station_in link packet.octets ≡ Some station →
    Hear number station packet.time (sent_in link (wanted_of station).from packet.octets) old new →
    HearsPacket number packet old new
unfolding taken
hears_one number packet link station old new is sent heard packets stations numbered few comes known =
    let many : length stations ≡ 0 + length packets = many_stations 0 [] packets stations comes in
    let same : length stations ≡ length packets = omega (arith, many) in (
      stations ++ Some station ∷ [],
      hears_as stations packet link is ∙ ap (λ it. Ok (stations ++ it ∷ [])) sent,
      heard_after packets stations old new packet link station (place_among station old) is sent comes same
          (omega (arith, many, numbered, few)) refl
          (subst (λ n. Hear n station packet.time (sent_in link (wanted_of station).from packet.octets) old new)
          (sym numbered) heard)
          known,
    )

-- of a link type that isn't known
pub hears_not : (stations : List (Option Station)) (packet : Packet) → link_numbered packet.link ≡ None →
    hear stations packet ≡ Err (kind.OtherLink packet.link)
unfolding hear
hears_not stations packet is = ap (with_packet stations packet) is

-- the rows of senders that have all packets of a file
pub rows_all : (input : List ℕ) (senders : SenderTable) (rows : List SenderRow) → HaveAll input senders →
    AreRowsOf senders.list.items rows → AreRowsIn input rows
rows_all input senders rows all are =
    let taken_all : AreTaken for_hearing all.here all.after all.there [] (length all.packets) all.has.0 = record {
      pieces = all.begin.pieces;
      packets = all.packets;
      split = all.begin.split;
      bring = all.begin.bring;
      many = refl;
      are_taken = all.has.1;
    } in
    rows_in input all.here all.after all.there (length all.packets) all.has.0 rows all.opens taken_all
    (rows_after all.packets all.has.0 senders.list.items rows all.has.2 are)

-- the packets of a file can be counted
pub few_all : (input : List ℕ) (senders : SenderTable) (all : HaveAll input senders) → length input < 2 ^ 48 →
    length all.packets < 2 ^ 46
few_all input senders all few =
    omega (
      arith,
      few,
      opens_short input all.here all.after all.opens,
      few_begin all.here all.after all.there [] all.packets all.begin,
    )

-- what packets come to is one thing
pub one_state : (known other : List (Option Station)) →
    ◌≡◌ {A = Result (List (Option Station)) AirFault} (Ok known) (Ok other) → known ≡ other
one_state known other is = cc

-- Before the first packet

nothing_taken : taken for_hearing [] ≡ Ok []
unfolding taken
nothing_taken = refl

-- nobody was heard
pub none_heard : (senders : List SenderState) → senders ≡ [] → HaveHeard [] senders
none_heard senders is = subst (λ (it : List SenderState). HaveHeard [] it) (sym is) (
  [],
  nothing_taken,
  record { heard = refl; each = tt },
)
