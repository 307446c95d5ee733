-- A walk over a capture file that comes in parts: what is known of octets stays so with more after them.
use Rattle.std.proofs.Common.{◌≡◌, ℕ, ◌+◌, ◌-◌, ◌*◌, ◌<◌, ◌≤◌, List, [], ◌∷◌, ◌++◌, length, take, drop, refl}
use Rattle.std.proofs.Common.{sym, ap, ◌∙◌, subst, inl, inr, arith, append_assoc, append-nil, Bool, false, true}
use Rattle.std.proofs.Common.{Option, Some, None, Ok, Err}
use Rattle.std.specs.Prelude.{◌==◌, ◌&&◌, nat_le}
use Rattle.std.specs.List.{flat_map}
use Rattle.std.proofs.Math.Seq.{drop-append_seam, take-append_seam}
use Rattle.std.proofs.lemmas.Bool.{le-leb, leb-true}
use Rattle.std.proofs.lemmas.List.{length-append, length_push, take-append-le}
use Rattle.byteorder.specs.Endian.{big_number}
use Rattle.byteorder.specs.Numbers.{big_from-take}
use Rattle.gsmtap.specs.File.{Packet, is_pcapng, link_number, octet_order_of}
use Rattle.gsmtap.specs.PieceSteps.{BeginsWithPiece, meant, packet_of, section_of}
use Rattle.gsmtap.specs.Pieces.{BeginWithPackets, BringAll, HasWrongHead, IsCutPiece, IsWrongPiece, packets_in}
use Rattle.gsmtap.specs.Pieces.{meaning, piece_length}
use Rattle.gsmtap.specs.Section.{Section}
use Rattle.gsmtap.specs.Taken.{AreTaken, ComesTo, IsFileFault, Opens, Taking, taken}
use Rattle.gsmtap.specs.Taker.{HasTakenAll, IsAfter, IsTakingFault, TakesFound}
use Rattle.gsmtap.specs.TapeSteps.{IsBeginFault, IsFoundKind, after_found, count_of}
use Rattle.gsmtap.specs.Walk.{AreLeft, IsLastingFault, HaveNoPiece, IsUnopened, IsWalkOf, StandsAt}
use Rattle.gsmtap.specs.WalkSteps.{IsToOpen, IsToTake}
use Rattle.gsmtap.specs.declared.fault.AirFault.{AirFault}
use Rattle.gsmtap.specs.declared.fault.AirFaultKind.{AirFaultKind}
use Rattle.gsmtap.specs.declared.fault.AirFaultKind.TheVariants as kind
use Rattle.gsmtap.specs.declared.frontier.Frontier.{Frontier}
use Rattle.gsmtap.specs.declared.pieces.Found.{Found}
use Rattle.gsmtap.specs.declared.pieces.Found.TheVariants as found
use Rattle.gsmtap.specs.declared.walk.WalkStage.{WalkStage}
use Rattle.gsmtap.specs.declared.walk.WalkStage.TheVariants as stage
use Rattle.gsmtap.specs.declared.walk.Walk.{Walk}
use Rattle.gsmtap.proofs.PacketSteps.{brought_more, fault_of_begin, fault_of_pieces, least_is, taken_next, taken_of}
use Rattle.gsmtap.proofs.PacketSteps.{wrong_found, wrong_front}
use Rattle.gsmtap.proofs.PieceSteps.{length-front}

-- octets that go on as they begin
longer : (front rest more octets : List ℕ) → octets ≡ front ++ rest →
    octets ++ more ≡ front ++ (rest ++ more)
longer front rest more octets split = ap (λ it. it ++ more) split ∙ append_assoc front rest more

-- a piece at their front stays there
pub begins_longer : (section : Section) (octets piece rest more : List ℕ) →
    BeginsWithPiece section octets piece rest → BeginsWithPiece section (octets ++ more) piece (rest ++ more)
begins_longer section octets piece rest more begins = record {
  is = begins.is;
  split = longer piece rest more octets begins.split;
}

-- and what they bring they bring as well
brought_longer : (here : Section) (octets : List ℕ) (there : Section) (left : List ℕ) (packets : List Packet)
    (more : List ℕ) → BeginWithPackets here octets there left packets →
    BeginWithPackets here (octets ++ more) there (left ++ more) packets
brought_longer here octets there left packets more begin = record {
  pieces = begin.pieces;
  split = longer (flat_map (λ piece. piece) begin.pieces) left more octets begin.split;
  bring = begin.bring;
}

-- what a file is doesn't change once it is known
pcapng-longer : (octets more : List ℕ) → 4 ≤ length octets → is_pcapng (octets ++ more) ≡ is_pcapng octets
pcapng-longer octets more enough =
    let long : 4 ≤ length (octets ++ more) = omega (arith, length-append octets more, enough) in
    let same : big_number 4 (octets ++ more) ≡ big_number 4 octets =
    sym (big_from-take 0 4 (length octets) (octets ++ more) (omega (arith, enough)))
    ∙ ap (big_number 4) (take-append_seam octets more) in
    rw same (rw (le-leb 4 (length (octets ++ more)) long) (rw (le-leb 4 (length octets) enough) refl))

enough_of : (long begins : Bool) → long && begins ≡ true → long ≡ true
enough_of true begins is = refl
enough_of false begins is = cc

pcapng_long : (octets : List ℕ) → is_pcapng octets ≡ true → 4 ≤ length octets
pcapng_long octets is =
    leb-true 4 (length octets) (enough_of (nat_le 4 (length octets)) (big_number 4 octets == 0x0A0D0D0A) is)

-- so a file stays what it is
pub opens_longer : (input : List ℕ) (here : Section) (after more : List ℕ) → Opens input here after →
    Opens (input ++ more) here (after ++ more)
opens_longer input here after more opens = elim opens [
  | inl classic ↦ inl (record {
    header = classic.header;
    split = longer classic.header after more input classic.split;
    long = classic.long;
    order = classic.order;
    order_is = classic.order_is;
    link = classic.link;
    link_is = classic.link_is;
    section_is = classic.section_is;
  })
  | inr blocks ↦ inr (record {
    begins = pcapng-longer input more (pcapng_long input blocks.begins) ∙ blocks.begins;
    rest_is = ap (λ it. it ++ more) blocks.rest_is;
    section_is = blocks.section_is;
  })
]

-- what stands after the begin of a file is no longer than it
pub opens_short : (input : List ℕ) (here : Section) (after : List ℕ) → Opens input here after →
    length after ≤ length input
opens_short input here after opens = elim opens [
  | inl classic ↦
      omega (arith, ap length classic.split ∙ length-append classic.header after)
  | inr blocks ↦ omega (arith, ap length blocks.rest_is)
]

-- a wrong piece stays one
head_longer : (section : Section) (octets more : List ℕ) → HasWrongHead section octets →
    HasWrongHead section (octets ++ more)
head_longer section octets more wrong =
    let inside : length octets ≤ length (octets ++ more) = omega (arith, length-append octets more) in
    record {
      long = omega (arith, inside, wrong.long);
      unknown =
          sym (length-front section.format section.order (length octets) (octets ++ more) wrong.long inside)
          ∙ ap (piece_length section) (take-append_seam octets more) ∙ wrong.unknown;
    }

wrong_longer : (section : Section) (octets more : List ℕ) → IsWrongPiece section octets →
    IsWrongPiece section (octets ++ more)
wrong_longer section octets more wrong = elim wrong [
  | inl head ↦ inl (head_longer section octets more head)
  | inr body ↦ inr (record {
    piece = body.piece;
    rest = body.rest ++ more;
    split = longer body.piece body.rest more octets body.split;
    is = body.is;
    brings_none = body.brings_none;
  })
]

-- each packet has a piece of its own, of twelve octets at least
one_at_most : (packet : Option Packet) → length (packets_in packet) ≤ 1
one_at_most None = omega arith
one_at_most (Some packet) = omega arith

few_brought : (here : Section) (pieces : List (List ℕ)) (there : Section) (packets : List Packet) →
    BringAll here pieces there packets → 12 * length packets ≤ length (flat_map (λ piece. piece) pieces)
few_brought here [] there packets all = omega (arith, ap length all.1)
few_brought here (piece ∷ pieces) there packets all =
    let others : 12 * length all.1 ≤ length (flat_map (λ it. it) pieces) =
    few_brought all.0.section pieces there all.1 all.4 in
    let many : length packets ≡ length (packets_in all.0.packet) + length all.1 =
    ap length all.3 ∙ length-append (packets_in all.0.packet) all.1 in
    let whole : length (piece ++ flat_map (λ it. it) pieces)
    ≡ length piece + length (flat_map (λ it. it) pieces) = length-append piece (flat_map (λ it. it) pieces) in
    omega (arith, others, many, whole, one_at_most all.0.packet, least_is here.format, all.2.is.long)

-- so the packets that octets begin with are few
pub few_begin : (here : Section) (octets : List ℕ) (there : Section) (left : List ℕ) (packets : List Packet) →
    BeginWithPackets here octets there left packets → 12 * length packets + length left ≤ length octets
few_begin here octets there left packets begin =
    let whole : length octets ≡ length (flat_map (λ piece. piece) begin.pieces) + length left =
    ap length begin.split ∙ length-append (flat_map (λ piece. piece) begin.pieces) left in
    omega (arith, whole, few_brought here begin.pieces there packets begin.bring)

-- so the packets before what is left of a file are few
pub few_left : {S T : Type 0} (by : Taking S) (Has : List Packet → T → Type 0) (input : List ℕ) (front : Frontier T)
    (left : List ℕ) → AreLeft by Has input front left → 12 * front.packets + length left ≤ length input
few_left by Has input front left are =
    omega (
      arith,
      opens_short input are.here are.after are.opens,
      are.is.many,
      few_begin are.here are.after (section_of front.reader) left are.packets are.begin,
    )

-- at the end of a front
pub back_of : (octets front rest : List ℕ) → octets ≡ front ++ rest →
    drop (length octets - length rest) octets ≡ rest
back_of octets front rest split =
    let whole : length octets ≡ length front + length rest = ap length split ∙ length-append front rest in
    let many : length octets - length rest ≡ length front = omega (arith, whole) in
    ap (λ n. drop n octets) many ∙ ap (drop (length front)) split ∙ drop-append_seam front rest

-- more octets came
pub left_longer : {S T : Type 0} (by : Taking S) (Has : List Packet → T → Type 0) (input : List ℕ)
    (front : Frontier T) (left more : List ℕ) → AreLeft by Has input front left →
    AreLeft by Has (input ++ more) front (left ++ more)
left_longer by Has input front left more are = record {
  here = are.here;
  after = are.after ++ more;
  packets = are.packets;
  known = are.known;
  opens = opens_longer input are.here are.after more are.opens;
  begin = brought_longer are.here are.after (section_of front.reader) left are.packets more are.begin;
  is = are.is;
}

-- a fault that lasts does so after more octets
pub fault_longer : {S : Type 0} (by : Taking S) (input : List ℕ) (fault : AirFault) (more : List ℕ) →
    IsLastingFault by input fault → IsLastingFault by (input ++ more) fault
fault_longer by input fault more has rest =
    subst (λ octets. IsFileFault by octets fault.packet fault.kind)
    (sym (append_assoc input more rest)) (has (more ++ rest))

-- a piece more, with a packet or without
pub one_left : {G S T : Type 0} (taking : G → Taking S) (HasTaken : G → List Packet → T → Type 0) (given : G)
    (input : List ℕ) (front next : Frontier T) (left piece rest : List ℕ) (what : Found) →
    AreLeft (taking given) (HasTaken given) input front left →
    BeginsWithPiece (section_of front.reader) left piece rest →
    meant (section_of next.reader) what ≡ meaning (section_of front.reader) piece →
    TakesFound taking HasTaken front.taker next.taker front.packets what →
    next.packets ≡ front.packets + count_of what → AreLeft (taking given) (HasTaken given) input next rest
one_left taking HasTaken given input front next left piece rest (found.Packet packet) are begins is takes many =
    let comes = takes given are.packets are.known are.is in
    record {
      here = are.here;
      after = are.after;
      packets = are.packets ++ packet_of packet ∷ [];
      known = comes.0;
      opens = are.opens;
      begin =
          brought_more are.here are.after (section_of front.reader) left are.packets piece rest
          (record { section = section_of next.reader; packet = Some (packet_of packet) }) are.begin begins (sym is);
      is = record {
        has = comes.2;
        many = length_push are.packets (packet_of packet) ∙ ap (λ n. n + 1) are.is.many ∙ sym many;
        comes =
            taken_next (taking given) are.packets (packet_of packet) are.known comes.0 are.is.comes comes.1;
      };
    }
one_left taking HasTaken given input front next left piece rest found.Nothing are begins is takes many = record {
  here = are.here;
  after = are.after;
  packets = are.packets;
  known = are.known;
  opens = are.opens;
  begin =
      subst (λ packets. BeginWithPackets are.here are.after (section_of next.reader) rest packets)
      (append-nil are.packets)
      (brought_more are.here are.after (section_of front.reader) left are.packets piece rest
      (record { section = section_of next.reader; packet = None }) are.begin begins (sym is));
  is = record {
    has = subst (HasTaken given are.packets) (sym takes) are.is.has;
    many = omega (arith, are.is.many, many);
    comes = are.is.comes;
  };
}
one_left taking HasTaken given input front next left piece rest found.Wrong are begins is takes many = absurd takes

-- what is known of a file where its pieces are left
taken_left : {S T : Type 0} (by : Taking S) (Has : List Packet → T → Type 0) (input : List ℕ) (front : Frontier T)
    (left : List ℕ) (are : AreLeft by Has input front left) →
    AreTaken by are.here are.after (section_of front.reader) left front.packets are.known
taken_left by Has input front left are =
    taken_of by are.here are.after (section_of front.reader) left are.packets front.packets are.known are.begin
    are.is.many are.is.comes

-- a piece that is at fault
wrong_piece : {S T : Type 0} (by : Taking S) (Has : List Packet → T → Type 0) (input : List ℕ) (front : Frontier T)
    (left piece rest : List ℕ) (new : Section) (what : Found) (why : AirFaultKind) →
    AreLeft by Has input front left → BeginsWithPiece (section_of front.reader) left piece rest →
    meant new what ≡ meaning (section_of front.reader) piece →
    ((packets : List Packet) (known : S) → IsAfter by Has packets known front.packets front.taker →
    after_found by.step known what ≡ Err why) →
    IsFoundKind what why → IsLastingFault by input (record { packet = front.packets + 1; kind = why })
wrong_piece by Has input front left piece rest new what why are begins is comes of_kind more =
    let there = left_longer by Has input front left more are in
    fault_of_pieces by (input ++ more) there.here there.after (front.packets + 1) why there.opens
    (wrong_found by there.here there.after (section_of front.reader) (left ++ more) front.packets there.known piece
    (rest ++ more) new what why (taken_left by Has (input ++ more) front (left ++ more) there)
    (begins_longer (section_of front.reader) left piece rest more begins) is
    (comes there.packets there.known there.is) of_kind)

-- octets that contradict themselves
pub wrong_begin : {S T : Type 0} (by : Taking S) (Has : List Packet → T → Type 0) (input : List ℕ)
    (front : Frontier T) (left : List ℕ) (why : AirFaultKind) → AreLeft by Has input front left →
    (why ≡ kind.WrongBlock) × IsWrongPiece (section_of front.reader) left →
    IsLastingFault by input (record { packet = front.packets + 1; kind = why })
wrong_begin by Has input front left why are is more =
    let there = left_longer by Has input front left more are in
    subst (λ it. IsFileFault by (input ++ more) (front.packets + 1) it) (sym is.0)
    (fault_of_pieces by (input ++ more) there.here there.after (front.packets + 1) kind.WrongBlock there.opens
    (wrong_front by there.here there.after (section_of front.reader) (left ++ more) front.packets there.known
    kind.WrongBlock (taken_left by Has (input ++ more) front (left ++ more) there)
    (wrong_longer (section_of front.reader) left more is.1)))

-- memory was refused
pub is_refused : {S : Type 0} (by : Taking S) (input : List ℕ) (fault : AirFault) →
    fault ≡ record { packet = 0; kind = kind.Refused } → IsLastingFault by input fault
is_refused by input fault is more =
    subst (λ (it : AirFault). IsFileFault by (input ++ more) it.packet it.kind) (sym is) refl

-- what was found in a piece stops a file, whatever it is taken for
pub wrong_left : {G S T : Type 0} (taking : G → Taking S) (HasTaken : G → List Packet → T → Type 0) (given : G)
    (input : List ℕ) (front : Frontier T) (left piece rest : List ℕ) (new : Section) (what : Found)
    (fault : AirFault) → AreLeft (taking given) (HasTaken given) input front left →
    BeginsWithPiece (section_of front.reader) left piece rest →
    meant new what ≡ meaning (section_of front.reader) piece →
    IsTakingFault taking HasTaken front.taker front.packets what fault → IsLastingFault (taking given) input fault
wrong_left taking HasTaken given input front left piece rest new (found.Packet packet) fault are begins is why =
    elim why [
      | inl refused ↦ is_refused (taking given) input fault refused
      | inr wrong ↦
          λ more.
          subst (λ n. IsFileFault (taking given) (input ++ more) n fault.kind) (sym wrong.numbered)
          (wrong_piece (taking given) (HasTaken given) input front left piece rest new (found.Packet packet)
          fault.kind are begins is (wrong.comes given) wrong.of_packet more)
    ]
wrong_left taking HasTaken given input front left piece rest new found.Nothing fault are begins is why = absurd why
wrong_left taking HasTaken given input front left piece rest new found.Wrong fault are begins is why =
    subst (λ (it : AirFault). IsLastingFault (taking given) input it) (sym why)
    (wrong_piece (taking given) (HasTaken given) input front left piece rest new found.Wrong kind.WrongBlock are begins
    is (λ packets known after. refl) refl)

-- the file ends inside a piece
pub cut_left : {S T : Type 0} (by : Taking S) (Has : List Packet → T → Type 0) (input : List ℕ) (front : Frontier T)
    (left : List ℕ) → AreLeft by Has input front left → IsCutPiece (section_of front.reader) left →
    IsFileFault by input (front.packets + 1) kind.Short
cut_left by Has input front left are cut =
    fault_of_pieces by input are.here are.after (front.packets + 1) kind.Short are.opens
    (wrong_front by are.here are.after (section_of front.reader) left front.packets are.known kind.Short
    (taken_left by Has input front left are) cut)

-- or after one
pub none_left : {S T : Type 0} (by : Taking S) (Has : List Packet → T → Type 0) (input : List ℕ) (front : Frontier T)
    (left : List ℕ) → AreLeft by Has input front left → left ≡ [] → HasTakenAll by Has input front.taker
none_left by Has input front left are end = record {
  here = are.here;
  after = are.after;
  there = section_of front.reader;
  packets = are.packets;
  known = are.known;
  opens = are.opens;
  begin =
      subst (λ rest. BeginWithPackets are.here are.after (section_of front.reader) rest are.packets) end are.begin;
  has = are.is.has;
  comes = are.is.comes;
}

-- then the file comes to what its packets come to, whatever they are taken for
pub comes_to : {S U T : Type 0} (by : Taking S) (Has : List Packet → T → Type 0) (other : Taking U) (input : List ℕ)
    (taker : T) (known : U) (all : HasTakenAll by Has input taker) → taken other all.packets ≡ Ok known →
    ComesTo other input known
comes_to by Has other input taker known all comes = record {
  here = all.here;
  after = all.after;
  opens = all.opens;
  so = record {
    there = all.there;
    number = length all.packets;
    are =
        taken_of other all.here all.after all.there [] all.packets (length all.packets) known all.begin refl comes;
  };
}

-- before the first piece
pub first_left : {S T : Type 0} (by : Taking S) (Has : List Packet → T → Type 0) (input : List ℕ)
    (front : Frontier T) (after : List ℕ) → Opens input (section_of front.reader) after → Has [] front.taker →
    front.packets ≡ 0 → AreLeft by Has input front after
unfolding taken
first_left by Has input front after opens has number = record {
  here = section_of front.reader;
  after = after;
  packets = [];
  known = by.start;
  opens = opens;
  begin = record { pieces = []; split = refl; bring = (refl, refl) };
  is = record { has = has; many = sym number; comes = refl };
}

-- what is no begin of a file is none whatever follows it, if it is long enough
begin_longer : (input more : List ℕ) (why : AirFaultKind) → IsBeginFault input why →
    (is_pcapng input ≡ false → 24 ≤ length input) → IsBeginFault (input ++ more) why
begin_longer input more kind.NoCapture is enough =
    let long : 24 ≤ length input = enough is.classic in
    record {
      classic = pcapng-longer input more (omega (arith, long)) ∙ is.classic;
      unknown = elim is.unknown [
        | inl few ↦ absurd (omega (arith, few, long))
        | inr none ↦ inr (ap octet_order_of (take-append-le 24 input more long) ∙ none)
      ];
    }
begin_longer input more (kind.OtherLink number) is enough =
    let front : take 24 (input ++ more) ≡ take 24 input = take-append-le 24 input more is.long in
    record {
      classic = pcapng-longer input more (omega (arith, is.long)) ∙ is.classic;
      long = omega (arith, is.long, length-append input more);
      order = is.order;
      order_is = ap octet_order_of front ∙ is.order_is;
      number_is = is.number_is ∙ ap (link_number is.order) (sym front);
      unknown = is.unknown;
    }
begin_longer input more kind.Short is enough = is
begin_longer input more kind.WrongBlock is enough = is
begin_longer input more kind.Differs is enough = is
begin_longer input more kind.StepsBack is enough = is
begin_longer input more kind.NoBlock is enough = is
begin_longer input more kind.Refused is enough = is

-- so a fault of a begin that is long enough lasts
pub begin_fault : {S : Type 0} (by : Taking S) (input : List ℕ) (why : AirFaultKind) → IsBeginFault input why →
    (is_pcapng input ≡ false → 24 ≤ length input) → IsLastingFault by input (record { packet = 0; kind = why })
begin_fault by input why is enough more =
    fault_of_begin by (input ++ more) why (begin_longer input more why is enough)

-- where a walk stands, by its stage
at_stage : {G S T : Type 0} (there : WalkStage) (taking : G → Taking S) (HasTaken : G → List Packet → T → Type 0)
    (given : G) (input : List ℕ) (walk : Walk T) → IsWalkOf taking HasTaken given input walk → walk.stage ≡ there →
    StandsAt there (taking given) (HasTaken given) input walk.front walk.left.items
at_stage there taking HasTaken given input walk is at =
    subst
    (λ (it : WalkStage). StandsAt it (taking given) (HasTaken given) input walk.front walk.left.items) at is.stands

-- its pieces are taken
pub at_pieces : {G S T : Type 0} (taking : G → Taking S) (HasTaken : G → List Packet → T → Type 0) (given : G)
    (input : List ℕ) (walk : Walk T) → IsWalkOf taking HasTaken given input walk → walk.stage ≡ stage.Pieces →
    AreLeft (taking given) (HasTaken given) input walk.front walk.left.items
    × HaveNoPiece (section_of walk.front.reader) walk.left.items
at_pieces taking HasTaken given input walk is at = at_stage stage.Pieces taking HasTaken given input walk is at

-- or it has a fault
pub at_fault : {G S T : Type 0} (taking : G → Taking S) (HasTaken : G → List Packet → T → Type 0) (given : G)
    (input : List ℕ) (walk : Walk T) (fault : AirFault) → IsWalkOf taking HasTaken given input walk →
    walk.stage ≡ stage.Fault fault → IsLastingFault (taking given) input fault
at_fault taking HasTaken given input walk fault is at =
    at_stage (stage.Fault fault) taking HasTaken given input walk is at

-- or nothing was taken of it
pub at_begin : {G S T : Type 0} (taking : G → Taking S) (HasTaken : G → List Packet → T → Type 0) (given : G)
    (input : List ℕ) (walk : Walk T) → IsWalkOf taking HasTaken given input walk → walk.stage ≡ stage.Begin →
    IsUnopened (HasTaken given) input walk.front walk.left.items
at_begin taking HasTaken given input walk is at =
    (at_stage stage.Begin taking HasTaken given input walk is at).0

-- a fault of a front is one of the file that it is
pub fault_now : {S : Type 0} (by : Taking S) (input : List ℕ) (fault : AirFault) → IsLastingFault by input fault →
    IsFileFault by input fault.packet fault.kind
fault_now by input fault has =
    subst (λ octets. IsFileFault by octets fault.packet fault.kind) (append-nil input) (has [])

-- octets without a whole piece, some at least, are cut
pub cut_of : (section : Section) (left : List ℕ) → HaveNoPiece section left → 0 < length left →
    IsCutPiece section left
cut_of section left none some = elim none [
  | inl empty ↦ absurd (omega (arith, some, ap length empty))
  | inr cut ↦ cut
]

-- what stands after the begin of a file is its end
opens_back : (input : List ℕ) (here : Section) (after : List ℕ) → Opens input here after →
    (front : List ℕ) × (input ≡ front ++ after)
opens_back input here after opens = elim opens [
  | inl classic ↦ (classic.header, classic.split)
  | inr blocks ↦ ([], sym blocks.rest_is)
]

-- so those octets are its last ones
pub after_begin : (input : List ℕ) (here : Section) (after : List ℕ) → Opens input here after →
    (length after ≤ length input) × (drop (length input - length after) input ≡ after)
after_begin input here after opens =
    let back = opens_back input here after opens in
    (opens_short input here after opens, back_of input back.0 after back.1)

-- once a file is opened its pieces can be taken
pub to_take : {G S T : Type 0} (taking : G → Taking S) (HasTaken : G → List Packet → T → Type 0) (given : G)
    (input : List ℕ) (old new : Walk T) (after : List ℕ) → IsToOpen HasTaken given input old →
    new.stage ≡ stage.Pieces → new.front.taker ≡ old.front.taker → new.front.packets ≡ old.front.packets →
    Opens old.left.items (section_of new.front.reader) after →
    new.left.items ≡ drop (length old.left.items - length after) old.left.items →
    IsToTake taking HasTaken given input new
to_take taking HasTaken given input old new after is stage_is taker_stays number_stays opens left_is =
    let opens_input : Opens input (section_of new.front.reader) after =
    subst (λ octets. Opens octets (section_of new.front.reader) after) is.unopened.left_are opens in
    record {
      stage_is = stage_is;
      left =
          subst (λ left. AreLeft (taking given) (HasTaken given) input new.front left)
          (sym (left_is ∙ (after_begin old.left.items (section_of new.front.reader) after opens).1))
          (first_left (taking given) (HasTaken given) input new.front after opens_input
          (subst (HasTaken given []) (sym taker_stays) is.unopened.has) (number_stays ∙ is.unopened.number));
    }
