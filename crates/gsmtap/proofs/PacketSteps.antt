-- Steps over the pieces of a file: one more, and one that is at fault.
use Rattle.std.proofs.Common.{◌≡◌, ℕ, ◌+◌, ◌*◌, ◌≤◌, List, [], ◌∷◌, ◌++◌, length, refl, sym, ap, ◌∙◌, subst, inl, inr}
use Rattle.std.proofs.Common.{arith, append_assoc, append-nil, Some, None, Result, Ok, Err}
use Rattle.std.specs.List.{flat_map}
use Rattle.std.proofs.lemmas.Grind.{flat_map-append}
use Rattle.std.proofs.lemmas.List.{length-replicate, length_push}
use Rattle.gsmtap.specs.File.{Packet}
use Rattle.gsmtap.specs.PieceSteps.{BeginsWithPiece, IsFrontFault, meant, packet_of}
use Rattle.gsmtap.specs.Pieces.{BeginWithPackets, BringAll, Brings, IsCutPiece, IsWrongPiece, least, meaning}
use Rattle.gsmtap.specs.Pieces.{packets_in}
use Rattle.gsmtap.specs.Section.{Meaning, Section}
use Rattle.gsmtap.specs.Taken.{AreKnown, AreTaken, EndsWith, HasWrongPacket, IsFileFault, IsFileWith, Opens, Taking}
use Rattle.gsmtap.specs.Taken.{after_packets, taken}
use Rattle.gsmtap.specs.TapeOfCapture.{nothing_known}
use Rattle.gsmtap.specs.TapeSteps.{IsBeginFault, IsFoundKind, IsPacketKind, IsPieceFaultOf}
use Rattle.gsmtap.specs.TapeSteps.{after_found, count_of}
use Rattle.gsmtap.specs.Track.{Known}
use Rattle.gsmtap.specs.declared.fault.AirFaultKind.{AirFaultKind}
use Rattle.gsmtap.specs.declared.fault.AirFaultKind.TheVariants as kind
use Rattle.gsmtap.specs.declared.pieces.Format.{Format}
use Rattle.gsmtap.specs.declared.pieces.Format.TheVariants.{Classic, Pcapng}
use Rattle.gsmtap.specs.declared.pieces.Found.{Found}
use Rattle.gsmtap.specs.declared.pieces.Found.TheVariants as found

-- a piece has one packet at most
pub count_few : (what : Found) → count_of what ≤ 1
count_few (found.Packet packet) = omega arith
count_few found.Nothing = omega arith
count_few found.Wrong = omega arith

-- the least piece has twelve octets
pub least_is : (format : Format) → 12 ≤ least format
least_is (Classic link unit) = omega arith
least_is Pcapng = omega arith

-- one packet more
after_more : {S : Type 0} (step : S → Packet → Result S AirFaultKind) (number : ℕ) (state : Result S AirFaultKind)
    (packets : List Packet) (packet : Packet) (known : S) → after_packets step number state packets ≡ Ok known →
    after_packets step number state (packets ++ packet ∷ [])
    ≡ after_packets step (number + length packets + 1) (step known packet) []
after_more step number (Ok old) [] packet known is =
    let same : old ≡ known = cc in
    let here : number + 1 ≡ number + length {A = Packet} [] + 1 = omega arith in
    ap (λ k. after_packets step (number + 1) (step k packet) []) same
    ∙ ap (λ n. after_packets step n (step known packet) []) here
after_more step number (Err why) [] packet known is = cc
after_more step number (Ok old) (first ∷ packets) packet known is =
    let next : number + 1 + length packets + 1 ≡ number + length (first ∷ packets) + 1 = omega arith in
    after_more step (number + 1) (step old first) packets packet known is
    ∙ ap (λ n. after_packets step n (step known packet) []) next
after_more step number (Err why) (first ∷ packets) packet known is = cc

-- what is known after one packet more
pub taken_more : {S : Type 0} (by : Taking S) (packets : List Packet) (packet : Packet) (known : S)
    (result : Result S AirFaultKind) → taken by packets ≡ Ok known → by.step known packet ≡ result →
    taken by (packets ++ packet ∷ []) ≡ after_packets by.step (length packets + 1) result []
unfolding taken
taken_more by packets packet known result is comes =
    let here : 0 + length packets + 1 ≡ length packets + 1 = omega arith in
    after_more by.step 0 (Ok by.start) packets packet known is
    ∙ ap (λ n. after_packets by.step n (by.step known packet) []) here
    ∙ ap (λ state. after_packets by.step (length packets + 1) state []) comes

-- what is known after one that is no fault
pub taken_next : {S : Type 0} (by : Taking S) (packets : List Packet) (packet : Packet) (known next : S) →
    taken by packets ≡ Ok known → by.step known packet ≡ Ok next → taken by (packets ++ packet ∷ []) ≡ Ok next
taken_next by packets packet known next is comes = taken_more by packets packet known (Ok next) is comes

-- one piece more
bring_more : (here : Section) (pieces : List (List ℕ)) (there : Section) (packets : List Packet) (piece : List ℕ)
    (next : Meaning) → BringAll here pieces there packets → Brings there piece next →
    BringAll here (pieces ++ piece ∷ []) next.section (packets ++ packets_in next.packet)
bring_more here [] there packets piece next all one = (
  next,
  [],
  subst (λ section. Brings section piece next) all.0 one,
  ap (λ before. before ++ packets_in next.packet) all.1 ∙ sym (append-nil (packets_in next.packet)),
  (refl, refl),
)
bring_more here (first ∷ pieces) there packets piece next all one = (
  all.0,
  all.1 ++ packets_in next.packet,
  all.2,
  ap (λ before. before ++ packets_in next.packet) all.3
      ∙ append_assoc (packets_in all.0.packet) all.1 (packets_in next.packet),
  bring_more all.0.section pieces there all.1 piece next all.4 one,
)

split_more : (octets left piece rest : List ℕ) (pieces : List (List ℕ)) →
    octets ≡ flat_map (λ it. it) pieces ++ left → left ≡ piece ++ rest →
    octets ≡ flat_map (λ it. it) (pieces ++ piece ∷ []) ++ rest
split_more octets left piece rest pieces split begins =
    split ∙ ap (λ back. flat_map (λ it. it) pieces ++ back) begins
    ∙ sym (append_assoc (flat_map (λ it. it) pieces) piece rest)
    ∙ ap (λ back. (flat_map (λ it. it) pieces ++ back) ++ rest) (sym (append-nil piece))
    ∙ ap (λ front. front ++ rest) (sym (flat_map-append (λ it. it) pieces (piece ∷ [])))

-- octets begin with one piece more
pub brought_more : (here : Section) (octets : List ℕ) (there : Section) (left : List ℕ) (packets : List Packet)
    (piece rest : List ℕ) (next : Meaning) → BeginWithPackets here octets there left packets →
    BeginsWithPiece there left piece rest → meaning there piece ≡ Some next →
    BeginWithPackets here octets next.section rest (packets ++ packets_in next.packet)
brought_more here octets there left packets piece rest next begin begins brings = record {
  pieces = begin.pieces ++ piece ∷ [];
  split = split_more octets left piece rest begin.pieces begin.split begins.split;
  bring =
      bring_more here begin.pieces there packets piece next begin.bring
      (record { is = begins.is; brings = brings });
}

-- what is known after the packets that octets begin with
pub taken_of : {S : Type 0} (by : Taking S) (here : Section) (octets : List ℕ) (there : Section) (left : List ℕ)
    (packets : List Packet) (number : ℕ) (known : S) → BeginWithPackets here octets there left packets →
    length packets ≡ number → taken by packets ≡ Ok known → AreTaken by here octets there left number known
taken_of by here octets there left packets number known begin many comes = record {
  pieces = begin.pieces;
  packets = packets;
  split = begin.split;
  bring = begin.bring;
  many = many;
  are_taken = comes;
}

wrong_packet : {S : Type 0} (by : Taking S) (here : Section) (octets : List ℕ) (there : Section) (left : List ℕ)
    (number : ℕ)
    (known : S) (piece rest : List ℕ) (new : Section) (packet : Packet) (why : AirFaultKind) →
    AreTaken by here octets there left number known → BeginsWithPiece there left piece rest →
    meaning there piece ≡ Some (record { section = new; packet = Some packet }) →
    by.step known packet ≡ Err why →
    HasWrongPacket by here octets (record { packet = number + 1; kind = why })
wrong_packet by here octets there left number known piece rest new packet why sofar begins brings comes =
    let many : length sofar.packets + 1 ≡ number + 1 = ap (λ n. n + 1) sofar.many in
    record {
      pieces = sofar.pieces ++ piece ∷ [];
      packets = sofar.packets ++ packet ∷ [];
      there = new;
      rest = rest;
      split = split_more octets left piece rest sofar.pieces sofar.split begins.split;
      bring =
          bring_more here sofar.pieces there sofar.packets piece (record { section = new; packet = Some packet })
          sofar.bring (record { is = begins.is; brings = brings });
      are_taken =
          taken_more by sofar.packets packet known (Err why) sofar.are_taken comes
          ∙ ap (λ n. Err (record { packet = n; kind = why })) many;
      numbered = sym (length_push sofar.packets packet ∙ many);
    }

packet_kind : {S : Type 0} (by : Taking S) (here : Section) (octets : List ℕ) (number : ℕ) (why : AirFaultKind) →
    HasWrongPacket by here octets (record { packet = number; kind = why }) → IsPacketKind why →
    IsPieceFaultOf by here octets number why
packet_kind by here octets number kind.NoCapture wrong is = absurd is
packet_kind by here octets number (kind.OtherLink other) wrong is = wrong
packet_kind by here octets number kind.Short wrong is = absurd is
packet_kind by here octets number kind.WrongBlock wrong is = absurd is
packet_kind by here octets number kind.Differs wrong is = wrong
packet_kind by here octets number kind.StepsBack wrong is = wrong
packet_kind by here octets number kind.NoBlock wrong is = absurd is
packet_kind by here octets number kind.Refused wrong is = absurd is

ends_with : {S : Type 0} (by : Taking S) (here : Section) (octets : List ℕ) (there : Section) (left : List ℕ)
    (number : ℕ)
    (known : S) (IsSo : Section → List ℕ → Type 0) → AreTaken by here octets there left number known →
    IsSo there left → EndsWith by here octets IsSo (number + 1)
ends_with by here octets there left number known IsSo sofar so = record {
  there = there;
  rest = left;
  before = number;
  known = known;
  are = sofar;
  so = so;
  numbered = refl;
}

-- what is found in a piece stops a file whose packets were taken up to it
pub wrong_found : {S : Type 0} (by : Taking S) (here : Section) (octets : List ℕ) (there : Section) (left : List ℕ)
    (number : ℕ)
    (known : S) (piece rest : List ℕ) (new : Section) (what : Found) (why : AirFaultKind) →
    AreTaken by here octets there left number known → BeginsWithPiece there left piece rest →
    meant new what ≡ meaning there piece → after_found by.step known what ≡ Err why → IsFoundKind what why →
    IsPieceFaultOf by here octets (number + 1) why
wrong_found by here octets there left number known piece rest new (found.Packet packet) why sofar begins is comes
    of_kind =
    packet_kind by here octets (number + 1) why
    (wrong_packet by here octets there left number known piece rest new
    (packet_of packet) why sofar begins (sym is) comes) of_kind
wrong_found by here octets there left number known piece rest new found.Nothing why sofar begins is comes of_kind =
    absurd of_kind
wrong_found by here octets there left number known piece rest new found.Wrong why sofar begins is comes of_kind =
    subst (λ it. IsPieceFaultOf by here octets (number + 1) it) (sym of_kind)
    (ends_with by here octets there left number known IsWrongPiece sofar (inr (record {
      piece = piece;
      rest = rest;
      split = begins.split;
      is = begins.is;
      brings_none = sym is;
    })))

-- octets that begin with no piece stop a file whose packets were taken up to them
pub wrong_front : {S : Type 0} (by : Taking S) (here : Section) (octets : List ℕ) (there : Section) (left : List ℕ)
    (number : ℕ)
    (known : S) (why : AirFaultKind) → AreTaken by here octets there left number known →
    IsFrontFault there left why → IsPieceFaultOf by here octets (number + 1) why
wrong_front by here octets there left number known kind.NoCapture sofar is = absurd is
wrong_front by here octets there left number known (kind.OtherLink other) sofar is = absurd is
wrong_front by here octets there left number known kind.Short sofar is =
    ends_with by here octets there left number known IsCutPiece sofar is
wrong_front by here octets there left number known kind.WrongBlock sofar is =
    ends_with by here octets there left number known IsWrongPiece sofar is
wrong_front by here octets there left number known kind.Differs sofar is = absurd is
wrong_front by here octets there left number known kind.StepsBack sofar is = absurd is
wrong_front by here octets there left number known kind.NoBlock sofar is = absurd is
wrong_front by here octets there left number known kind.Refused sofar is = absurd is

-- nothing is left
pub all_taken : {S : Type 0} (by : Taking S) (here : Section) (octets : List ℕ) (there : Section) (left : List ℕ)
    (number : ℕ)
    (known : S) → AreTaken by here octets there left number known → left ≡ [] →
    AreKnown by here octets known
all_taken by here octets there left number known sofar end = record {
  there = there;
  number = number;
  are = subst (λ rest. AreTaken by here octets there rest number known) end sofar;
}

-- there are four places for each slot
pub nothing_long : (known : Known) (slots : ℕ) → known ≡ nothing_known slots → length known.blocks ≡ 4 * slots
nothing_long known slots is = ap (λ (k : Known). length k.blocks) is ∙ length-replicate (4 * slots) None

in_file : (input : List ℕ) (here : Section) (after : List ℕ) (IsSo : Section → List ℕ → Type 0) →
    Opens input here after → IsSo here after → IsFileWith input IsSo
in_file input here after IsSo opens so = record { here = here; after = after; opens = opens; so = so }

-- a fault of a file's pieces is one of the file
pub fault_of_pieces : {S : Type 0} (by : Taking S) (input : List ℕ) (here : Section) (after : List ℕ) (number : ℕ)
    (why : AirFaultKind) → Opens input here after → IsPieceFaultOf by here after number why →
    IsFileFault by input number why
fault_of_pieces by input here after number kind.NoCapture opens is = absurd is
fault_of_pieces by input here after number (kind.OtherLink other) opens is =
    inr (in_file input here after _ opens is)
fault_of_pieces by input here after number kind.Short opens is = in_file input here after _ opens is
fault_of_pieces by input here after number kind.WrongBlock opens is = in_file input here after _ opens is
fault_of_pieces by input here after number kind.Differs opens is = in_file input here after _ opens is
fault_of_pieces by input here after number kind.StepsBack opens is = in_file input here after _ opens is
fault_of_pieces by input here after number kind.NoBlock opens is = absurd is
fault_of_pieces by input here after number kind.Refused opens is = is

-- and so is a fault of its begin
pub fault_of_begin : {S : Type 0} (by : Taking S) (input : List ℕ) (why : AirFaultKind) → IsBeginFault input why →
    IsFileFault by input 0 why
fault_of_begin by input kind.NoCapture is = (refl, is)
fault_of_begin by input (kind.OtherLink other) is = inl (refl, is)
fault_of_begin by input kind.Short is = absurd is
fault_of_begin by input kind.WrongBlock is = absurd is
fault_of_begin by input kind.Differs is = absurd is
fault_of_begin by input kind.StepsBack is = absurd is
fault_of_begin by input kind.NoBlock is = absurd is
fault_of_begin by input kind.Refused is = absurd is
