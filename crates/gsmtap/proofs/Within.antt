-- A packet that is at fault among others: the pieces up to it.
use Rattle.std.proofs.Common.{◌≡◌, ℕ, ◌+◌, List, [], ◌∷◌, ◌++◌, length, refl, sym, ap, ◌∙◌, arith, append_assoc}
use Rattle.std.proofs.Common.{Option, Some, None, Result, Ok, Err}
use Rattle.std.specs.List.{flat_map}
use Rattle.std.proofs.lemmas.Grind.{flat_map-append}
use Rattle.std.proofs.lemmas.List.{length-append}
use Rattle.gsmtap.specs.File.{Packet}
use Rattle.gsmtap.specs.Pieces.{BringAll, Brings, packets_in}
use Rattle.gsmtap.specs.Section.{Meaning, Section}
use Rattle.gsmtap.specs.Taken.{HasWrongPacket, Taking, after_packets, taken}
use Rattle.gsmtap.specs.declared.fault.AirFault.{AirFault}
use Rattle.gsmtap.specs.declared.fault.AirFaultKind.{AirFaultKind}

-- the pieces up to the one whose packet is at fault, and those after it
record UpTo {S : Type 0} (step : S → Packet → Result S AirFaultKind) (here : Section) (pieces : List (List ℕ))
    (number : ℕ) (state : S) (fault : AirFault) : Type 0
  where
    front : List (List ℕ)
    back : List (List ℕ)
    split : pieces ≡ front ++ back
    packets : List Packet
    there : Section
    bring : BringAll here front there packets
    goes : after_packets step number (Ok state) packets ≡ Err fault
    numbered : fault.packet ≡ number + length packets

at_fault : {S : Type 0} (step : S → Packet → Result S AirFaultKind) (number : ℕ) (why : AirFaultKind)
    (packets : List Packet) (fault : AirFault) → after_packets step number (Err why) packets ≡ Err fault →
    record { packet = number; kind = why } ≡ fault
at_fault step number why [] fault is = cc
at_fault step number why (packet ∷ packets) fault is = cc

-- a piece more in front
one_before : {S : Type 0} (step : S → Packet → Result S AirFaultKind) (here : Section) (piece : List ℕ)
    (pieces : List (List ℕ)) (next : Meaning) (number after : ℕ) (state known : S) (fault : AirFault) →
    Brings here piece next → number + length (packets_in next.packet) ≡ after →
    ((packets : List Packet) → after_packets step number (Ok state) (packets_in next.packet ++ packets)
    ≡ after_packets step after (Ok known) packets) →
    UpTo step next.section pieces after known fault → UpTo step here (piece ∷ pieces) number state fault
one_before step here piece pieces next number after state known fault brings many goes up = record {
  front = piece ∷ up.front;
  back = up.back;
  split = ap (λ rest. piece ∷ rest) up.split;
  packets = packets_in next.packet ++ up.packets;
  there = up.there;
  bring = (next, up.packets, brings, refl, up.bring);
  goes = goes up.packets ∙ up.goes;
  numbered = omega (arith, up.numbered, many, length-append (packets_in next.packet) up.packets);
}

-- the piece's packet may be at fault
first_piece : {S : Type 0} (step : S → Packet → Result S AirFaultKind) (here : Section) (piece : List ℕ)
    (pieces : List (List ℕ)) (section : Section) (packet : Packet) (others : List Packet) (number : ℕ) (state : S)
    (fault : AirFault) (result : Result S AirFaultKind) →
    Brings here piece (record { section = section; packet = Some packet }) → step state packet ≡ result →
    after_packets step (number + 1) result others ≡ Err fault →
    ((known : S) → after_packets step (number + 1) (Ok known) others ≡ Err fault →
    UpTo step section pieces (number + 1) known fault) →
    UpTo step here (piece ∷ pieces) number state fault
first_piece step here piece pieces section packet others number state fault (Ok known) brings comes is onward =
    one_before step here piece pieces (record { section = section; packet = Some packet }) number (number + 1) state
    known fault brings refl (λ packets. ap (λ it. after_packets step (number + 1) it packets) comes) (onward known is)
first_piece step here piece pieces section packet others number state fault (Err why) brings comes is onward =
    let told : record { packet = number + 1; kind = why } ≡ fault = at_fault step (number + 1) why others fault is in
    record {
      front = piece ∷ [];
      back = pieces;
      split = refl;
      packets = packet ∷ [];
      there = section;
      bring = (record { section = section; packet = Some packet }, [], brings, refl, (refl, refl));
      goes = ap (λ it. after_packets step (number + 1) it []) comes ∙ ap Err told;
      numbered = ap (λ (it : AirFault). it.packet) (sym told);
    }

piece_by : {S : Type 0} (step : S → Packet → Result S AirFaultKind) (here : Section) (piece : List ℕ)
    (pieces : List (List ℕ)) (section : Section) (packet : Option Packet) (packets others : List Packet) (number : ℕ)
    (state : S) (fault : AirFault) → Brings here piece (record { section = section; packet = packet }) →
    packets ≡ packets_in packet ++ others → after_packets step number (Ok state) packets ≡ Err fault →
    ((after : ℕ) (known : S) → after_packets step after (Ok known) others ≡ Err fault →
    UpTo step section pieces after known fault) →
    UpTo step here (piece ∷ pieces) number state fault
piece_by step here piece pieces section None packets others number state fault brings are is onward =
    one_before step here piece pieces (record { section = section; packet = None }) number number state state fault
    brings (omega arith) (λ it. refl)
    (onward number state (ap (after_packets step number (Ok state)) (sym are) ∙ is))
piece_by step here piece pieces section (Some packet) packets others number state fault brings are is onward =
    first_piece step here piece pieces section packet others number state fault (step state packet) brings refl
    (ap (after_packets step number (Ok state)) (sym are) ∙ is) (onward (number + 1))

up_to : {S : Type 0} (step : S → Packet → Result S AirFaultKind) (here : Section) (pieces : List (List ℕ))
    (there : Section) (packets : List Packet) (number : ℕ) (state : S) (fault : AirFault) →
    BringAll here pieces there packets → after_packets step number (Ok state) packets ≡ Err fault →
    UpTo step here pieces number state fault
up_to step here [] there packets number state fault all is =
    absurd (cc (sym (ap (after_packets step number (Ok state)) all.1) ∙ is))
up_to step here (piece ∷ pieces) there packets number state fault all is =
    piece_by step here piece pieces all.0.section all.0.packet packets all.1 number state fault all.2 all.3 is
    (λ after known goes. up_to step all.0.section pieces there all.1 after known fault all.4 goes)

joined : (front back : List (List ℕ)) (rest : List ℕ) →
    flat_map (λ piece. piece) (front ++ back) ++ rest
    ≡ flat_map (λ piece. piece) front ++ (flat_map (λ piece. piece) back ++ rest)
joined front back rest =
    ap (λ it. it ++ rest) (flat_map-append (λ piece. piece) front back)
    ∙ append_assoc (flat_map (λ piece. piece) front) (flat_map (λ piece. piece) back) rest

-- octets that are pieces, one of whose packets is at fault, have that fault
pub wrong_within : {S : Type 0} (by : Taking S) (here : Section) (octets : List ℕ) (pieces : List (List ℕ))
    (rest : List ℕ) (there : Section) (packets : List Packet) (fault : AirFault) →
    octets ≡ flat_map (λ piece. piece) pieces ++ rest → BringAll here pieces there packets →
    taken by packets ≡ Err fault → HasWrongPacket by here octets fault
unfolding taken
wrong_within by here octets pieces rest there packets fault split bring is =
    let up : UpTo by.step here pieces 0 by.start fault =
    up_to by.step here pieces there packets 0 by.start fault bring is in
    record {
      pieces = up.front;
      packets = up.packets;
      there = up.there;
      rest = flat_map (λ piece. piece) up.back ++ rest;
      split =
          split ∙ ap (λ it. flat_map (λ piece. piece) it ++ rest) up.split ∙ joined up.front up.back rest;
      bring = up.bring;
      are_taken = up.goes;
      numbered = up.numbered ∙ omega arith;
    }
