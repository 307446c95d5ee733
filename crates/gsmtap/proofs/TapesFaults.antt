-- A fault of tapes that are walked together is the fault of one of them alone.
use Rattle.std.proofs.Common.{◌≡◌, ◌⊎◌, ℕ, ◌+◌, ◌*◌, ◌<◌, List, [], ◌∷◌, ◌++◌, length, refl, sym, ap, ◌∙◌, subst, inl}
use Rattle.std.proofs.Common.{inr}
use Rattle.std.proofs.Common.{arith, append-nil, Option, Some, None, false, Result, Ok, Err, nat_lt}
use Rattle.std.specs.Prelude.{not, is_none}
use Rattle.std.specs.List.{prefix_len}
use Rattle.std.proofs.lemmas.Bool.{cases_Bool, ltb-true}
use Rattle.std.proofs.lemmas.List.{length-append}
use Rattle.gsmtap.specs.File.{Packet}
use Rattle.gsmtap.specs.Laws.{FaultIsOfOne, ForOne, IsSilentAlone, SilentIsOne}
use Rattle.gsmtap.specs.Pieces.{IsCutPiece, IsWrongPiece}
use Rattle.gsmtap.specs.Section.{Section}
use Rattle.gsmtap.specs.Taken.{ComesTo, EndsWith, HasWrongPacket, IsFileFault, IsFileWith, after_packets, taken}
use Rattle.gsmtap.specs.TapeOfCapture.{HasNoBlock, IsAirFault, IsAirFaultOf, IsTapeOfCapture, after_packet, for_tape}
use Rattle.gsmtap.specs.TapeOfCapture.{nothing_known, slots_taken}
use Rattle.gsmtap.specs.TapesOfCapture.{AreTapesOfCapture, IsTapesFault, after_each, before_others, fault_alone}
use Rattle.gsmtap.specs.TapesOfCapture.{for_tapes, is_silent, none_known}
use Rattle.gsmtap.specs.TapeSteps.{known_of}
use Rattle.gsmtap.specs.Track.{Known}
use Rattle.gsmtap.specs.declared.fault.AirFault.{AirFault}
use Rattle.gsmtap.specs.declared.fault.AirFaultKind.{AirFaultKind}
use Rattle.gsmtap.specs.declared.fault.AirFaultKind.TheVariants as kind
use Rattle.gsmtap.specs.declared.tape.Wanted.{Wanted}
use Rattle.gsmtap.specs.declared.tapes.TapesFault.{TapesFault}
use Rattle.gsmtap.specs.declared.tapes.TapesFault.TheVariants as faults
use Rattle.gsmtap.specs.declared.track.Air.{Air}
use Rattle.gsmtap.specs.declared.track.Track.{Track}
use Rattle.gsmtap.proofs.TapesLaws.{come_apart, file_apart, long_file, long_many, result_cases, with_state}

-- a fault is told of the same packet, whatever else is known
same_fault : {S T : Type 0} (one : S → Packet → Result S AirFaultKind) (other : T → Packet → Result T AirFaultKind)
    (number : ℕ) (why : AirFaultKind) (packets : List Packet) (fault : AirFault) →
    after_packets one number (Err why) packets ≡ Err fault → after_packets other number (Err why) packets ≡ Err fault
same_fault one other number why [] fault is =
    let same : record { packet = number; kind = why } ≡ fault = cc in
    ap Err same
same_fault one other number why (packet ∷ packets) fault is =
    let same : record { packet = number; kind = why } ≡ fault = cc in
    ap Err same

-- of a packet that is at fault for tapes, one of two is at fault
first_fault : (first : Result Known AirFaultKind) (others : Result (List Known) AirFaultKind) (why : AirFaultKind) →
    before_others first others ≡ Err why → (first ≡ Err why) ⊎ (others ≡ Err why)
first_fault (Err other) others why is = let same : other ≡ why = cc in inl (ap Err same)
first_fault (Ok known) (Err other) why is = let same : other ≡ why = cc in inr (ap Err same)
first_fault (Ok known) (Ok others) why is = cc

both_right : (first : Result Known AirFaultKind) (others : Result (List Known) AirFaultKind) (next : List Known) →
    before_others first others ≡ Ok next →
    (one : Known) × (rest : List Known) × (first ≡ Ok one) × (others ≡ Ok rest) × (next ≡ one ∷ rest)
both_right (Err why) others next is = cc
both_right (Ok one) (Err why) next is = cc
both_right (Ok one) (Ok rest) next is = let same : one ∷ rest ≡ next = cc in (one, rest, refl, refl, sym same)

no_state : (number : ℕ) (packets : List Packet) (fault : AirFault) →
    after_packets (after_each []) number (Ok []) packets ≡ Err fault → ⊥
no_state number [] fault is = cc
no_state number (packet ∷ packets) fault is = no_state (number + 1) packets fault is

fault_apart : (one : Wanted) (wanted : List Wanted) (number : ℕ) (known : Known) (others : List Known)
    (packets : List Packet) (fault : AirFault) →
    after_packets (after_each (one ∷ wanted)) number (Ok (known ∷ others)) packets ≡ Err fault →
    (after_packets (after_packet one.from) number (Ok known) packets ≡ Err fault)
    ⊎ (after_packets (after_each wanted) number (Ok others) packets ≡ Err fault)
fault_apart one wanted number known others [] fault is = cc
fault_apart one wanted number known others (packet ∷ packets) fault is =
    let first : Result Known AirFaultKind = after_packet one.from known packet in
    let rest : Result (List Known) AirFaultKind = after_each wanted others packet in
    elim (result_cases (after_each (one ∷ wanted) (known ∷ others) packet)) [
      | inl some ↦
          let both = both_right first rest some.0 some.1 in
          let more = fault_apart one wanted (number + 1) both.0 both.1 packets fault
          (with_state (after_each (one ∷ wanted)) (number + 1) packets _ _ _ (some.1 ∙ ap Ok both.4) is) in
          elim more [
            | inl here ↦ inl (with_state (after_packet one.from) (number + 1) packets _ _ _ (sym both.2) here)
            | inr there ↦ inr (with_state (after_each wanted) (number + 1) packets _ _ _ (sym both.3) there)
          ]
      | inr none ↦
          let told = with_state (after_each (one ∷ wanted)) (number + 1) packets _ _ _ none.1 is in
          elim (first_fault first rest none.0 none.1) [
            | inl here ↦
                inl (with_state (after_packet one.from) (number + 1) packets _ _ _ (sym here)
                (same_fault (after_each (one ∷ wanted)) (after_packet one.from) (number + 1) none.0 packets fault told))
            | inr there ↦
                inr (with_state (after_each wanted) (number + 1) packets _ _ _ (sym there)
                (same_fault (after_each (one ∷ wanted)) (after_each wanted) (number + 1) none.0 packets fault told))
          ]
    ]

-- the same of a file whose packet is at fault
wrong_apart : (one : Wanted) (wanted : List Wanted) (here : Section) (octets : List ℕ) (fault : AirFault) →
    HasWrongPacket (for_tapes (one ∷ wanted)) here octets fault →
    HasWrongPacket (for_tape one) here octets fault ⊎ HasWrongPacket (for_tapes wanted) here octets fault
unfolding taken
wrong_apart one wanted here octets fault wrong =
    elim (fault_apart one wanted 0 (nothing_known (slots_taken one)) (none_known wanted) wrong.packets fault
    wrong.are_taken) [
      | inl first ↦ inl (record {
        pieces = wrong.pieces;
        packets = wrong.packets;
        there = wrong.there;
        rest = wrong.rest;
        split = wrong.split;
        bring = wrong.bring;
        are_taken = first;
        numbered = wrong.numbered;
      })
      | inr others ↦ inr (record {
        pieces = wrong.pieces;
        packets = wrong.packets;
        there = wrong.there;
        rest = wrong.rest;
        split = wrong.split;
        bring = wrong.bring;
        are_taken = others;
        numbered = wrong.numbered;
      })
    ]

no_wrong : (here : Section) (octets : List ℕ) (fault : AirFault) → HasWrongPacket (for_tapes []) here octets fault → ⊥
unfolding taken
no_wrong here octets fault wrong = no_state 0 wrong.packets fault wrong.are_taken

-- and of one whose next piece is
ends_alone : (one : Wanted) (wanted : List Wanted) (here : Section) (octets : List ℕ)
    (IsSo : Section → List ℕ → Type 0) (number : ℕ) → EndsWith (for_tapes (one ∷ wanted)) here octets IsSo number →
    EndsWith (for_tape one) here octets IsSo number
unfolding taken
ends_alone one wanted here octets IsSo number ends =
    let are = ends.are in
    let apart = come_apart one wanted 0 (nothing_known (slots_taken one)) (none_known wanted) are.packets ends.known
    are.are_taken in
    record {
      there = ends.there;
      rest = ends.rest;
      before = ends.before;
      known = apart.first;
      are = record {
        pieces = are.pieces;
        packets = are.packets;
        split = are.split;
        bring = are.bring;
        many = are.many;
        are_taken = apart.alone;
      };
      so = ends.so;
      numbered = ends.numbered;
    }

-- a packet that is at fault is so for one of them
wrong_of_one : (wanted : List Wanted) (here : Section) (octets : List ℕ) (fault : AirFault) →
    HasWrongPacket (for_tapes wanted) here octets fault →
    ForOne (λ one. HasWrongPacket (for_tape one) here octets fault) wanted
wrong_of_one [] here octets fault wrong = no_wrong here octets fault wrong
wrong_of_one (one ∷ wanted) here octets fault wrong = elim (wrong_apart one wanted here octets fault wrong) [
  | inl first ↦ inl first
  | inr others ↦ inr (wrong_of_one wanted here octets fault others)
]

turned : (IsSo IsOther : Wanted → Type 0) → ((one : Wanted) → IsSo one → IsOther one) → (wanted : List Wanted) →
    ForOne IsSo wanted → ForOne IsOther wanted
turned IsSo IsOther turns [] is = is
turned IsSo IsOther turns (one ∷ wanted) is = elim is [
  | inl first ↦ inl (turns one first)
  | inr others ↦ inr (turned IsSo IsOther turns wanted others)
]

any_one : (IsSo : Wanted → Type 0) → ((one : Wanted) → IsSo one) → (wanted : List Wanted) → 0 < length wanted →
    ForOne IsSo wanted
any_one IsSo all [] some = absurd (omega (arith, some))
any_one IsSo all (one ∷ wanted) some = inl (all one)

packet_of_one : (wanted : List Wanted) (input : List ℕ) (fault : AirFault) →
    IsFileWith input (λ here after. HasWrongPacket (for_tapes wanted) here after fault) →
    ForOne (λ one. IsFileWith input (λ here after. HasWrongPacket (for_tape one) here after fault)) wanted
packet_of_one wanted input fault file =
    turned (λ one. HasWrongPacket (for_tape one) file.here file.after fault)
    (λ one. IsFileWith input (λ here after. HasWrongPacket (for_tape one) here after fault))
    (λ one wrong. record { here = file.here; after = file.after; opens = file.opens; so = wrong }) wanted
    (wrong_of_one wanted file.here file.after fault file.so)

piece_of_one : (wanted : List Wanted) (input : List ℕ) (IsSo : Section → List ℕ → Type 0) (number : ℕ) →
    0 < length wanted → IsFileWith input (λ here after. EndsWith (for_tapes wanted) here after IsSo number) →
    ForOne (λ one. IsFileWith input (λ here after. EndsWith (for_tape one) here after IsSo number)) wanted
piece_of_one [] input IsSo number some file = absurd (omega (arith, some))
piece_of_one (one ∷ wanted) input IsSo number some file = inl (record {
  here = file.here;
  after = file.after;
  opens = file.opens;
  so = ends_alone one wanted file.here file.after IsSo number file.so;
})

by_kind : (wanted : List Wanted) (input : List ℕ) (packet : ℕ) (why : AirFaultKind) → 0 < length wanted →
    IsFileFault (for_tapes wanted) input packet why → ForOne (λ one. IsAirFaultOf one input packet why) wanted
by_kind wanted input packet kind.NoCapture some is =
    any_one (λ one. IsAirFaultOf one input packet kind.NoCapture) (λ one. is) wanted some
by_kind wanted input packet (kind.OtherLink number) some is = elim is [
  | inl begin ↦
      any_one (λ one. IsAirFaultOf one input packet (kind.OtherLink number)) (λ one. inl begin) wanted some
  | inr file ↦
      let fault : AirFault = record { packet = packet; kind = kind.OtherLink number } in
      turned (λ one. IsFileWith input (λ here after. HasWrongPacket (for_tape one) here after fault))
      (λ one. IsAirFaultOf one input packet (kind.OtherLink number)) (λ one it. inr it) wanted
      (packet_of_one wanted input fault file)
]
by_kind wanted input packet kind.Short some is = piece_of_one wanted input IsCutPiece packet some is
by_kind wanted input packet kind.WrongBlock some is = piece_of_one wanted input IsWrongPiece packet some is
by_kind wanted input packet kind.Differs some is =
    packet_of_one wanted input (record { packet = packet; kind = kind.Differs }) is
by_kind wanted input packet kind.StepsBack some is =
    packet_of_one wanted input (record { packet = packet; kind = kind.StepsBack }) is
by_kind wanted input packet kind.NoBlock some is = absurd is
by_kind wanted input packet kind.Refused some is =
    any_one (λ one. IsAirFaultOf one input packet kind.Refused) (λ one. is) wanted some

-- a fault of tapes that are made together is one of a tape that is made alone
pub fault_of_one : FaultIsOfOne
fault_of_one wanted input fault some is = by_kind wanted input fault.packet fault.kind some is

no_track : (track : Option Track) → not (is_none track) ≡ false → track ≡ None
no_track None is = refl
no_track (Some track) is = cc

-- the first that is silent has no block alone
silent_at : (wanted : List Wanted) (input : List ℕ) (known : List Known) (place : ℕ) →
    ComesTo (for_tapes wanted) input known → prefix_len (λ (one : Known). not (is_silent one)) known ≡ place →
    place < length known → IsSilentAlone wanted input place
silent_at [] input known place file counted inside =
    absurd (omega (arith, inside, long_many [] known (long_file [] input known file)))
silent_at (one ∷ wanted) input known place file counted inside =
    let apart = file_apart one wanted input known file in
    let many : length known ≡ length (apart.first ∷ apart.rest) = ap length apart.next_is in
    let more : prefix_len (λ (k : Known). not (is_silent k)) (apart.first ∷ apart.rest) ≡ place =
    ap (λ (ks : List Known). prefix_len (λ (k : Known). not (is_silent k)) ks) (sym apart.next_is) ∙ counted in
    elim (cases_Bool (not (is_silent apart.first))) [
      | inl heard ↦
          let before : ℕ = prefix_len (λ (k : Known). not (is_silent k)) apart.rest in
          let next : 1 + before ≡ place = rw heard at more in
          let there = silent_at wanted input apart.rest before apart.together refl (omega (arith, next, many, inside))
          in
          record {
            before = one ∷ there.before;
            one = there.one;
            after = there.after;
            split = ap (λ (ws : List Wanted). one ∷ ws) there.split;
            many = omega (arith, there.many, next);
            none = there.none;
          }
      | inr silent ↦
          let here : 0 ≡ place = rw silent at more in
          record {
            before = [];
            one = one;
            after = wanted;
            split = refl;
            many = here;
            none = record {
              known = apart.first;
              file = apart.alone;
              none = no_track apart.first.track silent;
            };
          }
    ]

-- and a tape without a block has none alone, either
pub silent_is_one : SilentIsOne
silent_is_one wanted input place silent =
    let first : ℕ = prefix_len (λ (one : Known). not (is_silent one)) silent.known in
    elim (cases_Bool (nat_lt first (length silent.known))) [
      | inl there ↦
          let found : Some first ≡ Some place = rw there at silent.first in
          let same : first ≡ place = cc in
          subst (λ n. IsSilentAlone wanted input n) same
          (silent_at wanted input silent.known first silent.file refl (ltb-true first (length silent.known) there))
      | inr none ↦ let found : None ≡ Some place = rw none at silent.first in cc
    ]

only_one : (before after : List Wanted) (one it : Wanted) → one ∷ [] ≡ before ++ it ∷ after → it ≡ one
only_one [] after one it is = let same : one ≡ it = cc in sym same
only_one (first ∷ before) after one it is =
    absurd (omega (arith, ap length is, length-append before (it ∷ after)))

-- a fault of one tape is that of the tape alone
pub alone_fault : (one : Wanted) (input : List ℕ) (fault : TapesFault) → IsTapesFault (one ∷ []) input fault →
    IsAirFault one input (fault_alone fault)
alone_fault one input (faults.Air fault) is = elim (fault_of_one (one ∷ []) input fault (omega arith) is) [
  | inl here ↦ here
  | inr none ↦ absurd none
]
alone_fault one input (faults.NoBlock place) is =
    let silent = silent_is_one (one ∷ []) input place is in (
      refl,
      subst (λ (it : Wanted). HasNoBlock it input) (only_one silent.before silent.after one silent.one silent.split)
          silent.none,
    )

-- and so is the tape
pub alone_tape : (one : Wanted) (input output : List ℕ) → AreTapesOfCapture (one ∷ []) input output →
    IsTapeOfCapture one input output
alone_tape one input output are =
    let whole : output ≡ are.0 = are.4 ∙ ap (λ rest. are.0 ++ rest) are.3 ∙ append-nil are.0 in
    subst (λ octets. IsTapeOfCapture one input octets) (sym whole) are.2

first_is : (a : Known) (rest : List Known) (b : Known) (others : List Known) → a ∷ rest ≡ b ∷ others → a ≡ b
first_is a rest b others is = cc

-- what is known of one tape is what is known of it alone, with four places for each slot
pub record IsKnownAlone (one : Wanted) (input : List ℕ) (air : Air) : Type 0 where
  pub file : ComesTo (for_tape one) input (known_of air)
  pub long : length air.blocks.items ≡ 4 * slots_taken one
