-- Tapes that are walked together: what a packet more does to each of them, and that each comes to what it comes to
-- alone.
use Rattle.std.proofs.Common.{◌≡◌, ℕ, ◌+◌, ◌-◌, ◌*◌, ◌<◌, ◌≤◌, ◌⊎◌, List, [], ◌∷◌, ◌++◌, length, map, take, drop, refl}
use Rattle.std.proofs.Common.{suc, sym, ap, ◌∙◌, subst, inl, inr, arith, append_assoc, Option, Some, None}
use Rattle.std.proofs.Common.{Bool, true, false, Result, Ok, Err, get_or, set, if◌then◌else◌, nat_lt}
use Rattle.std.specs.Prelude.{◌==◌, ◌%◌, ◌&&◌, nat_le, not, is_none, is_some, option_map, position, slice_set}
use Rattle.std.specs.List.{AllByRecursion, prefix_len}
use Rattle.std.specs.Str.{bytes_eq}
use Rattle.std.proofs.lemmas.Bool.{cases_Bool, ltb-false, ltb-true}
use Rattle.std.proofs.lemmas.List.{drop_more, drop-set-lt, length-map, length-replicate, length-set}
use Rattle.std.proofs.lemmas.List.{take_more_set}
use Rattle.gsmtap.specs.File.{Packet, link_numbered}
use Rattle.gsmtap.specs.Taken.{ComesTo, after_packets, taken}
use Rattle.gsmtap.specs.Tap.{sent_in}
use Rattle.gsmtap.specs.TapeOfCapture.{after_linked, after_packet, after_sent, for_tape, nothing_known}
use Rattle.gsmtap.specs.TapeOfCapture.{slots_taken, tape_of_known}
use Rattle.gsmtap.specs.TapeSteps.{known_of, last_slot}
use Rattle.gsmtap.specs.TapesOfCapture.{AreTapesOfCapture, after_each, before_others, for_tapes, is_silent, none_known}
use Rattle.gsmtap.specs.TapesSteps.{AreLong, AreNear, known_of_each, tapes_of_known}
use Rattle.gsmtap.specs.Track.{Known, ahead, followed, latest, nearest, place_in, put, put_at, put_on, put_result}
use Rattle.gsmtap.specs.Track.{slot_of_frame, with_block}
use Rattle.gsmtap.specs.declared.fault.AirFault.{AirFault}
use Rattle.gsmtap.specs.declared.fault.AirFaultKind.{AirFaultKind}
use Rattle.gsmtap.specs.declared.file.Link.{Link}
use Rattle.gsmtap.specs.declared.tap.Sent.{Sent}
use Rattle.gsmtap.specs.declared.tape.Sender.{Sender}
use Rattle.gsmtap.specs.declared.tape.Wanted.{Wanted}
use Rattle.gsmtap.specs.declared.track.Air.{Air}
use Rattle.gsmtap.specs.declared.track.Track.{Track}

-- what a packet more does to a tape at most
pub record Moves (old new : Known) : Type 0 where
  pub near : last_slot new.track ≤ last_slot old.track + 3328
  pub long : length new.blocks ≡ length old.blocks

abbrev comes : Known → Result Known AirFaultKind
comes known = Ok known

stays : (old new : Known) → comes old ≡ Ok new → Moves old new
stays old new is =
    let same : old ≡ new = cc in
    subst (λ (k : Known). Moves old k) same (record { near = omega arith; long = refl })

-- what a choice of two comes to
pub first_or_second : (a b : Bool) (n m slot : ℕ) →
    (if a then Some n else (if b then Some m else None)) ≡ Some slot → ((a ≡ true) × (n ≡ slot)) ⊎ (m ≡ slot)
first_or_second true b n m slot is = let same : n ≡ slot = cc in inl (refl, same)
first_or_second false true n m slot is = let same : m ≡ slot = cc in inr same
first_or_second false false n m slot is = cc

near_slot : (track : Track) (there slot : ℕ) → nearest track there ≡ Some slot → slot ≤ track.slot + 3328
near_slot track there slot is =
    let distance : ℕ = ahead ((track.first + track.slot) % 6656) there in
    elim (first_or_second (nat_lt distance 3328) (distance == 6655 && nat_le 1 track.slot) (track.slot + distance)
    (track.slot - 1) slot is) [
      | inl both ↦
          let small : distance < 3328 = ltb-true distance 3328 both.0 in
          omega (arith, both.1, small)
      | inr back ↦ omega (arith, back)
    ]

-- a track has the slot that it was made of
pub in_track : (first : ℕ) (slot : Option ℕ) (new : Track) →
    option_map (λ slot. record { first = first; slot = slot }) slot ≡ Some new → slot ≡ Some new.slot
in_track first None new is = cc
in_track first (Some slot) new is =
    let same : record { first = first; slot = slot } ≡ new = cc in
    ap (λ (track : Track). Some track.slot) same

near_track : (track : Option Track) (there : ℕ) (new : Track) → followed track there ≡ Some new →
    new.slot ≤ last_slot track + 3328
unfolding followed
near_track None there new is =
    let same : record { first = there; slot = 0 } ≡ new = cc in
    let zero : 0 ≡ new.slot = ap (λ (track : Track). track.slot) same in
    omega (arith, zero)
near_track (Some track) there new is =
    near_slot track there new.slot (in_track track.first (nearest track there) new is)

near_latest : (before : Option Track) (there : Track) → there.slot ≤ last_slot before + 3328 →
    (latest before there).slot ≤ last_slot before + 3328
near_latest None there near = near
near_latest (Some before) there near = omega (arith, near)

same_if : (test : Bool) (blocks new : List (Option (List ℕ))) → (if test then Some blocks else None) ≡ Some new →
    length new ≡ length blocks
same_if true blocks new is = let same : blocks ≡ new = cc in ap length (sym same)
same_if false blocks new is = cc

long_at : (blocks : List (Option (List ℕ))) (place : ℕ) (block : List ℕ) (there : Option (Option (List ℕ)))
    (new : List (Option (List ℕ))) → put_at blocks place block there ≡ Some new → length new ≡ length blocks
long_at blocks place block None new is = let same : blocks ≡ new = cc in ap length (sym same)
long_at blocks place block (Some None) new is =
    let same : slice_set blocks place (Some block) ≡ new = cc in
    ap length (sym same) ∙ length-set blocks place (Some block)
long_at blocks place block (Some (Some known)) new is = same_if (bytes_eq known block) blocks new is

-- a block that is put makes a tape no longer
pub long_put : (blocks : List (Option (List ℕ))) (place : ℕ) (block : List ℕ) (new : List (Option (List ℕ))) →
    put blocks place block ≡ Some new → length new ≡ length blocks
unfolding put
long_put blocks place block new is = long_at blocks place block _ new is

moves_put : (known new : Known) (track : Track) (blocks : Option (List (Option (List ℕ)))) →
    track.slot ≤ last_slot known.track + 3328 →
    ((there : List (Option (List ℕ))) → blocks ≡ Some there → length there ≡ length known.blocks) →
    put_result track blocks ≡ Ok new → Moves known new
moves_put known new track None near long is = cc
moves_put known new track (Some blocks) near long is =
    let same : record { track = Some track; blocks = blocks } ≡ new = cc in
    subst (λ (k : Known). Moves known k) same (record { near = near; long = long blocks refl })

moves_on : (known new : Known) (sent : Sent) (track : Option Track) →
    followed known.track (slot_of_frame sent.frame) ≡ track → put_on known sent track ≡ Ok new →
    Moves known new
moves_on known new sent None follows is = cc
moves_on known new sent (Some track) follows is =
    let place : ℕ = 4 * track.slot + place_in sent.frame in
    moves_put known new (latest known.track track) (put known.blocks place sent.block)
    (near_latest known.track track (near_track known.track (slot_of_frame sent.frame) track follows))
    (λ there. long_put known.blocks place sent.block there) is

moves_block : (known new : Known) (sent : Sent) → with_block known sent ≡ Ok new → Moves known new
unfolding with_block
moves_block known new sent is = elim (cases_Bool (nat_lt (place_in sent.frame) 4)) [
  | inl here ↦ moves_on known new sent (followed known.track (slot_of_frame sent.frame)) refl (rw here at is)
  | inr other ↦ stays known new (rw other at is)
]

moves_sent : (known new : Known) (sent : Option Sent) → after_sent known sent ≡ Ok new → Moves known new
moves_sent known new None is = stays known new is
moves_sent known new (Some sent) is = moves_block known new sent is

moves_linked : (from : Sender) (known new : Known) (packet : Packet) (link : Option Link) →
    after_linked from known packet link ≡ Ok new → Moves known new
moves_linked from known new packet None is = cc
moves_linked from known new packet (Some link) is = moves_sent known new (sent_in link from packet.octets) is

-- a packet moves a tape by 3,328 slots at most
pub moves : (from : Sender) (known new : Known) (packet : Packet) → after_packet from known packet ≡ Ok new →
    Moves known new
unfolding after_packet
moves from known new packet is = moves_linked from known new packet (link_numbered packet.link) is

-- of two that come to something, each does
pub record BothCome (first : Result Known AirFaultKind) (others : Result (List Known) AirFaultKind)
    (next : List Known) : Type 0
  where
    pub one : Known
    pub rest : List Known
    pub first_is : first ≡ Ok one
    pub others_are : others ≡ Ok rest
    pub next_is : next ≡ one ∷ rest

both_come : (first : Result Known AirFaultKind) (others : Result (List Known) AirFaultKind) (next : List Known) →
    before_others first others ≡ Ok next → BothCome first others next
both_come (Err why) others next is = cc
both_come (Ok one) (Err why) next is = cc
both_come (Ok one) (Ok rest) next is =
    let same : one ∷ rest ≡ next = cc in
    record { one = one; rest = rest; first_is = refl; others_are = refl; next_is = sym same }

-- each of the tapes has moved
near_more : (wanted : List Wanted) (known next : List Known) (packet : Packet) (slot : ℕ) → AreNear slot known →
    after_each wanted known packet ≡ Ok next → AreNear (slot + 3328) next
near_more [] known next packet slot near is =
    let same : [] ≡ next = cc in
    subst (λ (k : List Known). AreNear (slot + 3328) k) same tt
near_more (one ∷ wanted) [] next packet slot near is =
    let same : [] ≡ next = cc in
    subst (λ (k : List Known). AreNear (slot + 3328) k) same tt
near_more (one ∷ wanted) (known ∷ others) next packet slot near is =
    let both = both_come (after_packet one.from known packet) (after_each wanted others packet) next is in
    let here = moves one.from known both.one packet both.first_is in
    let nearer : last_slot both.one.track ≤ slot + 3328 = omega (arith, near.0, here.near) in
    subst (λ (k : List Known). AreNear (slot + 3328) k) (sym both.next_is)
    (nearer, near_more wanted others both.rest packet slot near.1 both.others_are)

long_more : (wanted : List Wanted) (known next : List Known) (packet : Packet) → AreLong wanted known →
    after_each wanted known packet ≡ Ok next → AreLong wanted next
long_more [] [] next packet long is =
    let same : [] ≡ next = cc in
    subst (λ (k : List Known). AreLong [] k) same tt
long_more [] (known ∷ others) next packet long is = absurd long
long_more (one ∷ wanted) [] next packet long is = absurd long
long_more (one ∷ wanted) (known ∷ others) next packet long is =
    let both = both_come (after_packet one.from known packet) (after_each wanted others packet) next is in
    let here = moves one.from known both.one packet both.first_is in
    subst (λ (k : List Known). AreLong (one ∷ wanted) k) (sym both.next_is)
    (here.long ∙ long.0, long_more wanted others both.rest packet long.1 both.others_are)

-- what comes of a packet, and what of a fault
pub result_cases : {S : Type 0} (result : Result S AirFaultKind) →
    ((value : S) × (result ≡ Ok value)) ⊎ ((why : AirFaultKind) × (result ≡ Err why))
result_cases (Ok value) = inl (value, refl)
result_cases (Err why) = inr (why, refl)

faults_stay : {S : Type 0} (step : S → Packet → Result S AirFaultKind) (number : ℕ) (why : AirFaultKind)
    (packets : List Packet) (known : S) → after_packets step number (Err why) packets ≡ Ok known → ⊥
faults_stay step number why [] known is = cc
faults_stay step number why (packet ∷ packets) known is = cc

-- an equal state gives equal results
pub with_state : {S : Type 0} (step : S → Packet → Result S AirFaultKind) (number : ℕ) (packets : List Packet)
    (state other : Result S AirFaultKind) (known : Result S AirFault) → state ≡ other →
    after_packets step number state packets ≡ known → after_packets step number other packets ≡ known
with_state step number packets state other known same is =
    ap (λ it. after_packets step number it packets) (sym same) ∙ is

near_after : (wanted : List Wanted) (number : ℕ) (known next : List Known) (packets : List Packet) (slot : ℕ) →
    AreNear slot known → after_packets (after_each wanted) number (Ok known) packets ≡ Ok next →
    AreNear (slot + 3328 * length packets) next
near_after wanted number known next [] slot near is =
    let same : known ≡ next = cc in
    let far : slot ≡ slot + 3328 * length {A = Packet} [] = omega arith in
    subst (λ (k : List Known). AreNear (slot + 3328 * length {A = Packet} []) k) same
    (subst (λ n. AreNear n known) far near)
near_after wanted number known next (packet ∷ packets) slot near is =
    elim (result_cases (after_each wanted known packet)) [
      | inl some ↦
          let far : slot + 3328 + 3328 * length packets ≡ slot + 3328 * length (packet ∷ packets) = omega arith in
          subst (λ n. AreNear n next) far
          (near_after wanted (number + 1) some.0 next packets (slot + 3328)
          (near_more wanted known some.0 packet slot near some.1)
          (with_state (after_each wanted) (number + 1) packets _ _ _ some.1 is))
      | inr none ↦
          absurd (faults_stay (after_each wanted) (number + 1) none.0 packets next
          (with_state (after_each wanted) (number + 1) packets _ _ _ none.1 is))
    ]

long_after : (wanted : List Wanted) (number : ℕ) (known next : List Known) (packets : List Packet) →
    AreLong wanted known → after_packets (after_each wanted) number (Ok known) packets ≡ Ok next →
    AreLong wanted next
long_after wanted number known next [] long is =
    let same : known ≡ next = cc in
    subst (λ (k : List Known). AreLong wanted k) same long
long_after wanted number known next (packet ∷ packets) long is =
    elim (result_cases (after_each wanted known packet)) [
      | inl some ↦
          long_after wanted (number + 1) some.0 next packets (long_more wanted known some.0 packet long some.1)
          (with_state (after_each wanted) (number + 1) packets _ _ _ some.1 is)
      | inr none ↦
          absurd (faults_stay (after_each wanted) (number + 1) none.0 packets next
          (with_state (after_each wanted) (number + 1) packets _ _ _ none.1 is))
    ]

near_at_first : (wanted : List Wanted) → AreNear 0 (none_known wanted)
near_at_first [] = tt
near_at_first (one ∷ wanted) = (omega arith, near_at_first wanted)

long_at_first : (wanted : List Wanted) → AreLong wanted (none_known wanted)
long_at_first [] = tt
long_at_first (one ∷ wanted) = (length-replicate (4 * slots_taken one) None, long_at_first wanted)

-- after so many packets no tape is far ahead
pub near_packets : (wanted : List Wanted) (packets : List Packet) (known : List Known) →
    taken (for_tapes wanted) packets ≡ Ok known → AreNear (3328 * length packets) known
unfolding taken
near_packets wanted packets known comes =
    let far : 0 + 3328 * length packets ≡ 3328 * length packets = omega arith in
    subst (λ n. AreNear n known) far
    (near_after wanted 0 (none_known wanted) known packets 0 (near_at_first wanted) comes)

-- after packets as many tapes are known as are wanted, and each has its places
pub long_packets : (wanted : List Wanted) (packets : List Packet) (known : List Known) →
    taken (for_tapes wanted) packets ≡ Ok known → AreLong wanted known
unfolding taken
long_packets wanted packets known comes =
    long_after wanted 0 (none_known wanted) known packets (long_at_first wanted) comes

-- a lower bound of slots is within a higher one
pub near_below : (known : List Known) (slot most : ℕ) → slot ≤ most → AreNear slot known → AreNear most known
near_below [] slot most below near = tt
near_below (one ∷ known) slot most below near = (omega (arith, near.0), near_below known slot most below near.1)

-- and so it is after a file
pub long_file : (wanted : List Wanted) (input : List ℕ) (known : List Known) →
    ComesTo (for_tapes wanted) input known → AreLong wanted known
long_file wanted input known file =
    long_packets wanted file.so.are.packets known file.so.are.are_taken

-- there are as many tapes as are wanted
pub long_many : (wanted : List Wanted) (known : List Known) → AreLong wanted known → length known ≡ length wanted
long_many [] [] long = refl
long_many [] (known ∷ others) long = absurd long
long_many (one ∷ wanted) [] long = absurd long
long_many (one ∷ wanted) (known ∷ others) long = ap suc (long_many wanted others long.1)

-- each tape comes to what it comes to alone
pub record ComeApart (one : Wanted) (wanted : List Wanted) (number : ℕ) (known : Known) (others : List Known)
    (packets : List Packet) (next : List Known) : Type 0
  where
    pub first : Known
    pub rest : List Known
    pub next_is : next ≡ first ∷ rest
    pub alone : after_packets (after_packet one.from) number (Ok known) packets ≡ Ok first
    pub together : after_packets (after_each wanted) number (Ok others) packets ≡ Ok rest

-- what packets come to for all tapes, they come to for the first and for the others
pub come_apart : (one : Wanted) (wanted : List Wanted) (number : ℕ) (known : Known) (others : List Known)
    (packets : List Packet) (next : List Known) →
    after_packets (after_each (one ∷ wanted)) number (Ok (known ∷ others)) packets ≡ Ok next →
    ComeApart one wanted number known others packets next
come_apart one wanted number known others [] next is =
    let same : known ∷ others ≡ next = cc in
    record { first = known; rest = others; next_is = sym same; alone = refl; together = refl }
come_apart one wanted number known others (packet ∷ packets) next is =
    elim (result_cases (after_each (one ∷ wanted) (known ∷ others) packet)) [
      | inl some ↦
          let both = both_come (after_packet one.from known packet) (after_each wanted others packet) some.0 some.1 in
          let more = come_apart one wanted (number + 1) both.one both.rest packets next
          (ap (λ (ks : List Known). after_packets (after_each (one ∷ wanted)) (number + 1) (Ok ks) packets)
          (sym both.next_is)
          ∙ ap (λ (r : Result (List Known) AirFaultKind). after_packets (after_each (one ∷ wanted)) (number + 1) r
          packets) (sym some.1) ∙ is) in
          record {
            first = more.first;
            rest = more.rest;
            next_is = more.next_is;
            alone =
                ap (λ (r : Result Known AirFaultKind). after_packets (after_packet one.from) (number + 1) r packets)
                both.first_is ∙ more.alone;
            together =
                ap (λ (r : Result (List Known) AirFaultKind). after_packets (after_each wanted) (number + 1) r packets)
                both.others_are ∙ more.together;
          }
      | inr none ↦
          absurd (faults_stay (after_each (one ∷ wanted)) (number + 1) none.0 packets next
          (with_state (after_each (one ∷ wanted)) (number + 1) packets _ _ _ none.1 is))
    ]

-- and so it is of a file
pub record FileApart (one : Wanted) (wanted : List Wanted) (input : List ℕ) (next : List Known) : Type 0 where
  pub first : Known
  pub rest : List Known
  pub next_is : next ≡ first ∷ rest
  pub alone : ComesTo (for_tape one) input first
  pub together : ComesTo (for_tapes wanted) input rest

-- and so it is of a file
pub file_apart : (one : Wanted) (wanted : List Wanted) (input : List ℕ) (next : List Known) →
    ComesTo (for_tapes (one ∷ wanted)) input next → FileApart one wanted input next
unfolding taken
file_apart one wanted input next file =
    let are = file.so.are in
    let apart = come_apart one wanted 0 (nothing_known (slots_taken one)) (none_known wanted) are.packets next
    are.are_taken in
    record {
      first = apart.first;
      rest = apart.rest;
      next_is = apart.next_is;
      alone = record {
        here = file.here;
        after = file.after;
        opens = file.opens;
        so = record {
          there = file.so.there;
          number = file.so.number;
          are = record {
            pieces = are.pieces;
            packets = are.packets;
            split = are.split;
            bring = are.bring;
            many = are.many;
            are_taken = apart.alone;
          };
        };
      };
      together = record {
        here = file.here;
        after = file.after;
        opens = file.opens;
        so = record {
          there = file.so.there;
          number = file.so.number;
          are = record {
            pieces = are.pieces;
            packets = are.packets;
            split = are.split;
            bring = are.bring;
            many = are.many;
            are_taken = apart.together;
          };
        };
      };
    }

-- none of them is silent
abbrev pub AreHeard : List Known → Type 0
AreHeard known = AllByRecursion (λ (one : Known). is_some one.track ≡ true) known

some_track : (track : Option Track) → not (is_none track) ≡ true → is_some track ≡ true
some_track None is = cc
some_track (Some track) is = refl

heard_by_count : (known : List Known) → length known ≤ prefix_len (λ (one : Known). not (is_silent one)) known →
    AreHeard known
heard_by_count [] all = tt
heard_by_count (one ∷ known) all = elim (cases_Bool (not (is_silent one))) [
  | inl heard ↦
      let more : length (one ∷ known) ≤ 1 + prefix_len (λ (k : Known). not (is_silent k)) known = rw heard at all in
      (some_track one.track heard, heard_by_count known (omega (arith, more)))
  | inr silent ↦ let none : length (one ∷ known) ≤ 0 = rw silent at all in absurd (omega (arith, none))
]

heard_all : (known : List Known) → position is_silent known ≡ None → AreHeard known
heard_all known is =
    let heard : ℕ = prefix_len (λ (one : Known). not (is_silent one)) known in
    elim (cases_Bool (nat_lt heard (length known))) [
      | inl some ↦ let found : Some heard ≡ None = rw some at is in cc
      | inr none ↦ heard_by_count known (ltb-false heard (length known) none)
    ]

tapes_apart : (wanted : List Wanted) (input : List ℕ) (known : List Known) →
    ComesTo (for_tapes wanted) input known → AreHeard known →
    AreTapesOfCapture wanted input (tapes_of_known wanted known)
tapes_apart [] input known file heard = refl
tapes_apart (one ∷ wanted) input known file heard =
    let apart = file_apart one wanted input known file in
    let each : AreHeard (apart.first ∷ apart.rest) = subst (λ (k : List Known). AreHeard k) apart.next_is heard in
    subst (λ (k : List Known). AreTapesOfCapture (one ∷ wanted) input (tapes_of_known (one ∷ wanted) k))
    (sym apart.next_is) (
      tape_of_known one apart.first.blocks,
      tapes_of_known wanted apart.rest,
      record { known = apart.first; file = apart.alone; some = each.0; written = refl },
      tapes_apart wanted input apart.rest apart.together each.1,
      refl,
    )

-- tapes that are walked together, none of which is silent, are the tapes one by one
pub all_tapes : (wanted : List Wanted) (input output : List ℕ) (known : List Known) →
    ComesTo (for_tapes wanted) input known → position is_silent known ≡ None →
    output ≡ tapes_of_known wanted known → AreTapesOfCapture wanted input output
all_tapes wanted input output known file heard is =
    subst (λ octets. AreTapesOfCapture wanted input octets) (sym is)
    (tapes_apart wanted input known file (heard_all known heard))

-- what comes of a packet for the tapes from a place on, before which it was taken
abbrev pub onto : (front : List Known) → Result (List Known) AirFaultKind → Result (List Known) AirFaultKind
onto front (Ok rest) = Ok (front ++ rest)
onto front (Err why) = Err why

-- the tapes before a place have taken a packet
abbrev pub IsOffered : List Wanted → (old now : List Known) → Packet → (place : ℕ) → Type 0
IsOffered wanted old now packet place =
    after_each wanted old packet ≡ onto (take place now) (after_each (drop place wanted) (drop place now) packet)

onto_more : (front : List Known) (one : Known) (others : Result (List Known) AirFaultKind) →
    onto front (before_others (Ok one) others) ≡ onto (front ++ one ∷ []) others
onto_more front one (Ok rest) = ap Ok (sym (append_assoc front (one ∷ []) rest))
onto_more front one (Err why) = refl

-- what comes of a packet, by what comes of it for the tape at a place
at_place : (wanted : List Wanted) (old now : List Known) (packet : Packet) (place : ℕ) (one nobody : Wanted)
    (known nothing : Known) (result : Result Known AirFaultKind) → IsOffered wanted old now packet place →
    place < length wanted → length now ≡ length wanted → one ≡ get_or wanted place nobody →
    known ≡ get_or now place nothing → after_packet one.from known packet ≡ result →
    after_each wanted old packet
    ≡ onto (take place now)
    (before_others result (after_each (drop (place + 1) wanted) (drop (place + 1) now) packet))
at_place wanted old now packet place one nobody known nothing result so inside many one_is known_is comes =
    let wanted_is : drop place wanted ≡ one ∷ drop (place + 1) wanted =
    drop_more wanted place nobody inside ∙ ap (λ (w : Wanted). w ∷ drop (place + 1) wanted) (sym one_is) in
    let now_is : drop place now ≡ known ∷ drop (place + 1) now =
    drop_more now place nothing (omega (arith, many, inside))
    ∙ ap (λ (k : Known). k ∷ drop (place + 1) now) (sym known_is) in
    so ∙ ap (λ (ws : List Wanted). onto (take place now) (after_each ws (drop place now) packet)) wanted_is
    ∙ ap (λ (ks : List Known). onto (take place now) (after_each (one ∷ drop (place + 1) wanted) ks packet)) now_is
    ∙ ap (λ (r : Result Known AirFaultKind). onto (take place now)
    (before_others r (after_each (drop (place + 1) wanted) (drop (place + 1) now) packet))) comes

-- one more has taken it
pub offered_more : (wanted : List Wanted) (old now next : List Known) (packet : Packet) (place : ℕ)
    (one nobody : Wanted) (known nothing after : Known) → IsOffered wanted old now packet place →
    place < length wanted → length now ≡ length wanted → one ≡ get_or wanted place nobody →
    known ≡ get_or now place nothing → after_packet one.from known packet ≡ Ok after → next ≡ set now place after →
    IsOffered wanted old next packet (place + 1)
offered_more wanted old now next packet place one nobody known nothing after so inside many one_is known_is comes
    next_is =
    let within : place < length now = omega (arith, many, inside) in
    let front : take (place + 1) next ≡ take place now ++ after ∷ [] =
    ap (λ (ks : List Known). take (place + 1) ks) next_is ∙ take_more_set now place after within in
    let rest : drop (place + 1) next ≡ drop (place + 1) now =
    ap (λ (ks : List Known). drop (place + 1) ks) next_is ∙ drop-set-lt (place + 1) now place after (omega arith) in
    at_place wanted old now packet place one nobody known nothing (Ok after) so inside many one_is known_is comes
    ∙ onto_more (take place now) after (after_each (drop (place + 1) wanted) (drop (place + 1) now) packet)
    ∙ ap (λ (ks : List Known). onto ks (after_each (drop (place + 1) wanted) (drop (place + 1) now) packet))
    (sym front)
    ∙ ap (λ (ks : List Known). onto (take (place + 1) next) (after_each (drop (place + 1) wanted) ks packet))
    (sym rest)

-- one is at fault
pub offered_fault : (wanted : List Wanted) (old now : List Known) (packet : Packet) (place : ℕ) (one nobody : Wanted)
    (known nothing : Known) (why : AirFaultKind) → IsOffered wanted old now packet place → place < length wanted →
    length now ≡ length wanted → one ≡ get_or wanted place nobody → known ≡ get_or now place nothing →
    after_packet one.from known packet ≡ Err why → after_each wanted old packet ≡ Err why
offered_fault wanted old now packet place one nobody known nothing why so inside many one_is known_is comes =
    at_place wanted old now packet place one nobody known nothing (Err why) so inside many one_is known_is comes

-- the tape at a place, and those after it
pub near_at : (known : List Known) (place slot : ℕ) (one nothing : Known) → place < length known →
    one ≡ get_or known place nothing → AreNear slot (drop place known) →
    (last_slot one.track ≤ slot) × AreNear slot (drop (place + 1) known)
near_at known place slot one nothing inside one_is near =
    let is : drop place known ≡ one ∷ drop (place + 1) known =
    drop_more known place nothing inside ∙ ap (λ (k : Known). k ∷ drop (place + 1) known) (sym one_is) in
    subst (λ (ks : List Known). AreNear slot ks) is near

-- at a place the tape has its length, and the later ones have theirs
pub long_at_place : (wanted : List Wanted) (known : List Known) (place : ℕ) (one nobody : Wanted)
    (here nothing : Known) → place < length wanted → length known ≡ length wanted →
    one ≡ get_or wanted place nobody → here ≡ get_or known place nothing →
    AreLong (drop place wanted) (drop place known) →
    (length here.blocks ≡ 4 * slots_taken one) × AreLong (drop (place + 1) wanted) (drop (place + 1) known)
long_at_place wanted known place one nobody here nothing inside many one_is here_is long =
    let wanted_is : drop place wanted ≡ one ∷ drop (place + 1) wanted =
    drop_more wanted place nobody inside ∙ ap (λ (w : Wanted). w ∷ drop (place + 1) wanted) (sym one_is) in
    let known_is : drop place known ≡ here ∷ drop (place + 1) known =
    drop_more known place nothing (omega (arith, many, inside))
    ∙ ap (λ (k : Known). k ∷ drop (place + 1) known) (sym here_is) in
    subst (λ (ks : List Known). AreLong (one ∷ drop (place + 1) wanted) ks) known_is
    (subst (λ (ws : List Wanted). AreLong ws (drop place known)) wanted_is long)

-- the octets of one tape more
pub written_more : (wanted : List Wanted) (known : List Known) (place : ℕ) (one nobody : Wanted)
    (here nothing : Known) (before tape all : List ℕ) → place < length wanted → length known ≡ length wanted →
    one ≡ get_or wanted place nobody → here ≡ get_or known place nothing →
    before ++ tapes_of_known (drop place wanted) (drop place known) ≡ all → tape ≡ tape_of_known one here.blocks →
    (before ++ tape) ++ tapes_of_known (drop (place + 1) wanted) (drop (place + 1) known) ≡ all
written_more wanted known place one nobody here nothing before tape all inside many one_is here_is written tape_is =
    let wanted_is : drop place wanted ≡ one ∷ drop (place + 1) wanted =
    drop_more wanted place nobody inside ∙ ap (λ (w : Wanted). w ∷ drop (place + 1) wanted) (sym one_is) in
    let known_is : drop place known ≡ here ∷ drop (place + 1) known =
    drop_more known place nothing (omega (arith, many, inside))
    ∙ ap (λ (k : Known). k ∷ drop (place + 1) known) (sym here_is) in
    let rest : List ℕ = tapes_of_known (drop (place + 1) wanted) (drop (place + 1) known) in
    append_assoc before tape rest ∙ ap (λ octets. before ++ (octets ++ rest)) tape_is
    ∙ ap (λ (ks : List Known). before ++ tapes_of_known (one ∷ drop (place + 1) wanted) ks) (sym known_is)
    ∙ ap (λ (ws : List Wanted). before ++ tapes_of_known ws (drop place known)) (sym wanted_is)
    ∙ written

-- the first place of a list is that of what comes of its elements
counted_map : {A B : Type 0} (f : A → B) (p : B → Bool) (xs : List A) →
    prefix_len (λ x. not (p (f x))) xs ≡ prefix_len (λ y. not (p y)) (map f xs)
counted_map f p [] = refl
counted_map f p (x ∷ xs) = elim (cases_Bool (not (p (f x)))) [
  | inl on ↦ rw on (ap (λ n. 1 + n) (counted_map f p xs))
  | inr off ↦ rw off refl
]

-- the first silent tape is the first of which no block is known
pub first_of_map : (airs : List Air) → position (λ (air : Air). is_silent (known_of air)) airs
    ≡ position is_silent (known_of_each airs)
first_of_map airs =
    rw (counted_map known_of is_silent airs, length-map airs known_of) refl
