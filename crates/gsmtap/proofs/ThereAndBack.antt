-- The tape of the capture of a tape is the tape.
use Rattle.std.proofs.Common.{◌≡◌, ℕ, ◌+◌, ◌*◌, ◌%◌, ◌<◌, ◌^◌, List, [], ◌∷◌, ◌++◌, length, map, take, drop, refl}
use Rattle.std.proofs.Common.{suc, sym, ap, ◌∙◌, arith, append_assoc, append-nil, Option, Some, None, Result, Ok}
use Rattle.std.proofs.Common.{replicate, Err, lit<, lit≤, inl, inr, subst, max}
use Rattle.std.proofs.Math.Nat.{zero-min}
use Rattle.std.specs.List.{flat_map, AllByRecursion, slice_get}
use Rattle.std.specs.Prelude.{slice_set, nat_lt, true, is_some, ◌⊎◌}
use Rattle.cbsp_wire.specs.declared.message.Cell.{Cell}
use Rattle.gsmtap.specs.Taken.{Opens, after_packets, taken}
use Rattle.gsmtap.specs.TapeOfCapture.{after_packet, after_sent, blocks_in, for_tape, nothing_known, slots_taken}
use Rattle.gsmtap.specs.declared.track.Track.{Track}
use Rattle.byteorder.specs.Numbers.{big_number-reads_back}
use Rattle.gsmtap.specs.File.{Packet, link_number, link_numbered, octet_order_of, packet_time, unit_of}
use Rattle.gsmtap.specs.Pieces.{BringAll, Brings, packets_in as brought_in}
use Rattle.gsmtap.specs.Section.{Section}
use Rattle.std.proofs.lemmas.Grind.{flat_map-append}
use Rattle.gsmtap.specs.Capture.{blocks_in_slot, capture, file_header, packets_of_blocks, packets_of_slot}
use Rattle.gsmtap.specs.Capture.{packets_of_slots}
use Rattle.gsmtap.specs.declared.capture.Slots.TheVariants.{All}
use Rattle.gsmtap.proofs.Chunks.{chunks_each, chunks_long}
use Rattle.gsmtap.proofs.TapeSteps.{blocks_joined, blocks_of_slots}
use Rattle.gsmtap.specs.Laws.{CaptureHasTheTape, CaptureOfNoSlotHasNoBlock, tape_with}
use Rattle.gsmtap.specs.declared.capture.Settings.{Settings}
use Rattle.gsmtap.specs.declared.tape.Wanted.{Wanted}
use Rattle.handset.specs.Tape.{cell_in, octets_of_blocks, tape_octets}
use Rattle.gsmtap.specs.declared.fault.AirFaultKind.{AirFaultKind}
use Rattle.gsmtap.specs.Packet.{datagram_header, frame_number, internet_header, packet, record_header, tap_header}
use Rattle.std.proofs.lemmas.List.{length-append, length_push, take_all}
use Rattle.gsmtap.specs.Track.{Known, ahead, followed, latest, nearest, place_in, put, put_at, slot_of_frame}
use Rattle.gsmtap.specs.Track.{with_block}
use Rattle.gsmtap.specs.Tap.{anyone, block_of, datagram_of, internet_of, payload_of, sent_in}
use Rattle.gsmtap.specs.declared.file.Link.TheVariants.{Internet}
use Rattle.gsmtap.specs.declared.file.OctetOrder.TheVariants.{LowFirst}
use Rattle.gsmtap.specs.declared.file.Unit.TheVariants.{Microsecond}
use Rattle.gsmtap.specs.declared.pieces.Format.TheVariants.{Classic}
use Rattle.gsmtap.specs.declared.packet.Channel.{Channel}
use Rattle.gsmtap.specs.declared.packet.Channel.TheVariants.{BesideSdcch4, BesideSdcch8}
use Rattle.gsmtap.specs.declared.packet.Place.{Place}
use Rattle.gsmtap.specs.declared.packet.Start.{Start}

header_order : octet_order_of file_header ≡ Some LowFirst
unfolding file_header
header_order = refl

header_link : link_number LowFirst file_header ≡ 228
unfolding file_header
header_link = refl

header_unit : unit_of LowFirst file_header ≡ Microsecond
unfolding file_header
header_unit = refl

header_long : length file_header ≡ 24
unfolding file_header
header_long = refl

-- a packet behind its header in the file
abbrev pub inside_of : Channel → Place → List ℕ → List ℕ
inside_of channel place block =
    internet_header place ++ datagram_header ++ tap_header channel place ++ block

frame_fits : (channel : Channel) (place : Place) → frame_number channel place < 256 ^ 4
frame_fits channel place = omega arith

-- what carries a block is taken as it
datagram_there : (channel : Channel) (place : Place) (block : List ℕ) → length block ≡ 23 →
    datagram_of None (inside_of channel place block) ≡ Some (datagram_header ++ tap_header channel place ++ block)
unfolding internet_header datagram_header tap_header datagram_of
datagram_there channel place block long = rw long refl

payload_there : (channel : Channel) (place : Place) (block : List ℕ) → length block ≡ 23 →
    payload_of (datagram_header ++ tap_header channel place ++ block) ≡ Some (tap_header channel place ++ block)
unfolding datagram_header tap_header payload_of
payload_there channel place block long =
    rw long (ap (λ xs. Some (tap_header channel place ++ xs)) (take_all 23 block (omega (arith, long))))

block_there : (channel : Channel) (place : Place) (block : List ℕ) → length block ≡ 23 →
    block_of anyone (tap_header channel place ++ block) ≡ Some (record
    { frame = frame_number channel place; block = block })
unfolding tap_header block_of
block_there BesideSdcch4 place block long =
    rw long (ap (λ (f : ℕ). Some (record { frame = f; block = block }))
    (big_number-reads_back 4 (frame_number BesideSdcch4 place) (15 ∷ 0 ∷ 2 ∷ 0 ∷ block)
    (frame_fits BesideSdcch4 place)))
block_there BesideSdcch8 place block long =
    rw long (ap (λ (f : ℕ). Some (record { frame = f; block = block }))
    (big_number-reads_back 4 (frame_number BesideSdcch8 place) (12 ∷ 0 ∷ 2 ∷ 0 ∷ block)
    (frame_fits BesideSdcch8 place)))

sent_there : (channel : Channel) (place : Place) (block : List ℕ) → length block ≡ 23 →
    sent_in Internet anyone (inside_of channel place block)
    ≡ Some (record { frame = frame_number channel place; block = block })
unfolding sent_in internet_of
sent_there channel place block long =
    rw (datagram_there channel place block long) (rw (payload_there channel place block long)
    (block_there channel place block long))

-- a packet of the capture
abbrev pub packet_at : Start → Channel → Place → List ℕ → Packet
packet_at start channel place block = record {
  link = 228;
  time = Some (packet_time LowFirst Microsecond (packet start channel place block));
  octets = inside_of channel place block;
}

-- the section that the capture is
abbrev pub whole_file : Section
whole_file = record { format = Classic 228 Microsecond; order = LowFirst; interfaces = [] }

packet_brings : (start : Start) (channel : Channel) (place : Place) (block : List ℕ) → length block ≡ 23 →
    Brings whole_file (packet start channel place block)
    (record { section = whole_file; packet = Some (packet_at start channel place block) })
unfolding packet record_header internet_header datagram_header tap_header
packet_brings start channel place block long = record {
  is = record {
    long = rw long (lit≤ tt);
    whole = rw long refl;
  };
  brings = refl;
}

-- where it stands
place_there : (channel : Channel) (place : Place) → place.block < 4 →
    place_in (frame_number channel place) ≡ place.block
place_there BesideSdcch4 place few = omega arith
place_there BesideSdcch8 place few = omega arith

slot_there : (channel : Channel) (place : Place) → place.block < 4 →
    slot_of_frame (frame_number channel place) ≡ place.slot % 6656
slot_there BesideSdcch4 place few = omega arith
slot_there BesideSdcch8 place few = omega arith

same_slot : (slot : ℕ) → nearest (record { first = 0; slot = slot }) (slot % 6656) ≡ Some slot
same_slot slot =
    let none : ahead ((0 + slot) % 6656) (slot % 6656) ≡ 0 = omega arith in
    rw none (ap Some (let e : slot + 0 ≡ slot = omega arith in e))

next_slot : (slot : ℕ) → nearest (record { first = 0; slot = slot }) ((slot + 1) % 6656) ≡ Some (slot + 1)
next_slot slot =
    let one : ahead ((0 + slot) % 6656) ((slot + 1) % 6656) ≡ 1 = omega arith in
    rw one refl

-- a track leads to a slot: the next block stands there, and the slot is then the latest
abbrev pub Leads : Option Track → (slot : ℕ) → Type 0
Leads track slot =
    (followed track (slot % 6656) ≡ Some (record { first = 0; slot = slot }))
    × (latest track (record { first = 0; slot = slot }) ≡ record { first = 0; slot = slot })

stands_at : (slot n : ℕ) → n ≡ slot →
    ◌≡◌ {A = Track} (record { first = 0; slot = n }) (record { first = 0; slot = slot })
stands_at slot n is = ap (λ (it : ℕ). let there : Track = record { first = 0; slot = it } in there) is

leads_same : (slot : ℕ) → Leads (Some (record { first = 0; slot = slot })) slot
unfolding followed
leads_same slot = (rw (same_slot slot) refl, stands_at slot (max slot slot) (omega arith))

leads_next : (slot : ℕ) → Leads (Some (record { first = 0; slot = slot })) (slot + 1)
unfolding followed
leads_next slot = (rw (next_slot slot) refl, stands_at (slot + 1) (max slot (slot + 1)) (omega arith))

leads_first : Leads None 0
unfolding followed
leads_first = (refl, refl)

-- the blocks of a tape of which these are known
abbrev pub sofar : (done : List (List ℕ)) (left : ℕ) → List (Option (List ℕ))
sofar done left = map Some done ++ replicate left None

get_next : (done : List (List ℕ)) (left : ℕ) → slice_get (sofar done (suc left)) (length done) ≡ Some None
get_next [] left = refl
get_next (block ∷ done) left = get_next done left

set_next : (done : List (List ℕ)) (left : ℕ) (block : List ℕ) →
    slice_set (sofar done (suc left)) (length done) (Some block) ≡ sofar (done ++ block ∷ []) left
set_next [] left block = refl
set_next (first ∷ done) left block = ap (λ blocks. Some first ∷ blocks) (set_next done left block)

put_next : (done : List (List ℕ)) (left place : ℕ) (block : List ℕ) → length done ≡ place →
    put (sofar done (suc left)) place block ≡ Some (sofar (done ++ block ∷ []) left)
unfolding put
put_next done left place block is =
    ap (λ n. put_at (sofar done (suc left)) n block (slice_get (sofar done (suc left)) n)) (sym is)
    ∙ ap (put_at (sofar done (suc left)) (length done) block) (get_next done left)
    ∙ ap Some (set_next done left block)

-- one block more
abbrev pub at : Cell → (slot block : ℕ) → Place
at cell slot block = record { tape = 0; cell = cell; slot = slot; block = block }

with_next : (channel : Channel) (cell : Cell) (slot block : ℕ) (octets : List ℕ) (track : Option Track)
    (done : List (List ℕ)) (left : ℕ) → block < 4 → nat_lt block 4 ≡ true → length done ≡ 4 * slot + block →
    Leads track slot →
    with_block (record { track = track; blocks = sofar done (suc left) })
    (record { frame = frame_number channel (at cell slot block); block = octets })
    ≡ Ok (record { track = Some (record { first = 0; slot = slot }); blocks = sofar (done ++ octets ∷ []) left })
unfolding with_block
with_next channel cell slot block octets track done left few few_is many leads =
    let place : Place = at cell slot block in
    let there : length done ≡ 4 * slot + place_in (frame_number channel place) =
    many ∙ ap (λ n. 4 * slot + n) (sym (place_there channel place few)) in
    rw (place_there channel place few) (rw few_is (rw (slot_there channel place few) (rw leads.0
    (rw (put_next done left (4 * slot + place_in (frame_number channel place)) octets there) (rw leads.1 refl)))))

next_packet : (start : Start) (channel : Channel) (cell : Cell) (slot block : ℕ) (octets : List ℕ)
    (track : Option Track)
    (done : List (List ℕ)) (left : ℕ) → length octets ≡ 23 →
    block < 4 → nat_lt block 4 ≡ true → length done ≡ 4 * slot + block →
    Leads track slot →
    after_packet anyone (record { track = track; blocks = sofar done (suc left) })
    (packet_at start channel (at cell slot block) octets)
    ≡ Ok (record { track = Some (record { first = 0; slot = slot }); blocks = sofar (done ++ octets ∷ []) left })
unfolding after_packet
next_packet start channel cell slot block octets track done left long few few_is many leads =
    ap (after_sent (record { track = track; blocks = sofar done (suc left) }))
    (sent_there channel (at cell slot block) octets long)
    ∙ with_next channel cell slot block octets track done left few few_is many leads

-- the packets of blocks of a slot, from this one on
abbrev pub packets_in : Start → Channel → Cell → (slot block : ℕ) → List (List ℕ) → List Packet
packets_in start channel cell slot block [] = []
packets_in start channel cell slot block (octets ∷ rest) =
    packet_at start channel (at cell slot block) octets ∷ packets_in start channel cell slot (block + 1) rest

-- the packets of slots
abbrev pub packets_on : Start → Channel → Cell → (slot : ℕ) → List (List ℕ) → List Packet
packets_on start channel cell slot [] = []
packets_on start channel cell slot (octets ∷ rest) =
    packets_in start channel cell slot 0 (blocks_in_slot octets) ++ packets_on start channel cell (slot + 1) rest

-- their octets in the file, with their headers
abbrev pub pieces_in : Start → Channel → Cell → (slot block : ℕ) → List (List ℕ) → List (List ℕ)
pieces_in start channel cell slot block [] = []
pieces_in start channel cell slot block (octets ∷ rest) =
    packet start channel (at cell slot block) octets ∷ pieces_in start channel cell slot (block + 1) rest

-- those of slots
abbrev pub pieces_on : Start → Channel → Cell → (slot : ℕ) → List (List ℕ) → List (List ℕ)
pieces_on start channel cell slot [] = []
pieces_on start channel cell slot (octets ∷ rest) =
    pieces_in start channel cell slot 0 (blocks_in_slot octets) ++ pieces_on start channel cell (slot + 1) rest

in_joined : (start : Start) (channel : Channel) (cell : Cell) (slot block : ℕ) (blocks : List (List ℕ)) →
    flat_map (λ piece. piece) (pieces_in start channel cell slot block blocks)
    ≡ packets_of_blocks start channel 0 cell slot block blocks
in_joined start channel cell slot block [] = refl
in_joined start channel cell slot block (octets ∷ rest) =
    ap (λ xs. packet start channel (at cell slot block) octets ++ xs)
    (in_joined start channel cell slot (block + 1) rest)

slot_joined : (start : Start) (channel : Channel) (cell : Cell) (slot : ℕ) (octets : List ℕ) →
    flat_map (λ piece. piece) (pieces_in start channel cell slot 0 (blocks_in_slot octets))
    ≡ packets_of_slot start channel 0 cell slot octets
unfolding packets_of_slot
slot_joined start channel cell slot octets = in_joined start channel cell slot 0 (blocks_in_slot octets)

on_joined : (start : Start) (channel : Channel) (cell : Cell) (slot : ℕ) (slots : List (List ℕ)) →
    flat_map (λ piece. piece) (pieces_on start channel cell slot slots)
    ≡ packets_of_slots (record { channel = channel; slots = All; start = start }) 0 cell slot slots
on_joined start channel cell slot [] = refl
on_joined start channel cell slot (octets ∷ rest) =
    let front : List (List ℕ) = pieces_in start channel cell slot 0 (blocks_in_slot octets) in
    let back : List (List ℕ) = pieces_on start channel cell (slot + 1) rest in
    flat_map-append (λ piece. piece) front back
    ∙ ap (λ xs. xs ++ flat_map (λ piece. piece) back) (slot_joined start channel cell slot octets)
    ∙ ap (λ xs. packets_of_slot start channel 0 cell slot octets ++ xs) (on_joined start channel cell (slot + 1) rest)

bring-append : (here : Section) (front : List (List ℕ)) (between : Section) (first : List Packet)
    (back : List (List ℕ)) (there : Section) (second : List Packet) → BringAll here front between first →
    BringAll between back there second → BringAll here (front ++ back) there (first ++ second)
bring-append here [] between first back there second these those =
    subst (λ packets. BringAll here back there (packets ++ second)) (sym these.1)
    (subst (λ section. BringAll section back there second) these.0 those)
bring-append here (piece ∷ front) between first back there second these those = (
  these.0,
  these.1 ++ second,
  these.2,
  ap (λ packets. packets ++ second) these.3 ∙ append_assoc (brought_in these.0.packet) these.1 second,
  bring-append these.0.section front between these.1 back there second these.4 those,
)

in_brings : (start : Start) (channel : Channel) (cell : Cell) (slot block : ℕ) (blocks : List (List ℕ)) →
    AllByRecursion (λ block. length block ≡ 23) blocks →
    BringAll whole_file (pieces_in start channel cell slot block blocks) whole_file
    (packets_in start channel cell slot block blocks)
in_brings start channel cell slot block [] each = (refl, refl)
in_brings start channel cell slot block (octets ∷ rest) each = (
  record { section = whole_file; packet = Some (packet_at start channel (at cell slot block) octets) },
  packets_in start channel cell slot (block + 1) rest,
  packet_brings start channel (at cell slot block) octets each.0,
  refl,
  in_brings start channel cell slot (block + 1) rest each.1,
)

on_brings : (start : Start) (channel : Channel) (cell : Cell) (slot : ℕ) (slots : List (List ℕ)) →
    AllByRecursion (λ slot. length slot ≡ 92) slots →
    BringAll whole_file (pieces_on start channel cell slot slots) whole_file (packets_on start channel cell slot slots)
on_brings start channel cell slot [] each = (refl, refl)
on_brings start channel cell slot (octets ∷ rest) each =
    bring-append whole_file (pieces_in start channel cell slot 0 (blocks_in_slot octets)) whole_file
    (packets_in start channel cell slot 0 (blocks_in_slot octets)) (pieces_on start channel cell (slot + 1) rest)
    whole_file
    (packets_on start channel cell (slot + 1) rest)
    (in_brings start channel cell slot 0 (blocks_in_slot octets) (chunks_each 23 4 octets each.0))
    (on_brings start channel cell (slot + 1) rest each.1)

-- packets one after another
after_append : (step : Known → Packet → Result Known AirFaultKind) (number : ℕ) (state : Result Known AirFaultKind)
    (front back : List Packet) (known : Known) → after_packets step number state front ≡ Ok known →
    after_packets step number state (front ++ back)
    ≡ after_packets step (number + length front) (Ok known) back
after_append step number (Ok old) [] back known is =
    let same : old ≡ known = cc in
    let here : number ≡ number + length {A = Packet} [] = omega arith in
    ap (λ k. after_packets step number (Ok k) back) same
    ∙ ap (λ n. after_packets step n (Ok known) back) here
after_append step number (Err why) [] back known is = cc
after_append step number (Ok old) (first ∷ front) back known is =
    let next : number + 1 + length front ≡ number + length (first ∷ front) = omega arith in
    after_append step (number + 1) (step old first) front back known is
    ∙ ap (λ n. after_packets step n (Ok known) back) next
after_append step number (Err why) (first ∷ front) back known is = cc

-- what is known after a slot
abbrev pub known_at : (slot : ℕ) → (done : List (List ℕ)) (left : ℕ) → Known
known_at slot done left = record { track = Some (record { first = 0; slot = slot }); blocks = sofar done left }

slot_taken : (start : Start) (channel : Channel) (cell : Cell) (slot number : ℕ) (octets : List ℕ)
    (track : Option Track)
    (done : List (List ℕ)) (left : ℕ) → length octets ≡ 92 → length done ≡ 4 * slot →
    Leads track slot →
    after_packets (after_packet anyone) number (Ok (record {
      track = track;
      blocks = sofar done (suc (suc (suc (suc left))));
    }))
    (packets_in start channel cell slot 0 (blocks_in_slot octets))
    ≡ Ok (known_at slot (done ++ blocks_in_slot octets) left)
slot_taken start channel cell slot number octets track done left long many leads =
    let each : AllByRecursion (λ block. length block ≡ 23) (blocks_in_slot octets) = chunks_each 23 4 octets long in
    let a : List ℕ = take 23 octets in
    let b : List ℕ = take 23 (drop 23 octets) in
    let c : List ℕ = take 23 (drop 23 (drop 23 octets)) in
    let d : List ℕ = take 23 (drop 23 (drop 23 (drop 23 octets))) in
    let track' : Option Track = Some (record { first = 0; slot = slot }) in
    let one : List (List ℕ) = done ++ a ∷ [] in
    let two : List (List ℕ) = one ++ b ∷ [] in
    let three : List (List ℕ) = two ++ c ∷ [] in
    let many1 : length one ≡ 4 * slot + 1 = length_push done a ∙ ap (λ n. n + 1) many in
    let many2 : length two ≡ 4 * slot + 2 = length_push one b ∙ omega (arith, many1) in
    let many3 : length three ≡ 4 * slot + 3 = length_push two c ∙ omega (arith, many2) in
    let whole : ((((done ++ a ∷ []) ++ b ∷ []) ++ c ∷ []) ++ d ∷ []) ≡ done ++ blocks_in_slot octets =
    simp append_assoc in
    ap (λ state. after_packets (after_packet anyone) (number + 1) state
    (packets_in start channel cell slot 1 (b ∷ c ∷ d ∷ [])))
    (next_packet start channel cell slot 0 a track done (suc (suc (suc left))) each.0 (lit< tt) refl
    (omega (arith, many)) leads)
    ∙ ap (λ state. after_packets (after_packet anyone) (number + 1 + 1) state
    (packets_in start channel cell slot 2 (c ∷ d ∷ [])))
    (next_packet start channel cell slot 1 b track' one (suc (suc left)) each.1.0 (lit< tt) refl many1
    (leads_same slot))
    ∙ ap (λ state. after_packets (after_packet anyone) (number + 1 + 1 + 1) state
    (packets_in start channel cell slot 3 (d ∷ [])))
    (next_packet start channel cell slot 2 c track' two (suc left) each.1.1.0 (lit< tt) refl many2 (leads_same slot))
    ∙ ap (λ state. after_packets (after_packet anyone) (number + 1 + 1 + 1 + 1) state [])
    (next_packet start channel cell slot 3 d track' three left each.1.1.1.0 (lit< tt) refl many3 (leads_same slot))
    ∙ ap (λ blocks. Ok (known_at slot blocks left)) whole

-- all slots
all_taken : (start : Start) (channel : Channel) (cell : Cell) (slot number : ℕ) (slots : List (List ℕ))
    (track : Option Track)
    (done : List (List ℕ)) → AllByRecursion (λ slot. length slot ≡ 92) slots → length done ≡ 4 * slot →
    Leads track slot →
    (known : Known)
    × (after_packets (after_packet anyone) number (Ok (record
    { track = track; blocks = sofar done (4 * length slots) }))
    (packets_on start channel cell slot slots) ≡ Ok known)
    × (known.blocks ≡ map Some (done ++ blocks_of_slots slots))
    × (is_some track ≡ true ⊎ 0 < length slots → is_some known.track ≡ true)
all_taken start channel cell slot number [] track done each many leads = (
  record { track = track; blocks = sofar done (4 * length {A = List ℕ} []) },
  refl,
  append-nil (map Some done) ∙ ap (map Some) (sym (append-nil done)),
  λ some. elim some [
    | inl before ↦ before
    | inr more ↦ absurd (omega (arith, more))
  ],
)
all_taken start channel cell slot number (octets ∷ rest) track done each many leads =
    let blocks : List (List ℕ) = blocks_in_slot octets in
    let left : ℕ = 4 * length rest in
    let four : 4 * length (octets ∷ rest) ≡ suc (suc (suc (suc left))) = omega arith in
    let front : List Packet = packets_in start channel cell slot 0 blocks in
    let back : List Packet = packets_on start channel cell (slot + 1) rest in
    let after : length (done ++ blocks) ≡ 4 * (slot + 1) =
    omega (arith, length-append done blocks, chunks_long 23 4 octets, many) in
    let others = all_taken start channel cell (slot + 1) (number + length front) rest
    (Some (record { first = 0; slot = slot })) (done ++ blocks) each.1 after (leads_next slot) in (
      others.0,
      ap (λ n. after_packets (after_packet anyone) number (Ok (record { track = track; blocks = sofar done n }))
          (front ++ back))
          four
          ∙ after_append (after_packet anyone) number
          (Ok (record { track = track; blocks = sofar done (suc (suc (suc (suc left)))) })) front back
          (known_at slot (done ++ blocks) left)
          (slot_taken start channel cell slot number octets track done left each.0 many leads)
          ∙ others.1,
      others.2 ∙ ap (map Some) (append_assoc done blocks (blocks_of_slots rest)),
      λ some. others.3 (inl refl),
    )

all_known : (blocks : List (List ℕ)) → blocks_in (map Some blocks) ≡ blocks
all_known [] = refl
all_known (block ∷ blocks) = ap (λ rest. block ∷ rest) (all_known blocks)

packets_taken : (wanted : Wanted) (start : Start) (channel : Channel) (cell : Cell) (slots : List (List ℕ)) →
    wanted.from ≡ anyone → slots_taken wanted ≡ length slots → AllByRecursion (λ slot. length slot ≡ 92) slots →
    (known : Known) × (taken (for_tape wanted) (packets_on start channel cell 0 slots) ≡ Ok known)
    × (known.blocks ≡ map Some (blocks_of_slots slots)) × (0 < length slots → is_some known.track ≡ true)
unfolding taken
packets_taken wanted start channel cell slots anywhere many each =
    let all = all_taken start channel cell 0 0 slots None [] each refl leads_first in (
      all.0,
      ap (λ from. after_packets (after_packet from) 0 (Ok (nothing_known (slots_taken wanted)))
          (packets_on start channel cell 0 slots)) anywhere
          ∙ ap (λ n. after_packets (after_packet anyone) 0 (Ok (nothing_known n))
          (packets_on start channel cell 0 slots))
          many
          ∙ all.1,
      all.2,
      λ some. all.3 (inr some),
    )

-- the file begins with the header, and goes on with these octets
opens_whole : (input after : List ℕ) → input ≡ file_header ++ after → Opens input whole_file after
opens_whole input after split = inl (record {
  header = file_header;
  split = split;
  long = header_long;
  order = LowFirst;
  order_is = header_order;
  link = Internet;
  link_is = ap link_numbered header_link;
  section_is =
      ap (λ link. record { format = Classic link Microsecond; order = LowFirst; interfaces = [] }) (sym header_link)
      ∙ ap (λ unit. record {
        format = Classic (link_number LowFirst file_header) unit;
        order = LowFirst;
        interfaces =
            [];
      })
      (sym header_unit);
})

-- the capture of a tape without a slot has no packet
pub nothing_there : CaptureOfNoSlotHasNoBlock
unfolding taken
nothing_there settings cell wanted = record {
  known = nothing_known (slots_taken wanted);
  file = record {
    here = whole_file;
    after = [];
    opens = opens_whole (capture settings (tape_with cell [] ∷ [])) [] refl;
    so = record {
      there = whole_file;
      number = 0;
      are = record {
        pieces = [];
        packets = [];
        split = refl;
        bring = (refl, refl);
        many = refl;
        are_taken = refl;
      };
    };
  };
  none = refl;
}

-- the tape of a capture of a tape is that tape
pub there_and_back : CaptureHasTheTape
there_and_back cell channel start slots some few each =
    let wanted : Wanted = record { cell = cell; slots = Some (length slots); first_slot = 0; from = anyone } in
    let settings : Settings = record { channel = channel; slots = All; start = start } in
    let said : Cell = cell_in (tape_octets cell (length slots) []) in
    let pieces : List (List ℕ) = pieces_on start channel said 0 slots in
    let packets : List Packet = packets_on start channel said 0 slots in
    let taken_all = packets_taken wanted start channel said slots refl (omega arith) each in
    let blocks : octets_of_blocks (blocks_in taken_all.0.blocks) ≡ flat_map (λ slot. slot) slots =
    ap (λ known. octets_of_blocks (blocks_in known)) taken_all.2
    ∙ ap octets_of_blocks (all_known (blocks_of_slots slots)) ∙ blocks_joined slots each in
    record {
      known = taken_all.0;
      file = record {
        here = whole_file;
        after = flat_map (λ piece. piece) pieces;
        opens =
            opens_whole (capture settings (tape_with cell slots ∷ [])) (flat_map (λ piece. piece) pieces)
            (ap (λ octets. file_header ++ octets)
            (append-nil (packets_of_slots settings 0 said 0 slots) ∙ sym (on_joined start channel said 0 slots)));
        so = record {
          there = whole_file;
          number = length packets;
          are = record {
            pieces = pieces;
            packets = packets;
            split = sym (append-nil (flat_map (λ piece. piece) pieces));
            bring = on_brings start channel said 0 slots each;
            many = refl;
            are_taken = taken_all.1;
          };
        };
      };
      some = taken_all.3 some;
      written =
          rw (zero-min (length slots)) (ap (λ octets. tape_octets cell (length slots) [] ++ octets) (sym blocks));
    }
