-- Steps over tapes: blocks that are fed, slots that are read, and whole tapes.
use Rattle.std.proofs.Common.{◌≡◌, ℕ, ◌+◌, ◌*◌, ◌/◌, ◌<◌, ◌≤◌, List, [], ◌∷◌, ◌++◌, Option, None, Some, IfSome, length}
use Rattle.std.proofs.Common.{take, drop, get_or, zero, suc, refl, sym, ap, ◌∙◌, subst, arith, append_assoc, append-nil}
use Rattle.std.specs.Io.KnownBytes.{Consumes, IsAtEnd}
use Rattle.std.specs.List.{AllByRecursion}
use Rattle.std.specs.Simd.{first_chunks}
use Rattle.std.proofs.KnownBytes.{Consumes-trans, Consumes-nil}
use borrow.Rule.Slice.PartMut.{put_mid, post_of}
use Rattle.std.proofs.Math.Seq.{take-append-add}
use Rattle.std.proofs.lemmas.Grind.{flat_map-append}
use Rattle.std.proofs.lemmas.List.{length-append, length-drop, length-take-le, take-append-drop, take-append-le}
use Rattle.std.proofs.Math.ListN.{get_or-append}
use Rattle.handset.specs.Reception.{ShownMessage, shown_in}
use Rattle.handset.specs.Keeping.{HandsetState, HasRead}
use Rattle.handset.specs.declared.tape.TapeFault.{TapeFault}
use Rattle.handset.specs.declared.tape.TapeFault.TheVariants as fault
use Rattle.handset.specs.Tape.{TapeReading, IsTapeFault, IsTapesFault, IsTape, IsLongTape, IsShortTape}
use Rattle.handset.specs.Tape.{AreSlots, AreJoined, AreTapes, BeginsWith, IsShort, IsLong, IsCut, IsOversized}
use Rattle.handset.specs.Tape.{octets_of_blocks, slots_in, reading_from, max_slots, max_tapes}
use Rattle.handset.specs.TapeSteps.{IsNextTapeFault, ReadsBlocks, ReadsPiece, ReadsTape}

-- the reader gave the blocks of this many slots, and a handset has read them
pub record Fed (old new : Option (List ℕ)) (slots : ℕ) (handset : HandsetState) : Type 0 where
  pub blocks : List (List ℕ)
  pub consumed : Consumes old new (octets_of_blocks blocks)
  pub slots_are : AreSlots slots blocks
  pub read : HasRead handset blocks

-- the reader gave tapes with these readings
pub record ReadsTapes (old new : Option (List ℕ)) (readings : List TapeReading) : Type 0 where
  pub octets : List ℕ
  pub consumed : Consumes old new octets
  pub joined : AreJoined octets readings

-- what is known of an input, by what is known of the octets that are left of it
pub behind : (P Q : List ℕ → Type 0) (a b : Option (List ℕ)) (octets : List ℕ) → Consumes a b octets → IfSome b P →
    ((rest : List ℕ) → P rest → Q (octets ++ rest)) → IfSome a Q
behind P Q None b octets consumed left all = tt
behind P Q (Some input) None octets consumed left all = absurd consumed
behind P Q (Some input) (Some rest) octets consumed left all = subst Q (sym consumed) (all rest left)

-- nothing is left of it
pub at_end : (Q : List ℕ → Type 0) (a b : Option (List ℕ)) (octets : List ℕ) → Consumes a b octets → IsAtEnd b
    → Q octets →
    IfSome a Q
at_end Q None b octets consumed end all = tt
at_end Q (Some input) None octets consumed end all = absurd consumed
at_end Q (Some input) (Some rest) octets consumed end all =
    subst Q (sym (consumed ∙ ap (λ l. octets ++ l) end ∙ append-nil octets)) all

-- a buffer filled so far, and one read more
pub front-more : (a b c : Option (List ℕ)) (filled count k : ℕ) (buffer new : List ℕ) → filled ≤ length buffer →
    count ≤ length new →
    Consumes a b (take filled buffer) → Consumes b c (take count new) →
    Consumes a c (take (filled + count) (put_mid filled k buffer new))
front-more a b c filled count k buffer new within few first second =
    let front : List ℕ = take filled buffer in
    let back : List ℕ = post_of filled k buffer in
    let long : length front ≡ filled = length-take-le filled buffer within in
    let joined : take (filled + count) (front ++ (new ++ back)) ≡ front ++ take count new =
    ap (λ n. take (n + count) (front ++ (new ++ back))) (sym long) ∙ take-append-add front (new ++ back) count
    ∙ ap (λ l. front ++ l) (take-append-le count new back few) in
    subst (Consumes a c) (sym joined) (Consumes-trans a b c front (take count new) first second)

-- octets cut into blocks are these blocks, one after another
pub chunks_joined : (k : ℕ) (xs : List ℕ) → length xs ≡ 23 * k → octets_of_blocks (first_chunks 23 k xs) ≡ xs
chunks_joined zero [] whole = refl
chunks_joined zero (x ∷ xs) whole = absurd (omega arith)
chunks_joined (suc k) xs whole =
    ap (λ rest. take 23 xs ++ rest) (chunks_joined k (drop 23 xs) (omega (arith, length-drop 23 xs)))
    ∙ take-append-drop 23 xs

-- so many blocks are as many
pub chunks_long : (k : ℕ) (xs : List ℕ) → length (first_chunks 23 k xs) ≡ k
chunks_long zero xs = refl
chunks_long (suc k) xs = ap suc (chunks_long k (drop 23 xs))

-- each block has 23 octets
pub chunks_each : (k : ℕ) (xs : List ℕ) → length xs ≡ 23 * k →
    AllByRecursion (λ block. length block ≡ 23) (first_chunks 23 k xs)
chunks_each zero xs whole = tt
chunks_each (suc k) xs whole =
    (length-take-le 23 xs (omega arith), chunks_each k (drop 23 xs) (omega (arith, length-drop 23 xs)))

-- blocks of 23 octets have so many
each-append : (front rest : List (List ℕ)) → AllByRecursion (λ block. length block ≡ 23) front →
    AllByRecursion (λ block. length block ≡ 23) rest →
    AllByRecursion (λ block. length block ≡ 23) (front ++ rest)
each-append [] rest first second = second
each-append (block ∷ front) rest first second = (first.0, each-append front rest first.1 second)

-- blocks of 23 octets have 23 times as many octets
pub octets_long : (blocks : List (List ℕ)) → AllByRecursion (λ block. length block ≡ 23) blocks →
    length (octets_of_blocks blocks) ≡ 23 * length blocks
octets_long [] each = refl
octets_long (block ∷ blocks) each =
    let here : length block ≡ 23 = each.0 in
    let rest : length (octets_of_blocks blocks) ≡ 23 * length blocks = octets_long blocks each.1 in
    omega (arith, length-append block (octets_of_blocks blocks), here, rest)

-- before anything is read
pub Fed-none : (old : Option (List ℕ)) (handset : HandsetState) → HasRead handset [] → Fed old old 0 handset
Fed-none old handset read = record {
  blocks = [];
  consumed = Consumes-nil old;
  slots_are = record { four = refl; each = tt };
  read = read;
}

-- the octets of some slots more
pub Fed-more : (a b c : Option (List ℕ)) (slots more all : ℕ) (size : ℕ) (before after : HandsetState) →
    Fed a b slots before → ReadsPiece b c size before after → all ≡ slots + more → size ≡ 92 * more → Fed a c all after
Fed-more a b c slots more all size before after fed piece sum whole =
    let count : size / 23 ≡ 4 * more = omega arith in
    let long : length piece.octets ≡ 23 * (size / 23) = omega (arith, piece.long) in
    let chunks : List (List ℕ) = first_chunks 23 (size / 23) piece.octets in
    let joined : octets_of_blocks (fed.blocks ++ chunks) ≡ octets_of_blocks fed.blocks ++ piece.octets =
    flat_map-append (λ block. block) fed.blocks chunks
    ∙ ap (λ rest. octets_of_blocks fed.blocks ++ rest) (chunks_joined (size / 23) piece.octets long) in
    let four : length fed.blocks ≡ 4 * slots = fed.slots_are.four in
    record {
      blocks = fed.blocks ++ chunks;
      consumed =
          subst (Consumes a c) (sym joined)
          (Consumes-trans a b c (octets_of_blocks fed.blocks) piece.octets fed.consumed piece.consumed);
      slots_are = record {
        four = omega (arith, length-append fed.blocks chunks, chunks_long (size / 23) piece.octets, four);
        each = each-append fed.blocks chunks fed.slots_are.each (chunks_each (size / 23) piece.octets long);
      };
      read = piece.read fed.blocks fed.read;
    }

Fed-whole : (old new : Option (List ℕ)) (slots all : ℕ) (handset : HandsetState) (shown : List ShownMessage) →
    Fed old new slots handset → slots ≡ all →
    ((blocks : List (List ℕ)) → HasRead handset blocks → shown ≡ shown_in blocks) → ReadsBlocks old new all shown
Fed-whole old new slots all handset shown fed same shows = record {
  blocks = fed.blocks;
  consumed = fed.consumed;
  slots_are = record { four = fed.slots_are.four ∙ ap (λ n. 4 * n) same; each = fed.slots_are.each };
  same = shows fed.blocks fed.read;
}

-- the end came before all slots
pub Fed-short : (a b : Option (List ℕ)) (slots more all size : ℕ) (handset : HandsetState) → Fed a b slots handset →
    IfSome b (λ left. length left < size) → slots + more ≤ all → size ≡ 92 * more →
    IfSome a (λ left. length left < 92 * all)
Fed-short a b slots more all size handset fed short within whole =
    let front : List ℕ = octets_of_blocks fed.blocks in
    let four : length fed.blocks ≡ 4 * slots = fed.slots_are.four in
    behind (λ left. length left < size) (λ left. length left < 92 * all) a b front fed.consumed short
    (λ rest less. omega (arith, length-append front rest, four, less, octets_long fed.blocks fed.slots_are.each))

-- the end came before all octets of a piece
pub piece-short : (a b : Option (List ℕ)) (octets : List ℕ) (count : ℕ) → Consumes a b octets → IsAtEnd b →
    length octets < count →
    IfSome a (λ left. length left < count)
piece-short a b octets count consumed end short = at_end (λ left. length left < count) a b octets consumed end short

-- a header says the same with what follows it
pub slots-header : (header rest : List ℕ) → length header ≡ 8 → slots_in (header ++ rest) ≡ slots_in header
slots-header header rest eight =
    let e4 : get_or (header ++ rest) 4 0 ≡ get_or header 4 0 = get_or-append header rest 0 4 (omega arith) in
    let e5 : get_or (header ++ rest) 5 0 ≡ get_or header 5 0 = get_or-append header rest 0 5 (omega arith) in
    let e6 : get_or (header ++ rest) 6 0 ≡ get_or header 6 0 = get_or-append header rest 0 6 (omega arith) in
    let e7 : get_or (header ++ rest) 7 0 ≡ get_or header 7 0 = get_or-append header rest 0 7 (omega arith) in
    rw (e4, e5, e6, e7) refl

-- a header and its blocks are a tape
pub ReadsTape-from : (a b c : Option (List ℕ)) (header : List ℕ) (shown : List ShownMessage) → length header ≡ 8 →
    slots_in header ≤ max_slots →
    Consumes a b header → ReadsBlocks b c (slots_in header) shown → ReadsTape a c (reading_from header shown)
ReadsTape-from a b c header shown eight few consumed blocks = record {
  octets = header ++ octets_of_blocks blocks.blocks;
  consumed = Consumes-trans a b c header (octets_of_blocks blocks.blocks) consumed blocks.consumed;
  tape = record {
    header = header;
    blocks = blocks.blocks;
    joined = refl;
    eight = eight;
    few = few;
    slots = blocks.slots_are;
    reading_is = ap (reading_from header) blocks.same;
  };
}

-- why there is no next tape
pub header-cut : (a b : Option (List ℕ)) (octets : List ℕ) → Consumes a b octets → IsAtEnd b → 0 < length octets →
    length octets < 8 → IfSome a IsCut
header-cut a b octets consumed end some short =
    at_end IsCut a b octets consumed end (record {
      some = some;
      few = λ headed. absurd (omega (arith, short, headed));
      inside = λ headed. absurd (omega (arith, short, headed));
    })

header-end : (a b : Option (List ℕ)) (octets : List ℕ) → Consumes a b octets → IsAtEnd b → length octets ≡ 0 →
    IsAtEnd a
header-end None b octets consumed end none = tt
header-end (Some left) None octets consumed end none = absurd consumed
header-end (Some left) (Some rest) [] consumed end none = consumed ∙ end
header-end (Some left) (Some rest) (octet ∷ octets) consumed end none = absurd (omega arith)

header-oversized : (a b : Option (List ℕ)) (header : List ℕ) → Consumes a b header → length header ≡ 8 →
    max_slots < slots_in header →
    IfSome a IsOversized
header-oversized None b header consumed eight many = tt
header-oversized (Some left) None header consumed eight many = absurd consumed
header-oversized (Some left) (Some rest) header consumed eight many =
    let long : length left ≡ length header + length rest = ap length consumed ∙ length-append header rest in
    let says : slots_in left ≡ slots_in header = ap slots_in consumed ∙ slots-header header rest eight in
    record {
      headed = omega (arith, long, eight);
      many = subst (λ n. max_slots < n) (sym says) many;
    }

blocks-cut : (a b : Option (List ℕ)) (header : List ℕ) → Consumes a b header → length header ≡ 8 →
    slots_in header ≤ max_slots →
    IfSome b (λ left. length left < 92 * slots_in header) → IfSome a IsCut
blocks-cut a b header consumed eight few short =
    behind (λ left. length left < 92 * slots_in header) IsCut a b header consumed short (λ rest less.
    let long : length (header ++ rest) ≡ length header + length rest = length-append header rest in
    let says : slots_in (header ++ rest) ≡ slots_in header = slots-header header rest eight in
    record {
      some = omega (arith, long, eight);
      few = λ _. subst (λ n. n ≤ max_slots) (sym says) few;
      inside = λ _. subst (λ n. length (header ++ rest) < 8 + 92 * n) (sym says) (omega (arith, long, eight, less));
    })

-- one tape and then the end
pub tape_whole : (a b : Option (List ℕ)) (reading : TapeReading) → ReadsTape a b reading → IsAtEnd b →
    IfSome a (λ input. IsTape input reading)
tape_whole a b reading reads end = at_end (λ input. IsTape input reading) a b reads.octets reads.consumed end reads.tape

-- a tape is as long as its header says
pub tape_long : (octets rest : List ℕ) (reading : TapeReading) → IsTape octets reading →
    (8 ≤ length octets) × (slots_in (octets ++ rest) ≡ reading.slots) × (length octets ≡ 8 + 92 * reading.slots)
tape_long octets rest reading tape =
    let eight : length tape.header ≡ 8 = tape.eight in
    let says : slots_in (octets ++ rest) ≡ slots_in tape.header =
    ap (λ o. slots_in (o ++ rest)) tape.joined
    ∙ ap slots_in (append_assoc tape.header (octets_of_blocks tape.blocks) rest)
    ∙ slots-header tape.header (octets_of_blocks tape.blocks ++ rest) eight in
    let told : reading.slots ≡ slots_in tape.header = ap (λ r. r.slots) tape.reading_is in
    let long : length octets ≡ length tape.header + length (octets_of_blocks tape.blocks) =
    ap length tape.joined ∙ length-append tape.header (octets_of_blocks tape.blocks) in
    let four : length tape.blocks ≡ 4 * slots_in tape.header = tape.slots.four in
    let blocks : length (octets_of_blocks tape.blocks) ≡ 23 * length tape.blocks =
    octets_long tape.blocks tape.slots.each in
    (omega (arith, long, eight), says ∙ sym told, omega (arith, long, eight, four, blocks, told))

-- an input that goes on after its one tape is too long
pub tape_goes_on : (a b : Option (List ℕ)) (reading : TapeReading) → ReadsTape a b reading →
    IfSome b (λ left. 0 < length left) → IfSome a IsLongTape
tape_goes_on a b reading reads more =
    behind (λ left. 0 < length left) IsLongTape a b reads.octets reads.consumed more (λ rest some.
    let input : List ℕ = reads.octets ++ rest in
    let long : length input ≡ length reads.octets + length rest = length-append reads.octets rest in
    let tape : (8 ≤ length reads.octets) × (slots_in input ≡ reading.slots)
    × (length reads.octets ≡ 8 + 92 * reading.slots) =
    tape_long reads.octets rest reading reads.tape in (
      omega (arith, long, tape.0),
      λ _. subst (λ n. 8 + 92 * n < length input) (sym tape.1)
          (omega (arith, long, tape.2, some)),
    ))

cut_is_short : (input : List ℕ) → IsCut input → IsShortTape input
cut_is_short input cut headed = (cut.few headed, cut.inside headed)

oversized_is_long : (input : List ℕ) → IsOversized input → IsLongTape input
oversized_is_long input oversized =
    (oversized.headed, λ few. let many : max_slots < slots_in input = oversized.many in absurd (omega arith))

-- why there is no tape: it ends before the first octet, or inside, or says too many slots
pub end_is_short : (a : Option (List ℕ)) → IsAtEnd a → IfSome a IsShortTape
end_is_short None end = tt
end_is_short (Some input) end = λ headed. let none : length input ≡ 0 = ap length end in
    absurd (omega (arith, headed, none))

next_is_tape : (a : Option (List ℕ)) (why : TapeFault) → IfSome a (λ left. IsNextTapeFault left why) →
    IfSome a (λ input. IsTapeFault input why)
next_is_tape None why next = tt
next_is_tape (Some input) fault.Short next = cut_is_short input next
next_is_tape (Some input) fault.Long next = oversized_is_long input next
next_is_tape (Some input) fault.ReadFailed next = tt
next_is_tape (Some input) fault.Refused next = tt

-- tapes and one more
joined-more : (octets tape : List ℕ) (readings : List TapeReading) (reading : TapeReading) → AreJoined octets readings →
    IsTape tape reading →
    AreJoined (octets ++ tape) (readings ++ reading ∷ [])
joined-more octets tape [] reading joined is =
    (tape, [], ap (λ o. o ++ tape) joined ∙ sym (append-nil tape), is, refl)
joined-more octets tape (first ∷ readings) reading joined is = (
  joined.0,
  joined.1 ++ tape,
  ap (λ o. o ++ tape) joined.2 ∙ append_assoc joined.0 joined.1 tape,
  joined.3,
  joined-more joined.1 tape readings reading joined.4 is,
)

-- no tape is read of nothing
pub ReadsTapes-none : (old : Option (List ℕ)) → ReadsTapes old old []
ReadsTapes-none old = record { octets = []; consumed = Consumes-nil old; joined = refl }

-- one tape more is read after those before it
pub ReadsTapes-more : (a b c : Option (List ℕ)) (readings : List TapeReading) (reading : TapeReading) →
    ReadsTapes a b readings → ReadsTape b c reading →
    ReadsTapes a c (readings ++ reading ∷ [])
ReadsTapes-more a b c readings reading reads next = record {
  octets = reads.octets ++ next.octets;
  consumed = Consumes-trans a b c reads.octets next.octets reads.consumed next.consumed;
  joined = joined-more reads.octets next.octets readings reading reads.joined next.tape;
}

tapes_whole : (a b : Option (List ℕ)) (readings : List TapeReading) → ReadsTapes a b readings → IsAtEnd b →
    length readings ≤ max_tapes →
    IfSome a (λ input. AreTapes input readings)
tapes_whole a b readings reads end few =
    at_end (λ input. AreTapes input readings) a b reads.octets reads.consumed end
    (record { joined = reads.joined; few = few })

-- the input begins with the tapes that were read
begins : (a b : Option (List ℕ)) (readings : List TapeReading) (reads : ReadsTapes a b readings) (rest : List ℕ) →
    BeginsWith (reads.octets ++ rest) readings rest
begins a b readings reads rest = record { front = reads.octets; split = refl; joined = reads.joined }

tapes_cut : (a b : Option (List ℕ)) (readings : List TapeReading) → ReadsTapes a b readings → IfSome b IsCut →
    length readings < max_tapes →
    IfSome a IsShort
tapes_cut a b readings reads cut few =
    behind IsCut IsShort a b reads.octets reads.consumed cut (λ rest inside.
    record { readings = readings; rest = rest; begins = begins a b readings reads rest; few = few; cut = inside })

tapes_oversized : (a b : Option (List ℕ)) (readings : List TapeReading) → ReadsTapes a b readings →
    IfSome b IsOversized → length readings < max_tapes →
    IfSome a IsLong
tapes_oversized a b readings reads oversized few =
    behind IsOversized IsLong a b reads.octets reads.consumed oversized (λ rest many.
    record {
      readings = readings;
      rest = rest;
      begins = begins a b readings reads rest;
      few = omega (arith, few);
      oversized = λ _. many;
      more = λ all. absurd (omega (arith, few, all));
    })

-- an input that goes on after the most tapes is too long
pub tapes_go_on : (a b : Option (List ℕ)) (readings : List TapeReading) → ReadsTapes a b readings →
    IfSome b (λ left. 0 < length left) → length readings ≡ max_tapes →
    IfSome a IsLong
tapes_go_on a b readings reads more all =
    behind (λ left. 0 < length left) IsLong a b reads.octets reads.consumed more (λ rest some.
    record {
      readings = readings;
      rest = rest;
      begins = begins a b readings reads rest;
      few = omega (arith, all);
      oversized = λ few. absurd (omega (arith, few, all));
      more = λ _. some;
    })

-- a fault of the next tape is one of the input
pub next_is_tapes : (a b : Option (List ℕ)) (readings : List TapeReading) (why : TapeFault) → ReadsTapes a b readings →
    length readings < max_tapes →
    IfSome b (λ left. IsNextTapeFault left why) → IfSome a (λ input. IsTapesFault input why)
next_is_tapes a b readings fault.Short reads few next = tapes_cut a b readings reads next few
next_is_tapes a b readings fault.Long reads few next = tapes_oversized a b readings reads next few
next_is_tapes None b readings fault.ReadFailed reads few next = tt
next_is_tapes (Some input) b readings fault.ReadFailed reads few next = tt
next_is_tapes None b readings fault.Refused reads few next = tt
next_is_tapes (Some input) b readings fault.Refused reads few next = tt
