-- Readings are unique, and no input is of two kinds: readable, short and long.
use Rattle.std.proofs.Common.{◌≡◌, ℕ, ◌+◌, ◌-◌, ◌*◌, ◌<◌, ◌≤◌, List, [], ◌∷◌, ◌++◌, length, take, drop, refl, sym, ap}
use Rattle.std.proofs.Common.{◌∙◌, subst, arith, append_assoc, append-nil}
use Rattle.std.specs.List.{AllByRecursion}
use Rattle.std.proofs.lemmas.List.{length-append}
use Rattle.std.proofs.Math.Seq.{take-append_seam}
use Rattle.handset.specs.Reception.{shown_in}
use Rattle.handset.specs.Tape.{TapeReading, IsTape, AreJoined, AreTapes, IsShort, IsLong, IsCut, IsOversized}
use Rattle.handset.specs.Tape.{octets_of_blocks, slots_in, reading_from, max_slots, max_tapes}
use Rattle.handset.specs.Laws.{TapeIsOneKind, TapesAreOneKind}
use Rattle.handset.proofs.TapeLaws.{tape_long}

-- two ways to cut a list at one place
pub front_same : (a b c d : List ℕ) → a ++ b ≡ c ++ d → length a ≡ length c → a ≡ c
front_same a b c d same long =
    sym (take-append_seam a b) ∙ ap (take (length a)) same ∙ ap (λ n. take n (c ++ d)) long ∙ take-append_seam c d

-- lists that are one and have fronts of one length have one back
pub back_same : (a b c d : List ℕ) → a ++ b ≡ c ++ d → length a ≡ length c → b ≡ d
back_same [] b [] d same long = same
back_same [] b (y ∷ c) d same long = absurd (omega arith)
back_same (x ∷ a) b [] d same long = absurd (omega arith)
back_same (x ∷ a) b (y ∷ c) d same long = back_same a b c d (ap (drop 1) same) (omega arith)

-- octets are those of one list of blocks
pub blocks_same : (blocks others : List (List ℕ)) → AllByRecursion (λ block. length block ≡ 23) blocks →
    AllByRecursion (λ block. length block ≡ 23) others →
    octets_of_blocks blocks ≡ octets_of_blocks others → blocks ≡ others
blocks_same [] [] each all same = refl
blocks_same [] (other ∷ others) each all same =
    let long : length (other ++ octets_of_blocks others) ≡ 0 = sym (ap length same) in
    let here : length other ≡ 23 = all.0 in
    absurd (omega (arith, long, here, length-append other (octets_of_blocks others)))
blocks_same (block ∷ blocks) [] each all same =
    let long : length (block ++ octets_of_blocks blocks) ≡ 0 = ap length same in
    let here : length block ≡ 23 = each.0 in
    absurd (omega (arith, long, here, length-append block (octets_of_blocks blocks)))
blocks_same (block ∷ blocks) (other ∷ others) each all same =
    let long : length block ≡ length other = each.0 ∙ sym all.0 in
    let first : block ≡ other = front_same block (octets_of_blocks blocks) other (octets_of_blocks others) same long in
    let rest : blocks ≡ others =
    blocks_same blocks others each.1 all.1
    (back_same block (octets_of_blocks blocks) other (octets_of_blocks others) same long) in
    ap (λ b. b ∷ blocks) first ∙ ap (λ l. other ∷ l) rest

-- octets are one tape
reading_same : (octets : List ℕ) (reading other : TapeReading) → IsTape octets reading → IsTape octets other →
    reading ≡ other
reading_same octets reading other tape twin =
    let same : tape.header ++ octets_of_blocks tape.blocks ≡ twin.header ++ octets_of_blocks twin.blocks =
    sym tape.joined ∙ twin.joined in
    let long : length tape.header ≡ length twin.header = tape.eight ∙ sym twin.eight in
    let header : tape.header ≡ twin.header =
    front_same tape.header (octets_of_blocks tape.blocks) twin.header (octets_of_blocks twin.blocks) same long in
    let blocks : tape.blocks ≡ twin.blocks =
    blocks_same tape.blocks twin.blocks tape.slots.each twin.slots.each
    (back_same tape.header (octets_of_blocks tape.blocks) twin.header (octets_of_blocks twin.blocks) same long) in
    tape.reading_is ∙ ap (λ h. reading_from h (shown_in tape.blocks)) header
    ∙ ap (λ b. reading_from twin.header (shown_in b)) blocks ∙ sym twin.reading_is

-- a tape that stands in front is told by what it stands in
pub tape_in_front : (input tape after : List ℕ) (reading : TapeReading) → input ≡ tape ++ after → IsTape tape reading →
    (8 ≤ length input) × (slots_in input ≤ max_slots) × (length tape ≡ 8 + 92 * slots_in input)
    × (length input ≡ length tape + length after)
tape_in_front input tape after reading split is =
    let long : length input ≡ length tape + length after = ap length split ∙ length-append tape after in
    let whole : (8 ≤ length tape) × (slots_in (tape ++ after) ≡ reading.slots)
    × (length tape ≡ 8 + 92 * reading.slots) = tape_long tape after reading is in
    let says : slots_in input ≡ reading.slots = ap slots_in split ∙ whole.1 in
    let told : reading.slots ≡ slots_in is.header = ap (λ r. r.slots) is.reading_is in
    let few : slots_in is.header ≤ max_slots = is.few in (
      omega (arith, long, whole.0),
      subst (λ n. n ≤ max_slots) (sym (says ∙ told)) few,
      whole.2 ∙ ap (λ n. 8 + 92 * n) (sym says),
      long,
    )

-- no tape stands in front
abbrev Stops : List ℕ → Type 0
Stops rest = 8 ≤ length rest → slots_in rest ≤ max_slots → length rest < 8 + 92 * slots_in rest

no_tape : (rest tape after : List ℕ) (reading : TapeReading) → Stops rest → rest ≡ tape ++ after → IsTape tape reading →
    ⊥
no_tape rest tape after reading stops split is =
    let front : (8 ≤ length rest) × (slots_in rest ≤ max_slots) × (length tape ≡ 8 + 92 * slots_in rest)
    × (length rest ≡ length tape + length after) =
    tape_in_front rest tape after reading split is in
    let short : length rest < 8 + 92 * slots_in rest = stops front.0 front.1 in
    omega (arith, short, front.2, front.3)

-- tapes up to where they stop are the same
same_stop : (room : ℕ) (readings others : List TapeReading) (front rest twin back : List ℕ) →
    front ++ rest ≡ twin ++ back →
    AreJoined front readings → AreJoined twin others → length readings ≤ room → length others ≤ room →
    (length readings < room → Stops rest) → (length others < room → Stops back) → (readings ≡ others) × (rest ≡ back)
same_stop room [] [] front rest twin back same joined others few least stops ends =
    (refl, ap (λ l. l ++ rest) (sym joined) ∙ same ∙ ap (λ l. l ++ back) others)
same_stop room [] (other ∷ others) front rest twin back same joined tapes few least stops ends =
    absurd (no_tape rest tapes.0 (tapes.1 ++ back) other (stops (omega arith))
    (ap (λ l. l ++ rest) (sym joined) ∙ same ∙ ap (λ l. l ++ back) tapes.2 ∙ append_assoc tapes.0 tapes.1 back) tapes.3)
same_stop room (reading ∷ readings) [] front rest twin back same joined tapes few least stops ends =
    absurd (no_tape back joined.0 (joined.1 ++ rest) reading (ends (omega arith))
    (ap (λ l. l ++ back) (sym tapes) ∙ sym same ∙ ap (λ l. l ++ rest) joined.2 ∙ append_assoc joined.0 joined.1 rest)
    joined.3)
same_stop room (reading ∷ readings) (other ∷ others) front rest twin back same joined tapes few least stops ends =
    let one : front ++ rest ≡ joined.0 ++ (joined.1 ++ rest) =
    ap (λ l. l ++ rest) joined.2 ∙ append_assoc joined.0 joined.1 rest in
    let two : front ++ rest ≡ tapes.0 ++ (tapes.1 ++ back) =
    same ∙ ap (λ l. l ++ back) tapes.2 ∙ append_assoc tapes.0 tapes.1 back in
    let long : length joined.0 ≡ length tapes.0 =
    (tape_in_front (front ++ rest) joined.0 (joined.1 ++ rest) reading one joined.3).2
    ∙ sym (tape_in_front (front ++ rest) tapes.0 (tapes.1 ++ back) other two tapes.3).2 in
    let cut : joined.0 ++ (joined.1 ++ rest) ≡ tapes.0 ++ (tapes.1 ++ back) = sym one ∙ two in
    let tape : joined.0 ≡ tapes.0 = front_same joined.0 (joined.1 ++ rest) tapes.0 (tapes.1 ++ back) cut long in
    let after : joined.1 ++ rest ≡ tapes.1 ++ back =
    back_same joined.0 (joined.1 ++ rest) tapes.0 (tapes.1 ++ back) cut long in
    let here : reading ≡ other =
    reading_same tapes.0 reading other (subst (λ o. IsTape o reading) tape joined.3) tapes.3 in
    let later : (readings ≡ others) × (rest ≡ back) =
    same_stop (room - 1) readings others joined.1 rest tapes.1 back after joined.4 tapes.4 (omega arith) (omega arith)
    (λ less. stops (omega (arith, less))) (λ less. ends (omega (arith, less))) in
    (ap (λ r. r ∷ readings) here ∙ ap (λ l. other ∷ l) later.0, later.1)

nothing_stops : Stops []
nothing_stops headed few = absurd (omega (arith, headed))

cut_stops : (rest : List ℕ) → IsCut rest → Stops rest
cut_stops rest cut headed few = cut.inside headed

oversized_stops : (rest : List ℕ) → IsOversized rest → Stops rest
oversized_stops rest oversized headed few = let many : max_slots < slots_in rest = oversized.many in
    absurd (omega (arith, many, few))

tapes_and_short : (input : List ℕ) (readings : List TapeReading) → AreTapes input readings → ¬ IsShort input
tapes_and_short input readings are short =
    let same : (readings ≡ short.readings) × ([] ≡ short.rest) =
    same_stop max_tapes readings short.readings input [] short.begins.front short.rest
    (append-nil input ∙ short.begins.split) are.joined short.begins.joined
    are.few (omega (arith, short.few)) (λ _. nothing_stops) (λ _. cut_stops short.rest short.cut) in
    let some : 0 < length short.rest = short.cut.some in
    let none : 0 ≡ length short.rest = ap length same.1 in
    omega (arith, some, none)

long_stops : (input : List ℕ) (long : IsLong input) → length long.readings < max_tapes → Stops long.rest
long_stops input long less = oversized_stops long.rest (long.oversized less)

tapes_and_long : (input : List ℕ) (readings : List TapeReading) → AreTapes input readings → ¬ IsLong input
tapes_and_long input readings are long =
    let same : (readings ≡ long.readings) × ([] ≡ long.rest) =
    same_stop max_tapes readings long.readings input [] long.begins.front long.rest
    (append-nil input ∙ long.begins.split) are.joined long.begins.joined
    are.few long.few (λ _. nothing_stops) (long_stops input long) in
    let none : 0 ≡ length long.rest = ap length same.1 in
    let full : length long.readings ≡ max_tapes → ⊥ = λ all. let some : 0 < length long.rest = long.more all in
    omega (arith, some, none) in
    let open_ : length long.readings < max_tapes → ⊥ = λ less. let some : 8 ≤ length long.rest =
    (long.oversized less).headed in omega (arith, some, none) in
    let few : length long.readings ≤ max_tapes = long.few in
    omega (arith, full, open_, few)

short_and_long : (input : List ℕ) → IsShort input → ¬ IsLong input
short_and_long input short long =
    let same : (short.readings ≡ long.readings) × (short.rest ≡ long.rest) =
    same_stop max_tapes short.readings long.readings short.begins.front short.rest long.begins.front long.rest
    (sym short.begins.split ∙ long.begins.split) short.begins.joined long.begins.joined
    (omega (arith, short.few)) long.few (λ _. cut_stops short.rest short.cut) (long_stops input long) in
    let few : length short.readings < max_tapes = short.few in
    let count : length short.readings ≡ length long.readings = ap length same.0 in
    let less : length long.readings < max_tapes = omega (arith, few, count) in
    let oversized : IsOversized long.rest = long.oversized less in
    let cut : IsCut long.rest = subst IsCut same.1 short.cut in
    let many : max_slots < slots_in long.rest = oversized.many in
    let bound : slots_in long.rest ≤ max_slots = cut.few oversized.headed in
    omega (arith, many, bound)

-- an input isn't two of tapes, too short and too long
pub tapes_are_one_kind : TapesAreOneKind
tapes_are_one_kind input = record {
  unique = λ readings others are twin.
      (same_stop max_tapes readings others input [] input [] refl are.joined twin.joined are.few twin.few
      (λ _. nothing_stops) (λ _. nothing_stops)).0;
  not_short = tapes_and_short input;
  not_long = tapes_and_long input;
  apart = short_and_long input;
}

-- an input isn't two of a tape, too short and too long
pub tape_is_one_kind : TapeIsOneKind
tape_is_one_kind input = record {
  unique = reading_same input;
  not_short = λ reading is short.
      let front : (8 ≤ length input) × (slots_in input ≤ max_slots) × (length input ≡ 8 + 92 * slots_in input)
      × (length input ≡ length input + 0) =
      tape_in_front input input [] reading (sym (append-nil input)) is in
      let less : length input < 8 + 92 * slots_in input = (short front.0).1 in
      omega (arith, less, front.2);
  not_long = λ reading is long.
      let front : (8 ≤ length input) × (slots_in input ≤ max_slots) × (length input ≡ 8 + 92 * slots_in input)
      × (length input ≡ length input + 0) =
      tape_in_front input input [] reading (sym (append-nil input)) is in
      let more : 8 + 92 * slots_in input < length input = long.1 front.1 in
      omega (arith, more, front.2);
  apart = λ short long.
      let both : (slots_in input ≤ max_slots) × (length input < 8 + 92 * slots_in input) = short long.0 in
      let more : 8 + 92 * slots_in input < length input = long.1 both.0 in
      omega (arith, more, both.1);
}
