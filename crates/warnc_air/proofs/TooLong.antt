-- An input of more octets than the most tapes have is long.
use Rattle.std.proofs.Common.{◌≡◌, ◌⊎◌, ℕ, ◌+◌, ◌*◌, ◌<◌, ◌≤◌, List, [], ◌∷◌, length, take, min, ap, ◌∙◌, arith}
use Rattle.std.proofs.Common.{Option, None, Some, IfSome, ⊎_elim}
use Rattle.std.specs.Io.KnownBytes.{Keeps}
use Rattle.std.proofs.lemmas.Bool.{cases_lt}
use Rattle.std.proofs.lemmas.List.{length-append, length-take}
use Rattle.handset.specs.Tape.{AreJoined, AreTapes, IsCut, IsLong, IsShort, IsTape, TapeReading, octets_of_blocks}
use Rattle.handset.specs.Tape.{slots_in}
use Rattle.handset.proofs.TapeCases.{tapes_have_kind}
use Rattle.handset.proofs.TapeLaws.{octets_long}

tape_long : (octets : List ℕ) (reading : TapeReading) → IsTape octets reading → length octets ≤ 6029228
tape_long octets reading is =
    let joined : length octets ≡ length is.header + length (octets_of_blocks is.blocks) =
    ap length is.joined ∙ length-append is.header (octets_of_blocks is.blocks) in
    let blocks : length (octets_of_blocks is.blocks) ≡ 23 * length is.blocks = octets_long is.blocks is.slots.each in
    omega (arith, joined, blocks, is.eight, is.few, is.slots.four)

joined_long : (octets : List ℕ) (readings : List TapeReading) → AreJoined octets readings →
    length octets ≤ 6029228 * length readings
joined_long octets [] are = let none : length octets ≡ 0 = ap length are in omega (arith, none)
joined_long octets (reading ∷ readings) (tape, after, split, is, rest) =
    let here : length tape ≤ 6029228 = tape_long tape reading is in
    let others : length after ≤ 6029228 * length readings = joined_long after readings rest in
    let whole : length octets ≡ length tape + length after = ap length split ∙ length-append tape after in
    omega (arith, here, others, whole)

cut_long : (octets : List ℕ) → IsCut octets → length octets < 6029228
cut_long octets cut =
    ⊎_elim (λ (fewer : length octets < 8). omega (arith, fewer))
    (λ (more : 8 ≤ length octets).
    let few : slots_in octets ≤ 65535 = cut.few more in
    let inside : length octets < 8 + 92 * slots_in octets = cut.inside more in
    omega (arith, few, inside))
    (cases_lt (length octets) 8)

-- an input of more octets than 64 of the longest tapes have is too long
pub too_long : (input : List ℕ) → 385870592 < length input → IsLong input
too_long input many =
    ⊎_elim (λ (are : (readings : List TapeReading) × AreTapes input readings).
    let whole : length input ≤ 6029228 * length are.0 = joined_long input are.0 are.1.joined in
    let few : length are.0 ≤ 64 = are.1.few in
    absurd (omega (arith, whole, few, many)))
    (λ (others : IsShort input ⊎ IsLong input).
    ⊎_elim (λ (short : IsShort input).
    let front : length short.begins.front ≤ 6029228 * length short.readings =
    joined_long short.begins.front short.readings short.begins.joined in
    let rest : length short.rest < 6029228 = cut_long short.rest short.cut in
    let few : length short.readings < 64 = short.few in
    let whole : length input ≡ length short.begins.front + length short.rest =
    ap length short.begins.split ∙ length-append short.begins.front short.rest in
    absurd (omega (arith, front, rest, few, whole, many)))
    (λ (long : IsLong input). long) others)
    (tapes_have_kind input)

-- the same, where one octet past the bound was read
pub too_long_read : (left : Option (List ℕ)) (read : List ℕ) (old new : Option (List ℕ)) → 385870592 < length read →
    IfSome left (λ input. read ≡ take (385870592 + 1) input) → Keeps old new →
    IfSome left (λ input. IsLong input × Keeps old new)
too_long_read None read old new many is kept = tt
too_long_read (Some input) read old new many is kept =
    let some : length read ≡ min (385870592 + 1) (length input) = ap length is
    ∙ length-take (385870592 + 1) input in
    (too_long input (omega arith), kept)
