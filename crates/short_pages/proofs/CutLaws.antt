-- A page whose used octets came comes back whole.
use Rattle.std.proofs.Common.{◌≡◌, ℕ, ◌+◌, ◌-◌, ◌*◌, ◌/◌, ◌%◌, ◌<◌, ◌≤◌, Option, Some, zero, suc, List, [], ◌∷◌, ◌++◌}
use Rattle.std.proofs.Common.{length}
use Rattle.std.proofs.Common.{take, replicate, refl, ap, sym, ◌∙◌, append_assoc, arith}
use Rattle.std.specs.Prelude.{slice_index}
use Rattle.std.specs.Int.{bit_at}
use Rattle.std.specs.List.{flat_map}
use Rattle.std.specs.Option.{option_map_or}
use Rattle.std.proofs.lemmas.Grind.{same_number_lists}
use Rattle.std.proofs.lemmas.List.{get_or-take, length-append, length-replicate, length-take, length-take-le}
use Rattle.std.proofs.lemmas.List.{replicate-append-replicate}
use Rattle.std.proofs.lemmas.List.{take-replicate}
use Rattle.std.proofs.Math.Seq.{take-append-add}
use Rattle.septets.specs.Packing.{filled, octet_bit, septet_at, unpacked, IsPacked}
use Rattle.septets.proofs.PackingLaws.{get_or-unpacked, length-unpacked, of_seven_bits-same, unpacking_gives_back}
use Rattle.ucs2_text.specs.Ucs2.{octets_of_unit, octets_of_units, units_of_octets}
use Rattle.ucs2_text.proofs.Ucs2Laws.{units_come_back}
use Rattle.cbs_page.specs.declared.coding.Alphabet.{Alphabet}
use Rattle.cbs_page.specs.declared.coding.Alphabet.TheVariants.{Gsm, Ucs2}
use Rattle.cbs_page.specs.declared.content.Content.{Content}
use Rattle.cbs_page.specs.Coding.{alphabet_of}
use Rattle.cbs_page.specs.Text.{capacity, IsContentOf}
use Rattle.cbch_blocks.specs.Blocks.{blocks_of_page}
use Rattle.short_pages.specs.WholePage.{codes_came, content_of, packed, whole_page}
use Rattle.short_pages.specs.Laws.{AreCodesIn, CutPagesComeBack}
use Rattle.short_pages.proofs.Packed.{packed-is}

-- codes that are filled up to some number of them
abbrev filled_to : ℕ → List ℕ → List ℕ
filled_to n codes = codes ++ replicate (n - length codes) 13

-- the first of filled codes, if these are all of them and more
front-filled : (n total : ℕ) (codes : List ℕ) → length codes ≤ n → n ≤ total
    → take n (filled_to total codes) ≡ filled_to n codes
front-filled n total codes some few =
    let split : n ≡ length codes + (n - length codes) = omega arith in
    ap (λ k. take k (filled_to total codes)) split
    ∙ take-append-add codes (replicate (total - length codes) 13) (n - length codes)
    ∙ ap (λ fill. codes ++ fill) (take-replicate (n - length codes) (total - length codes) 13 (omega arith))

-- filled once more they are filled
filled-again : (n total : ℕ) (codes : List ℕ) → length codes ≤ n → n ≤ total
    → filled_to total (filled_to n codes) ≡ filled_to total codes
filled-again n total codes some few =
    let long : length (filled_to n codes) ≡ n =
    omega (arith, length-append codes (replicate (n - length codes) 13), length-replicate {A = ℕ} (n - length codes) 13)
    in
    let rest : n - length codes + (total - n) ≡ total - length codes = omega arith in
    ap (λ k. filled_to n codes ++ replicate (total - k) 13) long
    ∙ append_assoc codes (replicate (n - length codes) 13) (replicate (total - n) 13)
    ∙ ap (λ fill. codes ++ fill) (replicate-append-replicate (n - length codes) (total - n) 13
    ∙ ap (λ k. replicate k 13) rest)

-- the same octets carry the same septets
same-septets : (xs ys : List ℕ) (count : ℕ) → count ≤ 93
    → ((i : ℕ) → i < 7 * count → octet_bit xs i ≡ octet_bit ys i) → take count (unpacked xs) ≡ take count (unpacked ys)
unfolding septet_at
same-septets xs ys count few same =
    let long : length (take count (unpacked xs)) ≡ length (take count (unpacked ys)) =
    omega (
      arith,
      length-take count (unpacked xs),
      length-take count (unpacked ys),
      length-unpacked xs,
      length-unpacked ys,
    ) in
    same_number_lists (take count (unpacked xs)) (take count (unpacked ys)) long
    (λ place within.
    let inside : place < count = omega (arith, length-take count (unpacked xs), length-unpacked xs) in
    let page : place < 93 = omega arith in
    get_or-take count (unpacked xs) place 0 inside
    ∙ get_or-unpacked xs place page
    ∙ of_seven_bits-same (λ j. octet_bit xs (7 * place + j)) (λ j. octet_bit ys (7 * place + j))
    (λ j below. same (7 * place + j) (omega arith))
    ∙ sym (get_or-unpacked ys place page)
    ∙ sym (get_or-take count (unpacked ys) place 0 inside))

-- the septets of the first octets are the first septets
septets-front : (octets : List ℕ) (count n : ℕ) → count ≤ 93 → 7 * count ≤ 8 * n
    → take count (unpacked (take n octets)) ≡ take count (unpacked octets)
septets-front octets count n few within =
    same-septets (take n octets) octets count few
    (λ i below. ap (λ octet. bit_at octet (i % 8)) (get_or-take n octets (i / 8) 0 (omega arith)))

-- octets that hold septets hold them with some CR after them
packed-filled : (codes octets : List ℕ) (n : ℕ) → length codes ≤ n → n ≤ 93 → IsPacked codes octets
    → octets ≡ packed (filled_to n codes)
packed-filled codes octets n some few is =
    let more : filled (filled_to n codes) ≡ filled codes = filled-again n 93 codes some few in
    let long : length (filled_to n codes) ≤ 93 =
    omega (arith, length-append codes (replicate (n - length codes) 13), length-replicate {A = ℕ} (n - length codes) 13)
    in
    packed-is (filled_to n codes) octets long
    (record {
      size = is.size;
      in_range = is.in_range;
      same_bits = λ i within. rw more (is.same_bits i within);
      spare_bits = is.spare_bits;
    })

-- the units of the first octets are the first units
units-front : (n : ℕ) (octets : List ℕ) → units_of_octets (take n octets) ≡ take (n / 2) (units_of_octets octets)
units-front zero octets = refl
units-front (suc zero) [] = refl
units-front (suc zero) (high ∷ rest) = refl
units-front (suc (suc n)) [] = let half : suc (suc n) / 2 ≡ suc (n / 2) = omega arith in rw half refl
units-front (suc (suc n)) (high ∷ []) = let half : suc (suc n) / 2 ≡ suc (n / 2) = omega arith in rw half refl
units-front (suc (suc n)) (high ∷ low ∷ rest) =
    let half : suc (suc n) / 2 ≡ suc (n / 2) = omega arith in
    rw half (ap (λ units. (256 * high + low) ∷ units) (units-front n rest))

-- a content of which all used octets came is that of the codes that came
whole-again : (alphabet : Alphabet) (codes : List ℕ) (content : Content) (count : ℕ) → AreCodesIn alphabet codes
    → length codes ≤ capacity alphabet
    → IsContentOf alphabet codes content
    → content.used ≤ count
    → count ≤ 82
    → content_of alphabet (codes_came alphabet (take count content.octets)) ≡ content.octets
whole-again Gsm codes content count small few held used within =
    let octets : List ℕ = content.octets in
    let many : ℕ = 8 * count / 7 in
    let some : length codes ≤ many = omega (arith, held.0) in
    let page : many ≤ 93 = omega arith in
    let long : length (take count octets) ≡ count = length-take-le count octets (omega (arith, held.1.size)) in
    let came : codes_came Gsm (take count octets) ≡ filled_to many codes =
    ap (λ n. take (8 * n / 7) (unpacked (take count octets))) long
    ∙ septets-front octets many count page (omega arith)
    ∙ ap (take many) (unpacking_gives_back codes octets small few held.1)
    ∙ front-filled many 93 codes some page in
    ap packed came ∙ sym (packed-filled codes octets many some page held.1)
whole-again Ucs2 codes content count small few held used within =
    let octets : List ℕ = content.octets in
    let many : ℕ = count / 2 in
    let some : length codes ≤ many = omega (arith, held.0) in
    let page : many ≤ 41 = omega arith in
    let came : units_of_octets (take count octets) ≡ filled_to many codes =
    units-front count octets
    ∙ ap (take many) (ap units_of_octets held.1 ∙ units_come_back codes)
    ∙ front-filled many 41 codes some page in
    ap octets_of_units came
    ∙ ap (λ units. flat_map octets_of_unit units) (filled-again many 41 codes some page)
    ∙ sym held.1

-- the page of its six octets and the rest of what came
by_header : (header rest octets : List ℕ) (alphabet : Alphabet) → length header ≡ 6
    → alphabet_of (slice_index header 4) ≡ Some alphabet
    → content_of alphabet (codes_came alphabet rest) ≡ octets
    → whole_page (header ++ rest) ≡ header ++ octets
by_header (a ∷ b ∷ c ∷ d ∷ e ∷ f ∷ []) rest octets alphabet headed known same =
    rw known (ap (λ content. a ∷ b ∷ c ∷ d ∷ e ∷ f ∷ content) same)
by_header (a ∷ b ∷ c ∷ d ∷ e ∷ f ∷ g ∷ more) rest octets alphabet headed known same = absurd (omega arith)
by_header [] rest octets alphabet headed known same = absurd (omega arith)
by_header (a ∷ []) rest octets alphabet headed known same = absurd (omega arith)
by_header (a ∷ b ∷ []) rest octets alphabet headed known same = absurd (omega arith)
by_header (a ∷ b ∷ c ∷ []) rest octets alphabet headed known same = absurd (omega arith)
by_header (a ∷ b ∷ c ∷ d ∷ []) rest octets alphabet headed known same = absurd (omega arith)
by_header (a ∷ b ∷ c ∷ d ∷ e ∷ []) rest octets alphabet headed known same = absurd (omega arith)

-- so the slot gets the blocks of the page that was cut
pub cut_pages_come_back : CutPagesComeBack
cut_pages_come_back slot header content count holds used within short =
    ap (λ (came : Option (List ℕ)). option_map_or (λ octets. blocks_of_page (whole_page octets)) came slot) short
    ∙ ap blocks_of_page (by_header header (take count content.octets) content.octets holds.alphabet holds.headed
    holds.known (whole-again holds.alphabet holds.codes content count holds.codes_are holds.few holds.held used within))
