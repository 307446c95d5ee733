-- The page whose first octets came says what came, and shows the characters that came whole.
use Rattle.std.proofs.Common.{◌≡◌, ℕ, ◌-◌, ◌*◌, ◌/◌, ◌<◌, ◌≤◌, Option, Some, None, List, [], ◌∷◌, length}
use Rattle.std.proofs.Common.{map, take, drop, replicate, refl, ap, ◌∙◌, arith, suc, zero, All}
use Rattle.std.proofs.lemmas.List.{length-append, length-drop, length-replicate, length-take, length-take-le}
use Rattle.std.proofs.lemmas.List.Elements.{All-take}
use Rattle.std.specs.Prelude.{slice_index}
use Rattle.gsm_alphabet.specs.Alphabet.{text_of_septets}
use Rattle.septets.specs.Packing.{unpacked}
use Rattle.septets.proofs.PackingLaws.{All-unpacked, length-unpacked, unpacking_gives_back}
use Rattle.ucs2_text.specs.Ucs2.{character_of_unit, units_of_octets}
use Rattle.ucs2_text.proofs.Places.{length-octets_of_units}
use Rattle.ucs2_text.proofs.Ucs2Laws.{units_come_back}
use Rattle.cbs_page.specs.declared.coding.Alphabet.{Alphabet}
use Rattle.cbs_page.specs.declared.coding.Alphabet.TheVariants.{Gsm, Ucs2}
use Rattle.cbs_page.specs.Coding.{alphabet_of}
use Rattle.cbs_page.specs.Page.{view_of}
use Rattle.cbs_page.specs.Text.{is_filling, text_in, text_of_content, without_trailing}
use Rattle.short_pages.specs.WholePage.{codes_came, content_of, packed, text_of_codes, whole_content, whole_page}
use Rattle.short_pages.specs.Laws.{SaysWhatCame}
use Rattle.short_pages.proofs.Filling.{without_trailing-filled}
use Rattle.short_pages.proofs.Packed.{length-packed, packed_is_packing}

-- the septets that came are 93 at most
septets-few : (octets : List ℕ) → length (codes_came Gsm octets) ≤ 93
septets-few octets =
    omega (arith, length-take (8 * length octets / 7) (unpacked octets), length-unpacked octets)

-- a content of codes shows their text
shows_codes : (alphabet : Alphabet) (octets : List ℕ)
    → text_of_content alphabet (content_of alphabet (codes_came alphabet octets))
    ≡ text_of_codes alphabet (codes_came alphabet octets)
shows_codes Gsm octets =
    let codes : List ℕ = codes_came Gsm octets in
    let small : All (λ septet. septet < 128) codes =
    All-take (λ septet. septet < 128) (8 * length octets / 7) (unpacked octets) (All-unpacked octets) in
    ap (λ septets. text_of_septets (without_trailing is_filling septets))
    (unpacking_gives_back codes (packed codes) small (septets-few octets)
    (packed_is_packing codes (septets-few octets)))
    ∙ ap text_of_septets (without_trailing-filled (93 - length codes) codes)
shows_codes Ucs2 octets =
    let units : List ℕ = units_of_octets octets in
    ap (λ us. map character_of_unit (without_trailing is_filling us)) (units_come_back units)
    ∙ ap (map character_of_unit) (without_trailing-filled (41 - length units) units)

shows_came : (known : Option Alphabet) (octets : List ℕ) (alphabet : Alphabet) → known ≡ Some alphabet
    → text_in known (whole_content known octets) ≡ text_of_codes alphabet (codes_came alphabet octets)
shows_came known octets alphabet is = rw is (shows_codes alphabet octets)

-- the page says what came
pub says_what_came : (octets : List ℕ) → 6 ≤ length octets → SaysWhatCame octets (view_of (whole_page octets))
says_what_came (a ∷ b ∷ c ∷ d ∷ e ∷ f ∷ rest) headed = record {
  serial = refl;
  id = refl;
  dcs = refl;
  number = refl;
  total = refl;
  text = λ alphabet known. shows_came (alphabet_of e) rest alphabet known;
}
says_what_came [] headed = absurd (omega arith)
says_what_came (a ∷ []) headed = absurd (omega arith)
says_what_came (a ∷ b ∷ []) headed = absurd (omega arith)
says_what_came (a ∷ b ∷ c ∷ []) headed = absurd (omega arith)
says_what_came (a ∷ b ∷ c ∷ d ∷ []) headed = absurd (omega arith)
says_what_came (a ∷ b ∷ c ∷ d ∷ e ∷ []) headed = absurd (omega arith)

-- half of some octets, rounded down, are units
units-few : (n : ℕ) (octets : List ℕ) → length octets ≤ 2 * n → length (units_of_octets octets) ≤ n
units-few n [] few = omega arith
units-few n (high ∷ []) few = omega arith
units-few zero (high ∷ low ∷ rest) few = absurd (omega arith)
units-few (suc n) (high ∷ low ∷ rest) few = omega (arith, units-few n rest (omega arith))

-- a content has 82 octets
pub length-whole_content : (alphabet : Option Alphabet) (octets : List ℕ) → length octets ≤ 82
    → length (whole_content alphabet octets) ≡ 82
length-whole_content None octets few =
    omega (
      arith,
      length-append octets (replicate (82 - length octets) 0),
      length-replicate {A = ℕ} (82 - length octets) 0,
    )
length-whole_content (Some Gsm) octets few = length-packed (codes_came Gsm octets)
length-whole_content (Some Ucs2) octets few =
    length-octets_of_units (units_of_octets octets) (units-few 41 octets few)

-- and a page 88
pub length-whole_page : (octets : List ℕ) → 6 ≤ length octets → length octets ≤ 88
    → length (whole_page octets) ≡ 88
length-whole_page octets headed few =
    let alphabet : Option Alphabet = alphabet_of (slice_index octets 4) in
    omega (
      arith,
      length-append (take 6 octets) (whole_content alphabet (drop 6 octets)),
      length-take-le 6 octets headed,
      length-whole_content alphabet (drop 6 octets) (omega (arith, length-drop 6 octets)),
    )
