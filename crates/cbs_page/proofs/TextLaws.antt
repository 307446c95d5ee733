-- A page shows the piece of text that it holds, and the pages of a text, joined, show the text.
use Rattle.std.proofs.Common.{◌≡◌, ◌≢◌, ℕ, ◌+◌, ◌-◌, ◌<◌, ◌≤◌, Bool, true, false, Option, Some, None, List, [], ◌∷◌}
use Rattle.std.proofs.Common.{◌++◌, length, map, sum_by, All, replicate, refl, ◌∙◌, ap, arith, cond}
use Rattle.std.specs.Prelude.{nat_lt, ◌==◌, ◌&&◌, ◌||◌, not}
use Rattle.std.specs.Char.{IsScalar}
use Rattle.std.specs.Option.{option_map_or, option_to_list}
use Rattle.std.specs.List.{concat, flat_map, position_from, AllByRecursion}
use Rattle.std.proofs.lemmas.Bool.{ltb-false, lt-ltb}
use Rattle.std.proofs.lemmas.List.Elements.{All-from_recursion}
use Rattle.std.proofs.lemmas.List.Concat.{length-flat_map}
use Rattle.gsm_alphabet.specs.declared.Code.{Code}
use Rattle.gsm_alphabet.specs.declared.Code.TheVariants.{One, Ext}
use Rattle.gsm_alphabet.specs.Alphabet.{code_of, septets_of, septets_of_code, text_of_septets, IsInAlphabet}
use Rattle.gsm_alphabet.proofs.AlphabetLaws.{text_comes_back, flat_map-small, flat_map-no_return}
use Rattle.septets.specs.Packing.{IsPacked, unpacked}
use Rattle.septets.proofs.PackingLaws.{unpacking_gives_back}
use Rattle.ucs2_text.specs.Ucs2.{unit_of_character, octets_of_units, units_of_octets, character_of_unit}
use Rattle.ucs2_text.proofs.Places.{length-octets_of_units}
use Rattle.ucs2_text.proofs.Ucs2Laws.{units_come_back, map-character_of_unit}
use Rattle.cbs_page.specs.declared.coding.Alphabet.{Alphabet}
use Rattle.cbs_page.specs.declared.coding.Alphabet.TheVariants.{Gsm, Ucs2}
use Rattle.cbs_page.specs.declared.content.Content.{Content}
use Rattle.cbs_page.specs.Text.{capacity, codes_of, cost_of, is_bad, without_trailing, is_filling, text_of_content}
use Rattle.cbs_page.specs.Text.{IsContentOf, AreContentsOf}
use Rattle.cbs_page.proofs.TrailingLaws.{without_trailing-fill}

-- a character costs at most two codes
pub cost-small : (alphabet : Alphabet) (c : ℕ) → cost_of alphabet c ≤ 2
cost-small Gsm c = of_code (code_of c)
  where
    of_code : (code : Option Code) → length (option_map_or septets_of_code code []) ≤ 2
    of_code None = omega arith
    of_code (Some (One septet)) = omega arith
    of_code (Some (Ext septet)) = omega arith
cost-small Ucs2 c = of_unit (unit_of_character c)
  where
    of_unit : (unit : Option ℕ) → length (option_to_list unit) ≤ 2
    of_unit None = omega arith
    of_unit (Some unit) = omega arith

-- a page has room for two septets or characters at least
pub capacity-bounds : (alphabet : Alphabet) → 2 ≤ capacity alphabet
capacity-bounds Gsm = omega arith
capacity-bounds Ucs2 = omega arith

-- the character is one that the alphabet spells, and that ends no text
abbrev pub IsSendable : Alphabet → ℕ → Type 0
IsSendable Gsm c = IsInAlphabet c × (c ≢ 13)
IsSendable Ucs2 c = IsScalar c × (c < 65536) × (c ≢ 13)

gsm_shows : (piece octets : List ℕ) → All IsInAlphabet piece → All (λ c. c ≢ 13) piece
    → length (flat_map septets_of piece) ≤ 93 →
    IsPacked (flat_map septets_of piece) octets → text_of_content Gsm octets ≡ piece
gsm_shows piece octets known no_return within packed =
    let septets = flat_map septets_of piece in
    let read : unpacked octets ≡ septets ++ replicate (93 - length septets) 13 =
    unpacking_gives_back septets octets (flat_map-small piece) within packed in
    ap (λ xs. text_of_septets (without_trailing is_filling xs)) read
    ∙ ap text_of_septets (without_trailing-fill septets (93 - length septets) (flat_map-no_return piece no_return))
    ∙ text_comes_back piece known

units_are : (piece : List ℕ) → AllByRecursion (λ c. c < 65536) piece
    → flat_map (λ c. option_to_list (unit_of_character c)) piece ≡ piece
units_are [] fit = refl
units_are (c ∷ piece) fit =
    let unit : unit_of_character c ≡ Some c = rw (lt-ltb c 65536 fit.0) refl in
    ap (λ u. option_to_list u ++ flat_map (λ x. option_to_list (unit_of_character x)) piece) unit
    ∙ ap (λ xs. c ∷ xs) (units_are piece fit.1)

ucs2_shows : (piece octets : List ℕ) → All IsScalar piece → AllByRecursion (λ c. c < 65536) piece
    → AllByRecursion (λ c. c ≢ 13) piece →
    octets ≡ octets_of_units (flat_map (codes_of Ucs2) piece) → text_of_content Ucs2 octets ≡ piece
ucs2_shows piece octets known fit no_return is =
    let read : units_of_octets octets ≡ piece ++ replicate (41 - length piece) 13 =
    ap units_of_octets (is ∙ ap octets_of_units (units_are piece fit)) ∙ units_come_back piece in
    ap (λ xs. map character_of_unit (without_trailing is_filling xs)) read
    ∙ ap (map character_of_unit) (without_trailing-fill piece (41 - length piece)
    (All-from_recursion (λ c. c ≢ 13) piece no_return))
    ∙ map-character_of_unit piece known

-- what is P throughout a list is Q throughout it, if all that is P is Q
pub by_parts : (P Q : ℕ → Type 0) → ((c : ℕ) → P c → Q c) → (xs : List ℕ) → AllByRecursion P xs → AllByRecursion Q xs
by_parts P Q f [] all = tt
by_parts P Q f (x ∷ xs) all = (f x all.0, by_parts P Q f xs all.1)

-- A page shows the piece that it holds.
shows_piece : (alphabet : Alphabet) (piece : List ℕ) (content : Content) → AllByRecursion (IsSendable alphabet) piece →
    length (flat_map (codes_of alphabet) piece) ≤ capacity alphabet →
    IsContentOf alphabet (flat_map (codes_of alphabet) piece) content → text_of_content alphabet content.octets ≡ piece
shows_piece Gsm piece content good within here =
    gsm_shows piece content.octets
    (All-from_recursion IsInAlphabet piece (by_parts (IsSendable Gsm) IsInAlphabet (λ c h. h.0) piece good))
    (All-from_recursion (λ c. c ≢ 13) piece (by_parts (IsSendable Gsm) (λ c. c ≢ 13) (λ c h. h.1) piece good)) within
    here.1
shows_piece Ucs2 piece content good within here =
    ucs2_shows piece content.octets
    (All-from_recursion IsScalar piece (by_parts (IsSendable Ucs2) IsScalar (λ c h. h.0) piece good))
    (by_parts (IsSendable Ucs2) (λ c. c < 65536) (λ c h. h.1) piece good)
    (by_parts (IsSendable Ucs2) (λ c. c ≢ 13) (λ c h. h.2) piece good) here.1

-- what is so throughout two lists is so throughout the first
pub first_part : (P : ℕ → Type 0) (xs ys : List ℕ) → AllByRecursion P (xs ++ ys) → AllByRecursion P xs
first_part P [] ys all = tt
first_part P (x ∷ xs) ys all = (all.0, first_part P xs ys all.1)

-- what is so throughout two lists is so throughout the second
pub last_part : (P : ℕ → Type 0) (xs ys : List ℕ) → AllByRecursion P (xs ++ ys) → AllByRecursion P ys
last_part P [] ys all = all
last_part P (x ∷ xs) ys all = last_part P xs ys all.1

-- The pages, joined, show the pieces, joined.
pub shows_pieces : (alphabet : Alphabet) (pieces : List (List ℕ)) (contents : List Content) →
    AllByRecursion (IsSendable alphabet) (concat pieces) → AllByRecursion
    (λ piece. sum_by (cost_of alphabet) piece ≤ capacity alphabet) pieces →
    AreContentsOf alphabet (map (flat_map (codes_of alphabet)) pieces) contents →
    flat_map (λ content. text_of_content alphabet content.octets) contents ≡ concat pieces
shows_pieces alphabet [] [] good within held = refl
shows_pieces alphabet [] (content ∷ contents) good within held = absurd held
shows_pieces alphabet (piece ∷ pieces) [] good within held = absurd held
shows_pieces alphabet (piece ∷ pieces) (content ∷ contents) good within held =
    let here : text_of_content alphabet content.octets ≡ piece =
    shows_piece alphabet piece content (first_part (IsSendable alphabet) piece (concat pieces) good)
    (rw (length-flat_map (codes_of alphabet) piece) within.0) held.0 in
    let rest = shows_pieces alphabet pieces contents (last_part (IsSendable alphabet) piece (concat pieces) good)
    within.1 held.1 in
    ap (λ xs. xs ++ flat_map (λ c. text_of_content alphabet c.octets) contents) here ∙ ap (λ xs. piece ++ xs) rest

-- what a search that found nothing says of the first element, and of the rest
passed_over : {A : Type 0} (test : Bool) (place : ℕ) (rest : Option ℕ) → cond test (Some place) rest ≡ None →
    (test ≡ false → rest ≡ None → A) → A
passed_over true place rest none then = cc
passed_over false place rest none then = then refl none

-- no character of a text is a bad one
pub none_bad : (place : ℕ) (text : List ℕ) → position_from is_bad place text ≡ None
    → AllByRecursion (λ c. is_bad c ≡ false) text
none_bad place [] none = tt
none_bad place (c ∷ text) none =
    passed_over (is_bad c) place (position_from is_bad (place + 1) text) none
    (λ good rest. (good, none_bad (place + 1) text rest))

or-false : (a b : Bool) → (a || b) ≡ false → (a ≡ false) × (b ≡ false)
or-false true b e = cc
or-false false b e = (refl, e)

-- a character that isn't bad is no carriage return
pub good-no_return : (c : ℕ) → is_bad c ≡ false → c ≢ 13
good-no_return c good is = let bad : true ≡ false = rw is at good in cc

-- a character that isn't bad has at most 16 bits
pub good-fits : (c : ℕ) → is_bad c ≡ false → c < 65536
good-fits c good = omega (arith, ltb-false 65535 c (or-false (nat_lt c 32 && not (c == 10)) (nat_lt 65535 c) good).1)

-- what is P throughout a list and Q throughout it is both
pub both : (P Q : ℕ → Type 0) (xs : List ℕ) → AllByRecursion P xs → AllByRecursion Q xs
    → AllByRecursion (λ x. P x × Q x) xs
both P Q [] ps qs = tt
both P Q (x ∷ xs) ps qs = ((ps.0, qs.0), both P Q xs ps.1 qs.1)

-- A content has 82 octets.
pub contents-length : (alphabet : Alphabet) (pieces : List (List ℕ)) (contents : List Content) →
    AllByRecursion (λ piece. sum_by (cost_of alphabet) piece ≤ capacity alphabet) pieces →
    AreContentsOf alphabet (map (flat_map (codes_of alphabet)) pieces) contents →
    AllByRecursion (λ content. length content.octets ≡ 82) contents
contents-length alphabet [] [] within held = tt
contents-length alphabet [] (content ∷ contents) within held = absurd held
contents-length alphabet (piece ∷ pieces) [] within held = absurd held
contents-length Gsm (piece ∷ pieces) (content ∷ contents) within held =
    (held.0.1.size, contents-length Gsm pieces contents within.1 held.1)
contents-length Ucs2 (piece ∷ pieces) (content ∷ contents) within held =
    let short : length (flat_map (codes_of Ucs2) piece) ≤ 41 = rw (length-flat_map (codes_of Ucs2) piece) within.0 in (
      ap length held.0.1 ∙ length-octets_of_units (flat_map (codes_of Ucs2) piece) short,
      contents-length Ucs2 pieces
          contents within.1 held.1,
    )
