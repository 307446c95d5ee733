-- What the pages of a text hold, and what text a page shows. 3GPP TS 23.038, clauses 6.1.2.2, 6.2.1 and 6.2.3, and
-- 3GPP TS 23.041, clause 9.4.1.2.5. Which alphabet a text gets, and that CR ends no text, are this project's own.
use Rattle.std.specs.Prelude.{◌≡◌, ℕ, ◌+◌, ◌-◌, ◌*◌, ◌/◌, ◌<◌, ◌≤◌, ◌==◌, ◌&&◌, ◌||◌, not, nat_lt, Bool, if◌then◌else◌}
use Rattle.std.specs.Prelude.{Option, Some, None, IsSome, is_some, List, [], ◌∷◌, ◌++◌, length, map, position, take}
use Rattle.std.specs.Option.{option_to_list}
use Rattle.std.specs.List.{list_all, flat_map, suffix_len}
use Rattle.gsm_alphabet.specs.Alphabet.{code_of, septets_of, text_of_septets}
use Rattle.septets.specs.Packing.{IsPacked, unpacked}
use Rattle.ucs2_text.specs.Ucs2.{unit_of_character, octets_of_units, units_of_octets, character_of_unit}
use Rattle.cbs_page.specs.Coding.{language_value, alphabet_of}
use Rattle.cbs_page.specs.Paging.{IsPaging}
use Rattle.cbs_page.specs.declared.coding.Alphabet.{Alphabet}
use Rattle.cbs_page.specs.declared.coding.Alphabet.TheVariants.{Gsm, Ucs2}
use Rattle.cbs_page.specs.declared.content.Content.{Content}
use Rattle.cbs_page.specs.declared.octets.PageView.{PageView}
use Rattle.cbs_page.specs.declared.paging.Paged.{Paged}
use Rattle.cbs_page.specs.declared.paging.TextFault.{TextFault}
use Rattle.cbs_page.specs.declared.paging.TextFault.TheVariants as fault

-- the most pages of a message
abbrev pub max_pages : ℕ
max_pages = 15

-- how many codes a page holds: 93 septets, or 41 units
abbrev pub capacity : Alphabet → ℕ
capacity Gsm = 93
capacity Ucs2 = 41

-- the codes of a character: its septets, or its unit
abbrev pub codes_of : Alphabet → ℕ → List ℕ
codes_of Gsm character = septets_of character
codes_of Ucs2 character = option_to_list (unit_of_character character)

-- what a character costs: how many codes it has
abbrev pub cost_of : Alphabet → ℕ → ℕ
cost_of alphabet character = length (codes_of alphabet character)

-- control characters other than LF, and characters that UCS-2 can't spell
abbrev pub is_bad : ℕ → Bool
is_bad character = (nat_lt character 32 && not (character == 10)) || nat_lt 65535 character

-- the alphabet of a text: GSM 7-bit where that has each of its characters
abbrev pub alphabet_for : List ℕ → Alphabet
alphabet_for text = if list_all (λ c. is_some (code_of c)) text then Gsm else Ucs2

-- the data coding of a text: its language's value in the GSM 7-bit alphabet, else UCS-2
abbrev pub coding_for : Alphabet → ℕ → ℕ
coding_for Gsm value = value
coding_for Ucs2 value = 72

-- the pages of a text in an alphabet, as pieces of it
abbrev pub IsPagingIn : Alphabet → List ℕ → List (List ℕ) → Type 0
IsPagingIn alphabet text pieces = IsPaging (cost_of alphabet) (capacity alphabet) text pieces

-- the pages of a text, as pieces of it
abbrev pub IsPagingOf : List ℕ → List (List ℕ) → Type 0
IsPagingOf text pieces = IsPagingIn (alphabet_for text) text pieces

-- the content of a page that shows a piece: its codes and then CR to the end, and the octets that the codes begin in
abbrev pub IsContentOf : Alphabet → List ℕ → Content → Type 0
IsContentOf Gsm codes content = (content.used ≡ (7 * length codes + 7) / 8) × IsPacked codes content.octets
IsContentOf Ucs2 codes content = (content.used ≡ 2 * length codes) × (content.octets ≡ octets_of_units codes)

-- contents that hold these lists of codes, one each
abbrev pub AreContentsOf : Alphabet → List (List ℕ) → List Content → Type 0
AreContentsOf alphabet [] [] = Unit {0}
AreContentsOf alphabet [] (content ∷ contents) = ⊥
AreContentsOf alphabet (codes ∷ rest) [] = ⊥
AreContentsOf alphabet (codes ∷ rest) (content ∷ contents) =
    IsContentOf alphabet codes content × AreContentsOf alphabet rest contents

-- a list without the elements at its end that pass a test
abbrev pub without_trailing : {X : Type 0} → (X → Bool) → List X → List X
without_trailing test xs = take (length xs - suffix_len test xs) xs

-- CR, which fills a page: the same number as a septet and as a unit
abbrev pub is_filling : ℕ → Bool
is_filling code = code == 13

-- the characters that a content shows: its codes without the CR at their end, decoded
abbrev pub text_of_content : Alphabet → List ℕ → List ℕ
text_of_content Gsm octets = text_of_septets (without_trailing is_filling (unpacked octets))
text_of_content Ucs2 octets = map character_of_unit (without_trailing is_filling (units_of_octets octets))

-- the text of a page; one whose alphabet isn't known has none
abbrev pub text_in : Option Alphabet → List ℕ → List ℕ
text_in None octets = []
text_in (Some alphabet) octets = text_of_content alphabet octets

abbrev pub text_of_page : PageView → List ℕ
text_of_page view = text_in (alphabet_of view.dcs.0) view.content

-- a text has been put behind another, all but what is left of it
abbrev pub PutsAllBut : (left old new text : List ℕ) → Type 0
PutsAllBut left old new text = (front : List ℕ) × (new ≡ old ++ front) × (front ++ left ≡ text)

-- a front part of a text, or all of it, has been put behind another
abbrev pub PutsFront : (old new text : List ℕ) → Type 0
PutsFront old new text = (left : List ℕ) × PutsAllBut left old new text

-- what a text is sent as
pub record IsPagedText (language text : List ℕ) (paged : Paged) : Type 0 where
  pub value : ℕ
  pub spoken : language_value language ≡ Some value
  pub good : position is_bad text ≡ None
  pub dcs : paged.dcs.0 ≡ coding_for (alphabet_for text) value
  pub pieces : List (List ℕ)
  pub paging : IsPagingOf text pieces
  pub some : 1 ≤ length pieces
  pub few : length pieces ≤ max_pages
  pub contents : AreContentsOf (alphabet_for text) (map (flat_map (codes_of (alphabet_for text))) pieces)
      paged.pages.items

-- the texts of the pages, joined, are the text
abbrev pub ShowsText : List ℕ → Paged → Type 0
ShowsText text paged =
    flat_map (λ content. text_of_content (alphabet_for text) content.octets) paged.pages.items ≡ text

-- why a text isn't sent: the first of these that applies
abbrev pub IsTextFault : (language text : List ℕ) → TextFault → Type 0
IsTextFault language text fault.BadLanguage = language_value language ≡ None
IsTextFault language text fault.Empty = IsSome (language_value language) × (text ≡ [])
IsTextFault language text (fault.BadCharacter place) =
    IsSome (language_value language) × (position is_bad text ≡ Some place)
IsTextFault language text fault.TooManyPages =
    IsSome (language_value language) × (position is_bad text ≡ None)
    × ((pieces : List (List ℕ)) × IsPagingOf text pieces × (max_pages < length pieces))
IsTextFault language text fault.Refused =
    IsSome (language_value language) × (position is_bad text ≡ None)
    × ((pieces : List (List ℕ)) × IsPagingOf text pieces × (1 ≤ length pieces) × (length pieces ≤ max_pages))
