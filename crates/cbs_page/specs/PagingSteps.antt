-- Steps of paging (own): the codes of a whole text, and how they are cut. The contracts of private functions alone
-- speak of it.
use Rattle.std.specs.Prelude.{◌≡◌, ℕ, ◌<◌, ◌≤◌, ◌==◌, ◌&&◌, not, Bool, Option, Some, None, List, length, map, position}
use Rattle.std.specs.Prelude.{is_some, slice_index, if◌then◌else◌}
use Rattle.std.specs.List.{flat_map}
use Rattle.gsm_alphabet.specs.Alphabet.{code_of}
use Rattle.cbs_page.specs.TextSteps.{is_plain}
use Rattle.cbs_page.specs.Text.{alphabet_for, codes_of, coding_for, is_bad, max_pages, AreContentsOf, IsPagingIn}
use Rattle.cbs_page.specs.declared.content.Content.{Content}
use Rattle.cbs_page.specs.declared.coding.Alphabet.{Alphabet}
use Rattle.cbs_page.specs.declared.coding.Alphabet.TheVariants.{Gsm, Ucs2}
use Rattle.cbs_page.specs.declared.paging.Paged.{Paged}
use Rattle.cbs_page.specs.declared.paging.TextFault.{TextFault}
use Rattle.cbs_page.specs.declared.paging.TextFault.TheVariants as fault

-- a text takes this many pages in an alphabet
abbrev pub TakesPages : Alphabet → List ℕ → ℕ → Type 0
TakesPages alphabet text count = (pieces : List (List ℕ)) × IsPagingIn alphabet text pieces × (count ≡ length pieces)

-- contents of the pages of a text in an alphabet, one each
abbrev pub HoldText : Alphabet → List ℕ → List Content → Type 0
HoldText alphabet text contents =
    (pieces : List (List ℕ)) × IsPagingIn alphabet text pieces
    × AreContentsOf alphabet (map (flat_map (codes_of alphabet)) pieces) contents

-- a text takes as many pages as a message may have, or more
abbrev pub TakesFew : Alphabet → List ℕ → Type 0
TakesFew alphabet text = (pieces : List (List ℕ)) × IsPagingIn alphabet text pieces × (length pieces ≤ max_pages)

abbrev pub TakesMany : Alphabet → List ℕ → Type 0
TakesMany alphabet text = (pieces : List (List ℕ)) × IsPagingIn alphabet text pieces × (max_pages < length pieces)

abbrev pub HoldInFew : Alphabet → List ℕ → List Content → Type 0
HoldInFew alphabet text contents = HoldText alphabet text contents × TakesFew alphabet text

-- why a text's pages in an alphabet aren't there
abbrev pub IsPagesFault : Alphabet → List ℕ → TextFault → Type 0
IsPagesFault alphabet text fault.BadLanguage = ⊥
IsPagesFault alphabet text fault.Empty = ⊥
IsPagesFault alphabet text (fault.BadCharacter place) = ⊥
IsPagesFault alphabet text fault.TooManyPages = TakesMany alphabet text
IsPagesFault alphabet text fault.Refused = TakesFew alphabet text

-- what a text is sent as in the language of a data coding value
pub record IsPaged (value : ℕ) (text : List ℕ) (paged : Paged) : Type 0 where
  pub good : position is_bad text ≡ None
  pub dcs : paged.dcs.0 ≡ coding_for (alphabet_for text) value
  pub hold : HoldInFew (alphabet_for text) text paged.pages.items

-- why it isn't sent in any language
abbrev pub IsPagingFault : List ℕ → TextFault → Type 0
IsPagingFault text fault.BadLanguage = ⊥
IsPagingFault text fault.Empty = ⊥
IsPagingFault text (fault.BadCharacter place) = position is_bad text ≡ Some place
IsPagingFault text fault.TooManyPages = (position is_bad text ≡ None) × TakesMany (alphabet_for text) text
IsPagingFault text fault.Refused = (position is_bad text ≡ None) × TakesFew (alphabet_for text) text

-- the fault of a text with too many codes, or with a bad character
abbrev pub fault_for : Option ℕ → TextFault
fault_for None = fault.TooManyPages
fault_for (Some place) = fault.BadCharacter place

-- a character that a text may have
abbrev pub is_good : ℕ → Bool
is_good character = not (is_bad character)

-- one that the GSM 7-bit alphabet has, too
abbrev pub is_spelled : ℕ → Bool
is_spelled character = is_good character && is_some (code_of character)

-- how many codes the first page takes of more than fit: an escape (27) begins the next page with its septet
abbrev pub page_end : Alphabet → List ℕ → ℕ
page_end Gsm codes = if slice_index codes 92 == 27 then 92 else 93
page_end Ucs2 codes = 41

-- a character that is one septet of its own number, and that a text may have: CR ends no text
abbrev pub is_own_septet : ℕ → Bool
is_own_septet character = is_plain character && not (character == 13)
