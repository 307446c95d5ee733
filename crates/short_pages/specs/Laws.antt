-- Laws of short pages (own), over definitions alone.
use Rattle.std.specs.Prelude.{◌≡◌, ◌≢◌, ℕ, ◌<◌, ◌≤◌, Some, List, ◌∷◌, ◌++◌, length, take, drop, slice_index, All}
use Rattle.std.specs.List.{AllByRecursion}
use Rattle.cbs_page.specs.declared.coding.Alphabet.{Alphabet}
use Rattle.cbs_page.specs.declared.coding.Alphabet.TheVariants.{Gsm, Ucs2}
use Rattle.cbs_page.specs.declared.content.Content.{Content}
use Rattle.cbs_page.specs.declared.octets.PageView.{PageView}
use Rattle.cbs_page.specs.Coding.{alphabet_of}
use Rattle.cbs_page.specs.Page.{view_of}
use Rattle.cbs_page.specs.Text.{capacity, text_of_page, IsContentOf}
use Rattle.handset.specs.Reception.{block_type, pages_read, shown_in}
use Rattle.cbch_blocks.specs.Blocks.{blocks_of_page}
use Rattle.short_pages.specs.WholePage.{codes_came, text_of_codes}
use Rattle.short_pages.specs.Slots.{completed_slot, short_page, shown_on_air}

-- a page says what came of another: its serial number, identifier, data coding, number and total; and it shows the
-- characters that came whole
pub record SaysWhatCame (octets : List ℕ) (page : PageView) : Type 0 where
  pub serial : page.serial ≡ (view_of octets).serial
  pub id : page.id ≡ (view_of octets).id
  pub dcs : page.dcs.0 ≡ (view_of octets).dcs.0
  pub number : page.number ≡ (view_of octets).number
  pub total : page.total ≡ (view_of octets).total
  pub text : (alphabet : Alphabet) → alphabet_of (slice_index octets 4) ≡ Some alphabet
      → text_of_page page ≡ text_of_codes alphabet (codes_came alphabet (drop 6 octets))

-- the page of a slot is read once, and as one that says what came; no other page is read of the slot
pub record IsReadOnce (slot : List (List ℕ)) (octets : List ℕ) : Type 0 where
  pub page : PageView
  pub once : (rest : List (List ℕ)) → pages_read (completed_slot slot ++ rest) ≡ page ∷ pages_read rest
  pub says : SaysWhatCame octets page

abbrev pub ShortPagesAreReadOnce : Type 0
ShortPagesAreReadOnce = (slot : List (List ℕ)) (octets : List ℕ) → AllByRecursion (λ block. length block ≡ 23) slot
    → short_page slot ≡ Some octets → IsReadOnce slot octets

-- codes of an alphabet: septets have 7 bits, and units 16
abbrev pub AreCodesIn : Alphabet → List ℕ → Type 0
AreCodesIn Gsm codes = All (λ code. code < 128) codes
AreCodesIn Ucs2 codes = All (λ code. code < 65536) codes

-- a page holds codes in an alphabet, and its content is that of these codes
pub record HoldsCodes (header : List ℕ) (content : Content) : Type 0 where
  pub alphabet : Alphabet
  pub codes : List ℕ
  pub headed : length header ≡ 6
  pub known : alphabet_of (slice_index header 4) ≡ Some alphabet
  pub codes_are : AreCodesIn alphabet codes
  pub few : length codes ≤ capacity alphabet
  pub held : IsContentOf alphabet codes content

-- where all octets that the text takes came, the slot gets the four blocks of the page that was cut
abbrev pub CutPagesComeBack : Type 0
CutPagesComeBack = (slot : List (List ℕ)) (header : List ℕ) (content : Content) (count : ℕ) → HoldsCodes header content
    → content.used ≤ count
    → count ≤ 82
    → short_page slot ≡ Some (header ++ take count content.octets)
    → completed_slot slot ≡ blocks_of_page (header ++ content.octets)

-- the block is the last of no short page
abbrev pub EndsNoShortPage : List ℕ → Type 0
EndsNoShortPage block = (block_type block ≢ 0x30) × (block_type block ≢ 0x31) × (block_type block ≢ 0x32)

-- blocks without a short page show what they show to a handset that knows no short page
abbrev pub WithoutShortPagesTheSame : Type 0
WithoutShortPagesTheSame =
    (blocks : List (List ℕ)) → AllByRecursion EndsNoShortPage blocks → shown_on_air blocks ≡ shown_in blocks
