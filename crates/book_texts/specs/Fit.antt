-- How much of a text fits a number of pages. Own: a text is cut between words, where it has any.
use Rattle.std.specs.Prelude.{◌≡◌, ℕ, ◌<◌, ◌≤◌, ◌⊎◌, ◌==◌, ◌||◌, Bool, true, List, length, get_or, take}
use Rattle.cbs_page.specs.Text.{IsPagingOf}

-- a text takes this many pages at most, in the alphabet that it has by itself
abbrev pub FitsIn : (pages : ℕ) → List ℕ → Type 0
FitsIn pages text = (pieces : List (List ℕ)) × IsPagingOf text pieces × (length pieces ≤ pages)

-- a space or LF, between words
abbrev pub is_gap : ℕ → Bool
is_gap character = (character == 32) || (character == 10)

-- the front of this length ends where a word may end: before a gap, or with the text
abbrev pub ends_word : List ℕ → ℕ → Bool
ends_word text n = is_gap (get_or text n 32)

-- a front of this length ends so and fits
abbrev pub IsWhole : (pages : ℕ) (text : List ℕ) → ℕ → Type 0
IsWhole pages text n = (ends_word text n ≡ true) × FitsIn pages (take n text)

-- no longer front does
abbrev pub NoneIsWhole : (pages : ℕ) (text : List ℕ) (after : ℕ) → Type 0
NoneIsWhole pages text after = (m : ℕ) → after < m → m ≤ length text → IsWhole pages text m → ⊥

-- no longer front fits
abbrev pub NoneFits : (pages : ℕ) (text : List ℕ) (after : ℕ) → Type 0
NoneFits pages text after = (m : ℕ) → after < m → m ≤ length text → FitsIn pages (take m text) → ⊥

-- of how many characters the front is to which a text is cut for this many pages: the longest that ends where a word
-- may end; where there is none that has a character, the longest of all
pub record IsCut (pages : ℕ) (text : List ℕ) (n : ℕ) : Type 0 where
  pub within : n ≤ length text
  pub fits : FitsIn pages (take n text)
  pub longest : NoneIsWhole pages text n
  pub ends : ((0 < n) × (ends_word text n ≡ true)) ⊎ (NoneIsWhole pages text 0 × NoneFits pages text n)
