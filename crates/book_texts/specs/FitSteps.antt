-- Steps of a cut (own): how far a front of a text fills its pages, and the best of the fronts that were seen. The
-- contracts of private functions alone speak of it.
use Rattle.std.specs.Prelude.{◌≡◌, ℕ, ◌+◌, ◌<◌, ◌≤◌, ◌&&◌, Bool, is_some, List, ◌++◌, length, nat_lt, if◌then◌else◌}
use Rattle.std.specs.Prelude.{take}
use Rattle.std.specs.List.{list_all}
use Rattle.gsm_alphabet.specs.Alphabet.{code_of}
use Rattle.cbs_page.specs.Text.{capacity}
use Rattle.cbs_page.specs.declared.coding.Alphabet.{Alphabet}
use Rattle.cbs_page.specs.declared.coding.Alphabet.TheVariants as alphabet
use Rattle.book_texts.specs.Cost.{pages_from}
use Rattle.book_texts.specs.Fit.{FitsIn, IsWhole}
use Rattle.book_texts.specs.declared.fit.Best.{Best}
use Rattle.book_texts.specs.declared.fit.Front.{Front}
use Rattle.book_texts.specs.declared.fit.Pages.{Pages}

-- a front fills pages so far: whatever follows it goes on from here
abbrev pub HasFilled : List ℕ → Pages → Type 0
HasFilled front p = (rest : List ℕ) → p.count + pages_from p.alphabet p.used rest
    ≡ pages_from p.alphabet 0 (front ++ rest) + 1

-- a front was taken: its pages in both alphabets
pub record HasTaken (text : List ℕ) (front : Front) : Type 0 where
  pub characters : front.characters ≡ length text
  pub is_gsm : front.is_gsm ≡ list_all (λ c. is_some (code_of c)) text
  pub gsm : HasFilled text front.gsm
  pub in_gsm : front.gsm.alphabet ≡ alphabet.Gsm
  pub ucs2 : HasFilled text front.ucs2
  pub in_ucs2 : front.ucs2.alphabet ≡ alphabet.Ucs2

-- the most codes that a page holds, in any alphabet
abbrev pub most_codes : ℕ
most_codes = capacity alphabet.Gsm

-- pages have no more codes than they hold, and no page is begun without a character, but the first
abbrev pub IsWithin : (characters : ℕ) → Pages → Type 0
IsWithin characters p = (p.count ≤ characters + 1) × (p.used ≤ most_codes)

abbrev pub AreFew : (characters : ℕ) → Front → Type 0
AreFew characters front = IsWithin characters front.gsm × IsWithin characters front.ucs2

-- the best fronts, with one of this length
abbrev pub best_with : Best → ℕ → (fits ends : Bool) → Best
best_with best length fits ends =
    record { fitting = if fits then length else best.fitting; whole = if fits && ends then length else best.whole }

-- the one to which the text is cut
abbrev pub length_of_best : Best → ℕ
length_of_best best = if nat_lt 0 best.whole then best.whole else best.fitting

-- these are the best of the fronts that are shorter than n
pub record IsBest (pages : ℕ) (text : List ℕ) (n : ℕ) (best : Best) : Type 0 where
  pub within : (best.fitting ≤ length text) × (best.whole ≤ length text)
  pub fits : FitsIn pages (take best.fitting text)
  pub none_fits : (m : ℕ) → best.fitting < m → m < n → FitsIn pages (take m text) → ⊥
  pub is_whole : 0 < best.whole → IsWhole pages text best.whole
  pub none_is_whole : (m : ℕ) → best.whole < m → m < n → IsWhole pages text m → ⊥
