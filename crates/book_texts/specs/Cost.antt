-- What a text costs: how many pages it takes, and what room its last one has. The alphabet and the pages are those of a
-- text that is sent (3GPP TS 23.038, clauses 6.1.2.2, 6.2.1 and 6.2.3), but here a text may take any number of pages.
use Rattle.std.specs.Prelude.{◌≡◌, ℕ, ◌+◌, ◌-◌, Bool, if◌then◌else◌, nat_le, not, is_some, List, [], ◌∷◌, length}
use Rattle.std.specs.Prelude.{Option}
use Rattle.std.specs.Prelude.{count_by, find, position, sum_by}
use Rattle.gsm_alphabet.specs.Alphabet.{code_of}
use Rattle.cbs_page.specs.Text.{alphabet_for, capacity, cost_of, IsPagingOf}
use Rattle.cbs_page.specs.declared.coding.Alphabet.{Alphabet}
use Rattle.cbs_page.specs.declared.coding.Alphabet.TheVariants.{Gsm}
use Rattle.book_texts.specs.declared.cost.TextCost.{TextCost}

-- how many codes the last of some pieces takes, where the piece before them takes this many
abbrev pub last_cost : (cost : ℕ → ℕ) (before : ℕ) → List (List ℕ) → ℕ
last_cost cost before [] = before
last_cost cost before (piece ∷ rest) = last_cost cost (sum_by cost piece) rest

-- how many more codes the last page of a text has room for, which is cut into these pieces
abbrev pub room_after : Alphabet → List (List ℕ) → ℕ
room_after alphabet pieces = capacity alphabet - last_cost (cost_of alphabet) 0 pieces

-- what a text costs: no text takes no page
pub record IsCostOf (text : List ℕ) (cost : TextCost) : Type 0 where
  pub alphabet : cost.alphabet ≡ alphabet_for text
  pub characters : cost.characters ≡ length text
  pub pieces : List (List ℕ)
  pub paging : IsPagingOf text pieces
  pub pages : cost.pages ≡ length pieces
  pub room : cost.room ≡ room_after (alphabet_for text) pieces

-- how many pages characters take where `used` codes stand on the page at hand, with that page: each has as many
-- characters as go into it
abbrev pub pages_from : Alphabet → (used : ℕ) → List ℕ → ℕ
pages_from alphabet used [] = 1
pages_from alphabet used (character ∷ rest) =
    if nat_le (used + cost_of alphabet character) (capacity alphabet)
    then pages_from alphabet (used + cost_of alphabet character) rest
    else 1 + pages_from alphabet (cost_of alphabet character) rest

-- how many a text takes in an alphabet; a character that the alphabet lacks takes no room
abbrev pub pages_needed_in : Alphabet → List ℕ → ℕ
pages_needed_in alphabet [] = 0
pages_needed_in alphabet (character ∷ rest) = pages_from alphabet 0 (character ∷ rest)

-- how many a text takes
abbrev pub pages_needed : List ℕ → ℕ
pages_needed text = pages_needed_in (alphabet_for text) text

-- a character that GSM 7-bit lacks, so that a text with it is sent in UCS-2
abbrev pub forces_ucs2 : ℕ → Bool
forces_ucs2 character = not (is_some (code_of character))

-- the first of a text's, and how many characters stand before it
abbrev pub first_forcing : List ℕ → Option ℕ
first_forcing text = find forces_ucs2 text

abbrev pub place_of_forcing : List ℕ → Option ℕ
place_of_forcing text = position forces_ucs2 text

-- how many of a text's characters force it
abbrev pub forcing_count : List ℕ → ℕ
forcing_count text = count_by forces_ucs2 text

-- how many pages a text would take without them
abbrev pub pages_without_forcing : List ℕ → ℕ
pages_without_forcing text = pages_needed_in Gsm text
