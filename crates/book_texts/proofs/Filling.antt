-- How many codes the last page of a text has, as the pages are filled one after another.
use Rattle.std.proofs.Common.{◌≡◌, ℕ, ◌+◌, ◌<◌, ◌≤◌, List, [], ◌∷◌, ◌++◌, length, get_or, drop, map, sum_by, refl, sym}
use Rattle.std.proofs.Common.{◌∙◌}
use Rattle.std.proofs.Common.{ap, inl, inr, length-append}
use Rattle.std.specs.Prelude.{nat_le, if◌then◌else◌}
use Rattle.std.specs.List.{flat_map}
use Rattle.std.proofs.lemmas.Bool.{le-leb, lt-leb}
use Rattle.std.proofs.lemmas.Bool.Decides.{leb_tells}
use Rattle.std.proofs.lemmas.List.{at_drop_more}
use Rattle.std.proofs.lemmas.List.Concat.{length-flat_map}
use Rattle.cbs_page.proofs.Cutting.{cuts_from}
use Rattle.cbs_page.specs.Text.{codes_of, cost_of}
use Rattle.cbs_page.specs.declared.coding.Alphabet.{Alphabet}
use Rattle.book_texts.specs.Cost.{last_cost}

-- how many codes the last page has, where `used` codes stand on the page at hand
abbrev pub used_from : (codes : ℕ → List ℕ) (limit : ℕ) → ℕ → List ℕ → ℕ
used_from codes limit used [] = used
used_from codes limit used (c ∷ rest) =
    if nat_le (used + length (codes c)) limit then used_from codes limit (used + length (codes c)) rest
    else used_from codes limit (length (codes c)) rest

-- how long the last of some lists is, where the one before them is so long
abbrev pub last_length : (before : ℕ) → List (List ℕ) → ℕ
last_length before [] = before
last_length before (codes ∷ rest) = last_length (length codes) rest

-- it is that of the last cut
pub used_of_cuts : (codes : ℕ → List ℕ) (limit before : ℕ) (piece rest : List ℕ) →
    last_length before (cuts_from codes limit piece rest) ≡ used_from codes limit (length piece) rest
used_of_cuts codes limit before piece [] = refl
used_of_cuts codes limit before piece (c ∷ rest) =
    elim (leb_tells (length piece + length (codes c)) limit) [
      | inl fits ↦
          rw (fits.0) (used_of_cuts codes limit before (piece ++ codes c) rest
          ∙ ap (λ n. used_from codes limit n rest) (length-append piece (codes c)))
      | inr full ↦ rw (full.0) (used_of_cuts codes limit (length piece) (codes c) rest)
    ]

-- the codes of the last of some pieces
pub last_of_pieces : (alphabet : Alphabet) (before : ℕ) (pieces : List (List ℕ)) →
    last_length before (map (flat_map (codes_of alphabet)) pieces) ≡ last_cost (cost_of alphabet) before pieces
last_of_pieces alphabet before [] = refl
last_of_pieces alphabet before (piece ∷ rest) =
    ap (λ n. last_length n (map (flat_map (codes_of alphabet)) rest)) (length-flat_map (codes_of alphabet) piece)
    ∙ last_of_pieces alphabet (sum_by (cost_of alphabet) piece) rest

-- a function of the rest of a list, where the rest begins with c
at_place : {Y : Type 0} (f : List ℕ → Y) (cs : List ℕ) (n c : ℕ) → n < length cs → c ≡ get_or cs n c
    → f (drop n cs) ≡ f (c ∷ drop (n + 1) cs)
at_place f cs n c lt is = at_drop_more f cs n c lt ∙ ap (λ x. f (x ∷ drop (n + 1) cs)) (sym is)

-- a character that fits is put on the page at hand
pub used-takes : (codes : ℕ → List ℕ) (limit used : ℕ) (cs : List ℕ) (n c : ℕ) → n < length cs → c ≡ get_or cs n c →
    used + length (codes c) ≤ limit →
    used_from codes limit used (drop n cs) ≡ used_from codes limit (used + length (codes c)) (drop (n + 1) cs)
used-takes codes limit used cs n c lt is fits =
    at_place (used_from codes limit used) cs n c lt is ∙ rw (le-leb (used + length (codes c)) limit fits) refl

-- one that doesn't fit begins a further page
pub used-begins : (codes : ℕ → List ℕ) (limit used : ℕ) (cs : List ℕ) (n c : ℕ) → n < length cs → c ≡ get_or cs n c →
    limit < used + length (codes c) →
    used_from codes limit used (drop n cs) ≡ used_from codes limit (length (codes c)) (drop (n + 1) cs)
used-begins codes limit used cs n c lt is full =
    at_place (used_from codes limit used) cs n c lt is ∙ rw (lt-leb (used + length (codes c)) limit full) refl
