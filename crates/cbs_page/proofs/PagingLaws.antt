-- Cutting in one pass gives the pages of a text, and no other list of pieces is that.
use Rattle.std.proofs.Common.{◌≡◌, ◌≢◌, ℕ, ◌+◌, ◌<◌, ◌≤◌, false, List, [], ◌∷◌, ◌++◌, length, sum_by, map, refl, sym}
use Rattle.std.proofs.Common.{◌∙◌, ap, append_assoc, append-nil, subst, zero-add, arith, ◌⊎◌, inl, inr}
use Rattle.std.specs.Prelude.{nat_le}
use Rattle.std.specs.List.{concat, flat_map, AllByRecursion}
use Rattle.std.proofs.lemmas.Bool.{le-leb}
use Rattle.std.proofs.lemmas.Bool.Decides.{leb_tells, nat_tests}
use Rattle.std.proofs.lemmas.List.Sums.{sum_by-append}
use Rattle.std.proofs.lemmas.List.Concat.{flat_map-append, length-flat_map}
use Rattle.cbs_page.specs.Paging.{IsFilled, AreFilled, IsPaging}
use Rattle.cbs_page.proofs.Cutting.{pieces_from, cuts_from}

not_over : (a b : ℕ) → b < a → nat_le a b ≡ false
not_over a b over = grind (arith, nat_tests)

-- how a step of the pass goes
takes : (cost : ℕ → ℕ) (limit : ℕ) (piece : List ℕ) (c : ℕ) (rest : List ℕ) → sum_by cost piece + cost c ≤ limit →
    pieces_from cost limit piece (c ∷ rest) ≡ pieces_from cost limit (piece ++ c ∷ []) rest
takes cost limit piece c rest fits = rw (le-leb (sum_by cost piece + cost c) limit fits) refl

begins : (cost : ℕ → ℕ) (limit : ℕ) (piece : List ℕ) (c : ℕ) (rest : List ℕ) → limit < sum_by cost piece + cost c →
    pieces_from cost limit piece (c ∷ rest) ≡ piece ∷ pieces_from cost limit (c ∷ []) rest
begins cost limit piece c rest full = rw (not_over (sum_by cost piece + cost c) limit full) refl

fits_or_not : (a b : ℕ) → (a ≤ b) ⊎ (b < a)
fits_or_not a b = elim (leb_tells a b) [ inl h ↦ inl h.1 | inr h ↦ inr h.1 ]

-- the cost of one character alone is its own
pub cost_of_one : (cost : ℕ → ℕ) (c : ℕ) → sum_by cost (c ∷ []) ≡ cost c
cost_of_one cost c = zero-add (cost c)

cost_of_push : (cost : ℕ → ℕ) (piece : List ℕ) (c : ℕ) → sum_by cost (piece ++ c ∷ []) ≡ sum_by cost piece + cost c
cost_of_push cost piece c = sum_by-append cost piece (c ∷ []) ∙ ap (λ n. sum_by cost piece + n) (cost_of_one cost c)

-- each character of a text fits a page
abbrev pub EachFits : (ℕ → ℕ) → ℕ → List ℕ → Type 0
EachFits cost limit text = AllByRecursion (λ c. cost c ≤ limit) text

-- the first piece begins with the first character of the piece at hand
abbrev BeginsWith : ℕ → List (List ℕ) → Type 0
BeginsWith c [] = Unit {0}
BeginsWith c ([] ∷ rest) = ⊥
BeginsWith c ((d ∷ piece) ∷ rest) = d ≡ c

first_stays : (cost : ℕ → ℕ) (limit : ℕ) (c : ℕ) (piece rest : List ℕ)
    → BeginsWith c (pieces_from cost limit (c ∷ piece) rest)
first_stays cost limit c piece [] = refl
first_stays cost limit c piece (d ∷ rest) =
    elim (fits_or_not (sum_by cost (c ∷ piece) + cost d) limit) [
      | inl fits ↦ rw (takes cost limit (c ∷ piece) d rest fits) (first_stays cost limit c (piece ++ d ∷ []) rest)
      | inr full ↦ rw (begins cost limit (c ∷ piece) d rest full) refl
    ]

filled_before : (cost : ℕ → ℕ) (limit : ℕ) (piece : List ℕ) (c : ℕ) (pieces : List (List ℕ))
    → limit < sum_by cost piece + cost c →
    BeginsWith c pieces → IsFilled cost limit piece pieces
filled_before cost limit piece c [] full begin = tt
filled_before cost limit piece c ([] ∷ rest) full begin = tt
filled_before cost limit piece c ((d ∷ next) ∷ rest) full begin = rw begin full

-- The pass gives the pages of a text.
pub paging_of_pieces : (cost : ℕ → ℕ) (limit : ℕ) (c : ℕ) (piece rest : List ℕ) → sum_by cost (c ∷ piece) ≤ limit →
    EachFits cost limit rest → IsPaging cost limit ((c ∷ piece) ++ rest) (pieces_from cost limit (c ∷ piece) rest)
paging_of_pieces cost limit c piece [] within each = record {
  whole = refl;
  nonempty = (λ e. cc, tt);
  within = (within, tt);
  filled = (tt, tt);
}
paging_of_pieces cost limit c piece (d ∷ rest) within each =
    elim (fits_or_not (sum_by cost (c ∷ piece) + cost d) limit) [
      | inl fits ↦
          let taken : sum_by cost ((c ∷ piece) ++ d ∷ []) ≤ limit = rw (cost_of_push cost (c ∷ piece) d) fits in
          let tail : IsPaging cost limit ((c ∷ (piece ++ d ∷ [])) ++ rest)
          (pieces_from cost limit (c ∷ (piece ++ d ∷ [])) rest) =
          paging_of_pieces cost limit c (piece ++ d ∷ []) rest taken each.1 in
          let moved : (c ∷ (piece ++ d ∷ [])) ++ rest ≡ (c ∷ piece) ++ (d ∷ rest) = ap (λ xs. c ∷ xs)
          (append_assoc piece (d ∷ []) rest) in
          rw (takes cost limit (c ∷ piece) d rest fits)
          (subst (λ (text : List ℕ). IsPaging cost limit text (pieces_from cost limit (c ∷ (piece ++ d ∷ [])) rest))
          moved tail)
      | inr full ↦
          let tail : IsPaging cost limit (d ∷ rest) (pieces_from cost limit (d ∷ []) rest) =
          paging_of_pieces cost limit d [] rest (rw (cost_of_one cost d) each.0) each.1 in
          rw (begins cost limit (c ∷ piece) d rest full) record {
            whole = ap (λ xs. (c ∷ piece) ++ xs) tail.whole;
            nonempty = (λ e. cc, tail.nonempty);
            within = (within, tail.within);
            filled = (
              filled_before cost limit (c ∷ piece) d (pieces_from cost limit (d ∷ []) rest) full
                  (first_stays cost limit d [] rest),
              tail.filled,
            );
          }
    ]

through_piece : (cost : ℕ → ℕ) (limit : ℕ) (front back rest : List ℕ) → sum_by cost (front ++ back) ≤ limit →
    pieces_from cost limit front (back ++ rest) ≡ pieces_from cost limit (front ++ back) rest
through_piece cost limit front [] rest within = ap (λ xs. pieces_from cost limit xs rest) (sym (append-nil front))
through_piece cost limit front (c ∷ back) rest within =
    let joined : (front ++ c ∷ []) ++ back ≡ front ++ c ∷ back = append_assoc front (c ∷ []) back in
    let all : sum_by cost ((front ++ c ∷ []) ++ back) ≤ limit = rw joined within in
    let fits : sum_by cost front + cost c ≤ limit =
    rw (← cost_of_push cost front c) (omega (arith, sum_by-append cost (front ++ c ∷ []) back)) in
    takes cost limit front c (back ++ rest) fits ∙ through_piece cost limit (front ++ c ∷ []) back rest all
    ∙ ap (λ xs. pieces_from cost limit xs rest) joined

through_pieces : (cost : ℕ → ℕ) (limit : ℕ) (piece : List ℕ) (pieces : List (List ℕ))
    → IsFilled cost limit piece pieces →
    AllByRecursion (λ p. p ≢ []) pieces → AllByRecursion (λ p. sum_by cost p ≤ limit) pieces
    → AreFilled cost limit pieces →
    pieces_from cost limit piece (concat pieces) ≡ piece ∷ pieces
through_pieces cost limit piece [] full nonempty within filled = refl
through_pieces cost limit piece ([] ∷ pieces) full nonempty within filled = absurd (nonempty.0 refl)
through_pieces cost limit piece ((c ∷ next) ∷ pieces) full nonempty within filled =
    begins cost limit piece c (next ++ concat pieces) full
    ∙ ap (λ xs. piece ∷ xs)
    (through_piece cost limit (c ∷ []) next (concat pieces) within.0
    ∙ through_pieces cost limit (c ∷ next) pieces filled.0 nonempty.1 within.1 filled.1)

-- Each list of pieces that is a paging of a text is what the pass gives.
pub pieces_of_paging : (cost : ℕ → ℕ) (limit : ℕ) (c : ℕ) (rest : List ℕ) (pieces : List (List ℕ)) →
    IsPaging cost limit (c ∷ rest) pieces → pieces_from cost limit (c ∷ []) rest ≡ pieces
pieces_of_paging cost limit c rest [] paging = let e : [] ≡ c ∷ rest = paging.whole in cc
pieces_of_paging cost limit c rest ([] ∷ pieces) paging = absurd (paging.nonempty.0 refl)
pieces_of_paging cost limit c rest ((d ∷ piece) ∷ pieces) paging =
    let same : d ∷ (piece ++ concat pieces) ≡ c ∷ rest = paging.whole in
    let head : d ≡ c = cc in
    let tail : piece ++ concat pieces ≡ rest = cc in
    rw (← head, ← tail)
    (through_piece cost limit (d ∷ []) piece (concat pieces) paging.within.0
    ∙ through_pieces cost limit (d ∷ piece) pieces paging.filled.0 paging.nonempty.1 paging.within.1 paging.filled.1)

-- No text has no pieces.
pub pieces_of_nothing : (cost : ℕ → ℕ) (limit : ℕ) (pieces : List (List ℕ)) → IsPaging cost limit [] pieces →
    pieces ≡ []
pieces_of_nothing cost limit [] paging = refl
pieces_of_nothing cost limit ([] ∷ pieces) paging = absurd (paging.nonempty.0 refl)
pieces_of_nothing cost limit ((d ∷ piece) ∷ pieces) paging = let e : d ∷ (piece ++ concat pieces) ≡ [] = paging.whole
    in cc

-- A text has one list of pages at most.
pub one_paging : (cost : ℕ → ℕ) (limit : ℕ) (text : List ℕ) (pieces others : List (List ℕ)) →
    IsPaging cost limit text pieces → IsPaging cost limit text others → pieces ≡ others
one_paging cost limit [] pieces others one two = pieces_of_nothing cost limit pieces one
    ∙ sym (pieces_of_nothing cost limit others two)
one_paging cost limit (c ∷ rest) pieces others one two =
    sym (pieces_of_paging cost limit c rest pieces one) ∙ pieces_of_paging cost limit c rest others two

-- The codes of the pieces are cut as the pieces are.
pub cuts_of_pieces : (codes : ℕ → List ℕ) (limit : ℕ) (piece rest : List ℕ) →
    map (flat_map codes) (pieces_from (λ c. length (codes c)) limit piece rest) ≡ cuts_from codes limit
    (flat_map codes piece) rest
cuts_of_pieces codes limit piece [] = refl
cuts_of_pieces codes limit piece (c ∷ rest) =
    let cost : ℕ → ℕ = λ c. length (codes c) in
    let same : length (flat_map codes piece) ≡ sum_by cost piece = length-flat_map codes piece in
    let grown : flat_map codes (piece ++ c ∷ []) ≡ flat_map codes piece ++ codes c =
    flat_map-append codes piece (c ∷ []) ∙ ap (λ xs. flat_map codes piece ++ xs) (append-nil (codes c)) in
    elim (fits_or_not (sum_by cost piece + cost c) limit) [
      | inl fits ↦
          rw (takes cost limit piece c rest fits)
          (cuts_of_pieces codes limit (piece ++ c ∷ []) rest
          ∙ rw (same, le-leb (sum_by cost piece + cost c) limit fits, grown) refl)
      | inr full ↦
          rw (begins cost limit piece c rest full)
          (ap (λ xs. flat_map codes piece ∷ xs)
          (cuts_of_pieces codes limit (c ∷ []) rest ∙ ap (λ xs. cuts_from codes limit xs rest) (append-nil (codes c)))
          ∙ rw (same, not_over (sum_by cost piece + cost c) limit full) refl)
    ]
