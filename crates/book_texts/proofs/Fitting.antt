-- How many pages a front takes, and which of the fronts is the best.
use Rattle.std.proofs.Common.{◌≡◌, ◌≢◌, ◌⊎◌, ◌↔◌, ℕ, ◌+◌, ◌<◌, ◌≤◌, List, [], ◌∷◌, ◌++◌, length, take, refl, sym, ◌∙◌}
use Rattle.std.proofs.Common.{ap}
use Rattle.std.proofs.Common.{Bool, true, false, inl, inr, subst, arith, append_assoc, append-nil, rules}
use Rattle.std.proofs.lemmas.Bool.{cases_lt, le-leb, le-ltb, lt-leb, lt-ltb}
use Rattle.std.proofs.lemmas.Bool.Decides.{leb_tells}
use Rattle.cbs_page.proofs.Cutting.{count_from}
use Rattle.cbs_page.proofs.PagingLaws.{one_paging}
use Rattle.cbs_page.proofs.PaginateLaws.{has_pages}
use Rattle.cbs_page.specs.Text.{alphabet_for, capacity, codes_of, cost_of}
use Rattle.cbs_page.specs.declared.coding.Alphabet.{Alphabet}
use Rattle.book_texts.specs.Cost.{pages_from}
use Rattle.book_texts.specs.Fit.{ends_word, FitsIn, IsCut, IsWhole}
use Rattle.book_texts.specs.FitSteps.{best_with, length_of_best, HasFilled, IsBest}
use Rattle.book_texts.specs.declared.fit.Best.{Best}
use Rattle.book_texts.specs.declared.fit.Pages.{Pages}

-- they are as many as the cutting gives
pub same_count : (alphabet : Alphabet) (used : ℕ) (text : List ℕ)
    → pages_from alphabet used text ≡ count_from (codes_of alphabet) (capacity alphabet) used text
same_count alphabet used [] = refl
same_count alphabet used (c ∷ rest) =
    elim (leb_tells (used + length (codes_of alphabet c)) (capacity alphabet)) [
      | inl fits ↦ rw (fits.0) (same_count alphabet (used + length (codes_of alphabet c)) rest)
      | inr full ↦ rw (full.0) (ap (λ n. 1 + n) (same_count alphabet (length (codes_of alphabet c)) rest))
    ]

-- a character that fits is put on the page at hand
pub filled_more : (p : Pages) (front : List ℕ) (c cost : ℕ) → cost ≡ cost_of p.alphabet c
    → p.used + cost ≤ capacity p.alphabet
    → HasFilled front p
    → HasFilled (front ++ c ∷ []) (record p { used = p.used + cost })
filled_more p front c cost is fits filled =
    λ rest.
    let step : pages_from p.alphabet p.used (c ∷ rest) ≡ pages_from p.alphabet (p.used + cost) rest =
    rw (is) (rw (le-leb (p.used + cost_of p.alphabet c) (capacity p.alphabet) (subst (λ (n : ℕ). p.used + n
    ≤ capacity p.alphabet) is fits)) refl) in
    ap (λ n. p.count + n) (sym step) ∙ filled (c ∷ rest)
    ∙ ap (λ xs. pages_from p.alphabet 0 xs + 1) (sym (append_assoc front (c ∷ []) rest))

-- one that doesn't begins a further page
pub filled_page : (p : Pages) (front : List ℕ) (c cost : ℕ) → cost ≡ cost_of p.alphabet c
    → capacity p.alphabet < p.used + cost
    → HasFilled front p
    → HasFilled (front ++ c ∷ []) (record p { count = p.count + 1; used = cost })
filled_page p front c cost is full filled =
    λ rest.
    let step : pages_from p.alphabet p.used (c ∷ rest) ≡ 1 + pages_from p.alphabet cost rest =
    rw (is) (rw (lt-leb (p.used + cost_of p.alphabet c) (capacity p.alphabet) (subst (λ (n : ℕ). capacity p.alphabet
    < p.used + n) is full)) refl) in
    let before = filled (c ∷ rest) in
    let whole = ap (λ xs. pages_from p.alphabet 0 xs) (append_assoc front (c ∷ []) rest) in
    omega (arith, step, before, whole)

-- a front that has characters takes the pages that it has filled
pub fits_if_few : (alphabet : Alphabet) (text : List ℕ) (p : Pages) (pages : ℕ) → alphabet ≡ alphabet_for text
    → p.alphabet ≡ alphabet
    → HasFilled text p
    → text ≢ []
    → (p.count ≤ pages) ↔ FitsIn pages text
fits_if_few alphabet text p pages is in_it filled some =
    let own : p.alphabet ≡ alphabet_for text = in_it ∙ is in
    let has = has_pages (alphabet_for text) text some in
    let all : p.count ≡ pages_from p.alphabet 0 text =
    let end = filled [] in
    let same = ap (λ xs. pages_from p.alphabet 0 xs) (append-nil text) in
    omega (arith, end, same) in
    let count : p.count ≡ length has.pieces =
    all ∙ ap (λ (a : Alphabet). pages_from a 0 text) own ∙ same_count (alphabet_for text) 0 text ∙ has.count in (
      λ few. (has.pieces, has.paging, omega (arith, count, few)),
      λ fits.
          let one : fits.0 ≡ has.pieces =
          one_paging (cost_of (alphabet_for text)) (capacity (alphabet_for text)) text fits.0 has.pieces fits.1
          has.paging in
          omega (arith, count, fits.2, ap length one),
    )

-- no text takes no page
pub fits_nothing : (pages : ℕ) → FitsIn pages []
fits_nothing pages = ([], record { whole = refl; nonempty = tt; within = tt; filled = tt }, omega arith)

-- a number below the next one is below this one, or this one
below_next : (m n : ℕ) → m < n + 1 → (m < n) ⊎ (m ≡ n)
below_next m n before =
    elim (cases_lt m n) [
      | inl less ↦ inl less
      | inr more ↦ inr (omega (arith, before, more))
    ]

-- what isn't so of shorter fronts, nor of this one, isn't of any up to it
none_up_to : (P : ℕ → Type 0) (after n : ℕ) → ((m : ℕ) → after < m → m < n → P m → ⊥) → (P n → ⊥)
    → (m : ℕ) → after < m → m < n + 1 → P m → ⊥
none_up_to P after n shorter not_this m more before so =
    elim (below_next m n before) [
      | inl less ↦ shorter m more less so
      | inr same ↦ not_this (subst P same so)
    ]

-- nothing stands between a number and the next one
none_between : (P : ℕ → Type 0) (n : ℕ) → (m : ℕ) → n < m → m < n + 1 → P m → ⊥
none_between P n m more before so = omega (arith, more, before)

never : (t : Bool) → t ≡ false → t ≡ true → ⊥
never t wrong right = absurd (search (rules, wrong, right))

-- a front of this length is seen, too
pub best_after : (pages : ℕ) (text : List ℕ) (n : ℕ) (best : Best) (fits ends : Bool) → n ≤ length text
    → ((fits ≡ true) ↔ FitsIn pages (take n text))
    → ends ≡ ends_word text n
    → IsBest pages text n best
    → IsBest pages text (n + 1) (best_with best n fits ends)
best_after pages text n best false ends within tells gap is = record {
  within = is.within;
  fits = is.fits;
  none_fits = none_up_to (λ m. FitsIn pages (take m text)) best.fitting n is.none_fits
      (λ so. never false refl (tells.1 so));
  is_whole = is.is_whole;
  none_is_whole = none_up_to (IsWhole pages text) best.whole n is.none_is_whole
      (λ so. never false refl (tells.1 so.1));
}
best_after pages text n best true false within tells gap is = record {
  within = (within, is.within.1);
  fits = tells.0 refl;
  none_fits = none_between (λ m. FitsIn pages (take m text)) n;
  is_whole = is.is_whole;
  none_is_whole = none_up_to (IsWhole pages text) best.whole n is.none_is_whole
      (λ so. never (ends_word text n) (sym gap) so.0);
}
best_after pages text n best true true within tells gap is = record {
  within = (within, within);
  fits = tells.0 refl;
  none_fits = none_between (λ m. FitsIn pages (take m text)) n;
  is_whole = λ some. (sym gap, tells.0 refl);
  none_is_whole = none_between (IsWhole pages text) n;
}

-- once all are seen, the best is where the text is cut
pub cut_at_best : (pages : ℕ) (text : List ℕ) (best : Best) → IsBest pages text (length text + 1) best
    → IsCut pages text (length_of_best best)
cut_at_best pages text best is =
    elim (cases_lt 0 best.whole) [
      | inl some ↦
          rw (lt-ltb 0 best.whole some) (record {
            within = is.within.1;
            fits = (is.is_whole some).1;
            longest = λ m after all whole. is.none_is_whole m after (omega (arith, all)) whole;
            ends = inl (some, (is.is_whole some).0);
          })
      | inr none ↦
          rw (le-ltb 0 best.whole none) (record {
            within = is.within.0;
            fits = is.fits;
            longest = λ m after all whole. is.none_is_whole m (omega (arith, none, after)) (omega (arith, all)) whole;
            ends = inr (
              λ m after all whole. is.none_is_whole m (omega (arith, none, after)) (omega (arith, all)) whole,
              λ m after all so. is.none_fits m after (omega (arith, all)) so,
            );
          })
    ]

-- the same where the best fronts, their length and the next one have names of their own
pub seen_more : (pages : ℕ) (text : List ℕ) (n place next : ℕ) (best new : Best) (fits ends : Bool) → place ≡ n
    → next ≡ n + 1
    → n ≤ length text
    → ((fits ≡ true) ↔ FitsIn pages (take n text))
    → ends ≡ ends_word text n
    → new ≡ best_with best place fits ends
    → IsBest pages text n best
    → IsBest pages text next new
seen_more pages text n place next best new fits ends here more within tells gap made is =
    rw (made, more, here) (best_after pages text n best fits ends within tells gap is)
