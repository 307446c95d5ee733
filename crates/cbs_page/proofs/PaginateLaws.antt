-- A text that has characters has its pages, and cutting gives them.
use Rattle.std.proofs.Common.{◌≡◌, ◌≢◌, ℕ, ◌+◌, ◌≤◌, suc, Bool, true, false, None, List, [], ◌∷◌, ◌++◌, length, map}
use Rattle.std.proofs.Common.{refl, sym, ◌∙◌, ap, add_comm, append-nil, arith, inl, inr, cond, zero-add, length-append}
use Rattle.std.specs.Prelude.{position, is_some}
use Rattle.std.specs.Char.{IsScalar}
use Rattle.std.specs.List.{concat, flat_map, list_all, AllByRecursion}
use Rattle.std.proofs.lemmas.Bool.{le-leb, and_parts}
use Rattle.std.proofs.lemmas.Iterator.Adapters.{position_from-zero}
use Rattle.std.proofs.Math.Utf8.{scalars, scalar}
use Rattle.std.proofs.lemmas.List.{length-map}
use Rattle.std.proofs.Math.Numerals.{suc-eq-add-one}
use Rattle.std.proofs.lemmas.Bool.Decides.{leb_tells}
use Rattle.gsm_alphabet.specs.Alphabet.{code_of, IsInAlphabet}
use Rattle.cbs_page.specs.declared.coding.Alphabet.{Alphabet}
use Rattle.cbs_page.specs.declared.coding.Alphabet.TheVariants.{Gsm, Ucs2}
use Rattle.cbs_page.specs.declared.content.Content.{Content}
use Rattle.cbs_page.specs.Paging.{IsPaging}
use Rattle.cbs_page.proofs.Cutting.{pieces_from, cuts_from, count_from}
use Rattle.cbs_page.specs.Text.{capacity, codes_of, cost_of, is_bad, alphabet_for, text_of_content, AreContentsOf}
use Rattle.cbs_page.specs.Text.{IsPagingOf}
use Rattle.cbs_page.proofs.PagingLaws.{EachFits, paging_of_pieces, cuts_of_pieces, cost_of_one}
use Rattle.cbs_page.proofs.TextLaws.{IsSendable, cost-small, capacity-bounds, shows_pieces, none_bad, good-no_return}
use Rattle.cbs_page.proofs.TextLaws.{good-fits, by_parts, both}

one_more : (n : ℕ) → suc n ≡ 1 + n
one_more n = suc-eq-add-one n ∙ add_comm n 1

-- how many pieces a cutting has
pub count_of_cuts : (codes : ℕ → List ℕ) (limit : ℕ) (piece rest : List ℕ) →
    length (cuts_from codes limit piece rest) ≡ count_from codes limit (length piece) rest
count_of_cuts codes limit piece [] = refl
count_of_cuts codes limit piece (c ∷ rest) =
    elim (leb_tells (length piece + length (codes c)) limit) [
      | inl fits ↦
          rw (fits.0) (count_of_cuts codes limit (piece ++ codes c) rest
          ∙ ap (λ n. count_from codes limit n rest) (length-append piece (codes c)))
      | inr full ↦ rw (full.0) (one_more (length (cuts_from codes limit (codes c) rest))
          ∙ ap (λ n. 1 + n) (count_of_cuts codes limit (codes c) rest))
    ]

-- The pages of a text that has characters.
pub record HasPages (alphabet : Alphabet) (text : List ℕ) : Type 0 where
  pub pieces : List (List ℕ)
  pub paging : IsPaging (cost_of alphabet) (capacity alphabet) text pieces
  pub cut : cuts_from (codes_of alphabet) (capacity alphabet) [] text ≡ map (flat_map (codes_of alphabet)) pieces
  pub count : count_from (codes_of alphabet) (capacity alphabet) 0 text ≡ length pieces

each_fits : (alphabet : Alphabet) (text : List ℕ) → EachFits (cost_of alphabet) (capacity alphabet) text
each_fits alphabet [] = tt
each_fits alphabet (c ∷ text) = (
  omega (arith, cost-small alphabet c, capacity-bounds alphabet),
  each_fits alphabet
      text,
)

-- a text that isn't empty has a page
pub has_pages : (alphabet : Alphabet) (text : List ℕ) → text ≢ [] → HasPages alphabet text
has_pages alphabet [] some = absurd (some refl)
has_pages alphabet (c ∷ rest) some =
    let cost = cost_of alphabet in
    let codes = codes_of alphabet in
    let limit = capacity alphabet in
    let pieces = pieces_from cost limit (c ∷ []) rest in
    let fits : length (codes c) ≤ limit = omega (arith, cost-small alphabet c, capacity-bounds alphabet) in
    let paging : IsPaging cost limit (c ∷ rest) pieces =
    paging_of_pieces cost limit c [] rest (rw (cost_of_one cost c) fits) (each_fits alphabet rest) in
    let first : cuts_from codes limit [] (c ∷ rest) ≡ cuts_from codes limit (codes c) rest =
    rw (zero-add (length (codes c)), le-leb (length (codes c)) limit fits) refl in
    let cut : cuts_from codes limit [] (c ∷ rest) ≡ map (flat_map codes) pieces =
    first ∙ ap (λ xs. cuts_from codes limit xs rest) (sym (append-nil (codes c)))
    ∙ sym (cuts_of_pieces codes limit (c ∷ []) rest) in
    record {
      pieces = pieces;
      paging = paging;
      cut = cut;
      count = sym (count_of_cuts codes limit [] (c ∷ rest)) ∙ ap length cut ∙ length-map pieces (flat_map codes);
    }

each_known : (text : List ℕ) → list_all (λ c. is_some (code_of c)) text ≡ true → AllByRecursion IsInAlphabet text
each_known [] all = tt
each_known (c ∷ text) all =
    let parts = and_parts (is_some (code_of c)) (list_all (λ d. is_some (code_of d)) text) all in
    (parts.0, each_known text parts.1)

-- the characters of a text are scalar values
pub each_scalar : (text : List ℕ) → scalars text ≡ true → AllByRecursion IsScalar text
each_scalar [] all = tt
each_scalar (c ∷ text) all =
    let parts = and_parts (scalar c) (scalars text) all in
    (parts.0, each_scalar text parts.1)

each_unit : (text : List ℕ) → AllByRecursion IsScalar text → AllByRecursion (λ c. is_bad c ≡ false) text
    → AllByRecursion (IsSendable Ucs2) text
each_unit [] known good = tt
each_unit (c ∷ text) known good = (
  (known.0, good-fits c good.0, good-no_return c good.0),
  each_unit text known.1
      good.1,
)

sendable_in : (test : Bool) (text : List ℕ) → list_all (λ c. is_some (code_of c)) text ≡ test
    → AllByRecursion IsScalar text →
    AllByRecursion (λ c. is_bad c ≡ false) text → AllByRecursion (IsSendable (cond test Gsm Ucs2)) text
sendable_in true text all known good =
    both IsInAlphabet (λ c. c ≢ 13) text (each_known text all)
    (by_parts (λ c. is_bad c ≡ false) (λ c. c ≢ 13) good-no_return text good)
sendable_in false text all known good = each_unit text known good

-- A text without bad characters is one that its alphabet spells.
pub sendable : (text : List ℕ) → AllByRecursion IsScalar text → position is_bad text ≡ None
    → AllByRecursion (IsSendable (alphabet_for text)) text
sendable text known none =
    sendable_in (list_all (λ c. is_some (code_of c)) text) text refl known
    (none_bad 0 text (sym (position_from-zero is_bad text) ∙ none))

-- The pages of a text, joined, show it.
pub pages_show : (text : List ℕ) (pieces : List (List ℕ)) (contents : List Content) → IsPagingOf text pieces →
    AllByRecursion (IsSendable (alphabet_for text)) text →
    AreContentsOf (alphabet_for text) (map (flat_map (codes_of (alphabet_for text))) pieces) contents →
    flat_map (λ content. text_of_content (alphabet_for text) content.octets) contents ≡ text
pages_show text pieces contents paging good held =
    shows_pieces (alphabet_for text) pieces contents (rw paging.whole good) paging.within held ∙ paging.whole

-- A text that isn't empty has a page.
pub some_page : (text : List ℕ) (pieces : List (List ℕ)) → text ≢ [] → concat pieces ≡ text → 1 ≤ length pieces
some_page text [] some whole = absurd (some (sym whole))
some_page text (piece ∷ pieces) some whole = omega arith
