-- A text of more than 1,395 characters takes more than 15 pages in any alphabet.
use Rattle.std.proofs.Common.{◌≡◌, ℕ, ◌*◌, ◌<◌, ◌≤◌, Option, None, Some, List, [], ◌∷◌, length, length-append, IsSome}
use Rattle.std.proofs.Common.{arith, refl, lt-ltb}
use Rattle.std.specs.Option.{option_map_or}
use Rattle.std.specs.List.{concat, AllByRecursion}
use Rattle.std.specs.Prelude.{sum_by}
use Rattle.std.proofs.lemmas.List.Sums.{sum_by-cons}
use Rattle.gsm_alphabet.specs.Alphabet.{code_of, septets_of_code}
use Rattle.gsm_alphabet.specs.declared.Code.{Code}
use Rattle.gsm_alphabet.specs.declared.Code.TheVariants.{One, Ext}
use Rattle.ucs2_text.specs.Ucs2.{unit_of_character}
use Rattle.cbs_page.specs.declared.coding.Alphabet.{Alphabet}
use Rattle.cbs_page.specs.declared.coding.Alphabet.TheVariants.{Gsm, Ucs2}
use Rattle.cbs_page.specs.Paging.{IsPaging}
use Rattle.cbs_page.specs.Text.{capacity, cost_of}
use Rattle.cbs_page.proofs.TextLaws.{IsSendable, first_part, last_part}

-- a character that can be sent costs a code at least
cost-some : (alphabet : Alphabet) (c : ℕ) → IsSendable alphabet c → 1 ≤ cost_of alphabet c
cost-some Gsm c good = of_code (code_of c) good.0
  where
    of_code : (code : Option Code) → IsSome code → 1 ≤ length (option_map_or septets_of_code code [])
    of_code None some = cc
    of_code (Some (One septet)) some = omega arith
    of_code (Some (Ext septet)) some = omega arith
cost-some Ucs2 c good =
    let unit : unit_of_character c ≡ Some c = rw (lt-ltb c 65536 good.1) refl in
    rw unit (omega arith)

-- so a piece has no more characters than it costs
piece-length : (alphabet : Alphabet) (piece : List ℕ) → AllByRecursion (IsSendable alphabet) piece →
    length piece ≤ sum_by (cost_of alphabet) piece
piece-length alphabet [] good = omega arith
piece-length alphabet (c ∷ piece) good =
    rw sum_by-cons (omega (arith, cost-some alphabet c good.0, piece-length alphabet piece good.1))

-- the pages of a text hold no more characters than codes
pages-length : (alphabet : Alphabet) (pieces : List (List ℕ)) → AllByRecursion (IsSendable alphabet) (concat pieces) →
    AllByRecursion (λ piece. sum_by (cost_of alphabet) piece ≤ capacity alphabet) pieces →
    length (concat pieces) ≤ 93 * length pieces
pages-length alphabet [] good within = omega arith
pages-length alphabet (piece ∷ pieces) good within =
    omega (
      arith,
      piece-length alphabet piece (first_part (IsSendable alphabet) piece (concat pieces) good),
      within.0,
      capacity-most alphabet,
      pages-length alphabet pieces (last_part (IsSendable alphabet) piece (concat pieces) good) within.1,
      length-append piece (concat pieces),
    )
  where
    capacity-most : (a : Alphabet) → capacity a ≤ 93
    capacity-most Gsm = omega arith
    capacity-most Ucs2 = omega arith

-- a text of more than 1,395 characters that can be sent takes more than 15 pages
pub long-pages : (alphabet : Alphabet) (text : List ℕ) (pieces : List (List ℕ))
    → IsPaging (cost_of alphabet) (capacity alphabet) text pieces →
    AllByRecursion (IsSendable alphabet) text → 1395 < length text → 15 < length pieces
long-pages alphabet text pieces paging good long =
    let most : length (concat pieces) ≤ 93 * length pieces =
    pages-length alphabet pieces (rw paging.whole good) paging.within in
    let same : length (concat pieces) ≡ length text = rw paging.whole refl in
    omega arith
