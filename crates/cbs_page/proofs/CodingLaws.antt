-- The value of a language stands for the GSM 7-bit alphabet, and that of UCS-2 for UCS-2.
use Rattle.std.proofs.Common.{◌≡◌, ℕ, Bool, true, false, Some, List, [], ◌∷◌, refl, cond}
use Rattle.std.specs.List.{AllByRecursion}
use Rattle.std.specs.Str.{bytes_eq}
use Rattle.cbs_page.specs.declared.coding.Alphabet.{Alphabet}
use Rattle.cbs_page.specs.declared.coding.Alphabet.TheVariants.{Gsm, Ucs2}
use Rattle.cbs_page.specs.Coding.{Language, languages, value_among, language_value, alphabet_of}
use Rattle.cbs_page.specs.Text.{coding_for}

each_is_gsm : AllByRecursion (λ l. alphabet_of l.value ≡ Some Gsm) languages
each_is_gsm = (
  refl,
  (
    refl,
    (
      refl,
      (
        refl,
        (
          refl,
          (
            refl,
            (
              refl,
              (
                refl,
                (
                  refl,
                  (refl, (refl, (refl, (refl, (refl, (refl, (refl, (refl, (refl, (refl, (refl, (refl, tt)))))))))))),
                ),
              ),
            ),
          ),
        ),
      ),
    ),
  ),
)

found_is_gsm : (ls : List Language) (word : List ℕ) (value : ℕ)
    → AllByRecursion (λ l. alphabet_of l.value ≡ Some Gsm) ls →
    value_among ls word ≡ Some value → alphabet_of value ≡ Some Gsm
found_is_gsm [] word value each found = cc
found_is_gsm (l ∷ ls) word value each found = by_test (bytes_eq word l.word) found (found_is_gsm ls word value each.1)
  where
    by_test : (test : Bool) → cond test (Some l.value) (value_among ls word) ≡ Some value →
        (value_among ls word ≡ Some value → alphabet_of value ≡ Some Gsm) → alphabet_of value ≡ Some Gsm
    by_test true here later = let same : l.value ≡ value = cc in rw (← same) each.0
    by_test false here later = later here

-- The data coding of a text has the text's alphabet.
pub alphabet_of_coding : (alphabet : Alphabet) (word : List ℕ) (value : ℕ) → language_value word ≡ Some value →
    alphabet_of (coding_for alphabet value) ≡ Some alphabet
unfolding language_value
alphabet_of_coding Gsm word value spoken = found_is_gsm languages word value each_is_gsm spoken
alphabet_of_coding Ucs2 word value spoken = refl
