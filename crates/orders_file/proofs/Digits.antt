-- Digits of numbers.
use Rattle.std.proofs.Common.{◌≡◌, ◌∙◌, sym, ◌<◌, ◌-◌, ℕ, List, length, get_or, true, false, arith, rules}
use Rattle.std.specs.Char.{digit_value, is_ascii_digit}
use Rattle.std.specs.List.{list_all}
use Rattle.std.specs.Str.Parse.{digits_value}
use Rattle.std.proofs.lemmas.Str.Parse.{IsNumeralModel, IsDigitsTest, numerals_by_value}
use Rattle.std.proofs.lemmas.Bool.{true_from_ne_false, true≢false}
use Rattle.std.proofs.lemmas.List.Folds.{list_all_at}

tells : IsDigitsTest (λ text. list_all is_ascii_digit text ≡ true)
tells = search rules

-- decimal digits are a model of numerals
pub own : IsNumeralModel (λ text. list_all is_ascii_digit text ≡ true) (digits_value 10)
own = numerals_by_value _ tells

-- a digit of digits
pub digit_at : (digits : List ℕ) (i : ℕ) → i < length digits → list_all is_ascii_digit digits ≡ true →
    is_ascii_digit (get_or digits i 0) ≡ true
digit_at digits i less all =
    true_from_ne_false (is_ascii_digit (get_or digits i 0))
    (λ (no : is_ascii_digit (get_or digits i 0) ≡ false).
    true≢false (sym all ∙ list_all_at is_ascii_digit digits i 0 less no))

-- the value of a digit
pub digit_is : (c : ℕ) → is_ascii_digit c ≡ true → digit_value c ≡ c - 48
digit_is c digit = grind arith
