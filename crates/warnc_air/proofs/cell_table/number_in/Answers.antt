use Rattle.std.proofs.Common.{◌≡◌, ◌<◌, ◌≤◌, ◌^◌, ◌∙◌, true, ℕ, List, length, rules, arith, sym}
use Rattle.std.specs.Char.{is_ascii_digit}
use Rattle.std.specs.List.{list_all}
use Rattle.std.specs.Str.Parse.{digits_value}
use Rattle.std.proofs.lemmas.Str.Parse.{IsNumeralModel, IsDigitsTest, numerals_by_value, parse_gives}
use Rattle.std.proofs.lemmas.Str.Parse.{digits_value_short}
use Rattle.warnc_air.specs.CellTable.{is_number}
use Rattle.warnc_air.proofs.cell_table.number_in.Goals as goal

tells : IsDigitsTest (λ text. list_all is_ascii_digit text ≡ true)
tells = search rules

own : IsNumeralModel (λ text. list_all is_ascii_digit text ≡ true) (digits_value 10)
own = numerals_by_value _ tells

-- what a number is made of
pub record HasDigits (text : List ℕ) : Type 0 where
  pub some : 0 < length text
  pub few : length text < 6
  pub digits : list_all is_ascii_digit text ≡ true

digits_of : (digits : ℕ) (text : List ℕ) → digits ≤ 5 → is_number digits text ≡ true → HasDigits text
digits_of digits text few e = record { some = grind arith; few = grind arith; digits = search rules }

pub returns-in-Err-clause-number : goal.returns-in-Err-clause-number
returns-in-Err-clause-number c =
    let number : HasDigits c.args.text.now =
    digits_of _ _ c.requires (sym c.is_number.ensures ∙ c.if-not-is_number.false) in
    let small : digits_value 10 c.args.text.now < 10 ^ 5 =
    digits_value_short own c.args.text.now 5 number.digits (omega arith) in
    let read = parse_gives own 32 c.args.text.now _ c.parse.ensures.value.0 number.digits number.some (omega arith) in
    cc
