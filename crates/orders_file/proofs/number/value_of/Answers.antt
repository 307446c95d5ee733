use Rattle.std.proofs.Common.{◌≡◌, ◌+◌, ◌-◌, ◌*◌, ◌<◌, ◌≤◌, ◌^◌, length, take, get_or, arith}
use Rattle.std.specs.Char.{digit_value}
use Rattle.std.specs.Str.Parse.{digits_value}
use Rattle.std.proofs.lemmas.Int.Digits.{digits_value_more}
use Rattle.std.proofs.lemmas.Str.Parse.{digits_value-take-le, digits_value_short}
use Rattle.orders_file.proofs.Digits.{digit_at, digit_is, own}
use Rattle.orders_file.proofs.number.value_of.Goals as goal

pub overflow_mul-value : goal.overflow_mul-value
overflow_mul-value c =
    let small : digits_value 10 c.args.digits.now < 10 ^ 10 =
    digits_value_short own c.args.digits.now 10 c.requires.digits c.requires.few in
    let less : digits_value 10 (take c.loop-digit.digit-index c.args.digits.now) ≤ digits_value 10 c.args.digits.now =
    digits_value-take-le 10 c.args.digits.now c.loop-digit.digit-index (omega arith) in
    omega (arith, small, less, c.loop-digit.invariant)

pub overflow_add-value : goal.overflow_add-value
overflow_add-value c =
    let small : digits_value 10 c.args.digits.now < 10 ^ 10 =
    digits_value_short own c.args.digits.now 10 c.requires.digits c.requires.few in
    let less : digits_value 10 (take c.loop-digit.digit-index c.args.digits.now) ≤ digits_value 10 c.args.digits.now =
    digits_value-take-le 10 c.args.digits.now c.loop-digit.digit-index (omega arith) in
    omega (arith, small, less, c.loop-digit.invariant, c.from.ensures)

pub loop-digit-preserved : goal.loop-digit-preserved
loop-digit-preserved c =
    let i = c.loop-digit.digit-index in
    let digits = c.args.digits.now in
    let inside : i < length digits = omega (arith, c.loop-digit-test.true) in
    let more : digits_value 10 (take (i + 1) digits)
    ≡ digits_value 10 (take i digits) * 10 + digit_value (get_or digits i 0) =
    digits_value_more 10 digits i inside in
    let is : digit_value (get_or digits i 0) ≡ get_or digits i 0 - 48 =
    digit_is (get_or digits i 0) (digit_at digits i inside c.requires.digits) in
    omega (arith, more, is, c.loop-digit.invariant, c.from.ensures)
