-- What is written of numbers is read back.
use Rattle.std.proofs.Common.{◌≡◌, ◌<◌, ◌≤◌, ◌^◌, ◌∙◌, ◌/◌, ◌%◌, ◌*◌, ◌+◌, ℕ, zero, suc, true, List, [], ◌∷◌}
use Rattle.std.proofs.Common.{length, Option, Some, ap, refl, arith}
use Rattle.std.specs.Prelude.{nat_le, option_map, All}
use Rattle.std.specs.Fmt.{decimal}
use Rattle.std.specs.Result.{result_ok}
use Rattle.std.specs.Str.Parse.{digits_value}
use Rattle.std.proofs.lemmas.Fmt.{decimal_nonempty, digits_decimal, digits_value-decimal, length-decimal-le}
use Rattle.std.proofs.lemmas.List.Elements.{All-head, All-tail}
use Rattle.hex.specs.Hex.{IsBytes, encode_lower}
use Rattle.hex.proofs.HexLemmas.{decode_sized-encode_lower}
use Rattle.orders_file.specs.Number.{is_number, number_up_to, octet_in, octet_of, octets_of, pair_in, pair_of}
use Rattle.orders_file.proofs.Digits.{own}

-- a test of an order
pub le_test : (a b : ℕ) → a ≤ b → nat_le a b ≡ true
le_test a b less = grind arith

-- a decimal number
decimal_is : (n : ℕ) → n < 10 ^ 10 → is_number (decimal n) ≡ true
decimal_is n small =
    rw (
      le_test 1 (length (decimal n)) (omega (arith, decimal_nonempty n (omega arith))),
      le_test (length (decimal n)) 10 (length-decimal-le 10 n (omega arith) small (omega arith)),
      digits_decimal own n (omega arith),
    ) refl

-- a decimal number up to this is read back
pub number_back : (most n : ℕ) → n ≤ most → most < 10 ^ 10 → number_up_to most (decimal n) ≡ Some n
number_back most n less small =
    let value : digits_value 10 (decimal n) ≡ n = digits_value-decimal own n (omega arith) in
    rw (decimal_is n (omega arith), value, le_test n most less) refl

-- octets, each below 256
pub all_octets : (octets : List ℕ) → All (λ n. n < 256) octets → IsBytes octets
all_octets [] all i = omega arith
all_octets (n ∷ octets) all zero = All-head (λ n. n < 256) n octets all
all_octets (n ∷ octets) all (suc i) = all_octets octets (All-tail (λ n. n < 256) n octets all) i

-- octets in hexadecimal digits are read back
pub octets_back : (count : ℕ) (octets : List ℕ) → length octets ≡ count → All (λ n. n < 256) octets
    → octets_of count (encode_lower octets) ≡ Some octets
octets_back count octets long all =
    ap result_ok (decode_sized-encode_lower octets count long (all_octets octets all))

one_octet : (n : ℕ) → n < 256 → IsBytes (n ∷ [])
one_octet n less zero = less
one_octet n less (suc i) = omega arith

-- one of them is
pub octet_back : (n : ℕ) → n < 256 → octet_of (encode_lower (n ∷ [])) ≡ Some n
octet_back n less =
    ap (λ (r : Option (List ℕ)). option_map octet_in r)
    (ap result_ok (decode_sized-encode_lower (n ∷ []) 1 refl (one_octet n less)))

two_octets : (a b : ℕ) → a < 256 → b < 256 → IsBytes (a ∷ b ∷ [])
two_octets a b high low zero = high
two_octets a b high low (suc zero) = low
two_octets a b high low (suc (suc i)) = omega arith

-- and so is a number of 16 bits
pub pair_back : (n : ℕ) → n < 65536 → pair_of (encode_lower (n / 256 ∷ n % 256 ∷ [])) ≡ Some n
pair_back n less =
    let same : n / 256 * 256 + n % 256 ≡ n = omega arith in
    ap (λ (r : Option (List ℕ)). option_map pair_in r)
    (ap result_ok (decode_sized-encode_lower (n / 256 ∷ n % 256 ∷ []) 2 refl
    (two_octets (n / 256) (n % 256) (omega arith) (omega arith))))
    ∙ ap (λ (m : ℕ). Some m) same
