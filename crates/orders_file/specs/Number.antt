-- Numbers of an orders file: decimal, and of hexadecimal digits. Own.
use Rattle.std.specs.Prelude.{ℕ, ◌+◌, ◌*◌, ◌&&◌, nat_le, Bool, if◌then◌else◌, Option, Some, None, option_map}
use Rattle.std.specs.Prelude.{List, length, get_or, Result}
use Rattle.std.specs.Char.{is_ascii_digit}
use Rattle.std.specs.List.{list_all}
use Rattle.std.specs.Option.{ok_or}
use Rattle.std.specs.Result.{result_ok}
use Rattle.std.specs.Str.Parse.{digits_value}
use Rattle.hex.specs.Hex.{decode_sized}
use Rattle.orders_file.specs.declared.fault.OrdersFileFaultKind.{OrdersFileFaultKind}
use Rattle.orders_file.specs.declared.fault.OrdersFileFaultKind.TheVariants as faults

-- 1 to 10 ASCII digits, leading zeros among them
abbrev pub is_number : List ℕ → Bool
is_number field = nat_le 1 (length field) && nat_le (length field) 10 && list_all is_ascii_digit field

-- a value, if it is no larger than this
abbrev pub up_to : (most : ℕ) → ℕ → Option ℕ
up_to most value = if nat_le value most then Some value else None

-- the number that a field says, if it says one, and that is no larger than this
abbrev pub number_up_to : (most : ℕ) → List ℕ → Option ℕ
number_up_to most field = if is_number field then up_to most (digits_value 10 field) else None

abbrev pub number : (most : ℕ) → List ℕ → Result ℕ OrdersFileFaultKind
number most field = ok_or (number_up_to most field) faults.Number

-- so many octets, two hexadecimal digits of either case each
abbrev pub octets_of : (count : ℕ) → List ℕ → Option (List ℕ)
octets_of count field = result_ok (decode_sized field count)

-- numbers of 8 and of 16 bits
abbrev pub octet_in : List ℕ → ℕ
octet_in octets = get_or octets 0 0

abbrev pub pair_in : List ℕ → ℕ
pair_in octets = get_or octets 0 0 * 256 + get_or octets 1 0

abbrev pub octet_of : List ℕ → Option ℕ
octet_of field = option_map octet_in (octets_of 1 field)

abbrev pub pair_of : List ℕ → Option ℕ
pair_of field = option_map pair_in (octets_of 2 field)

abbrev pub serial : List ℕ → Result ℕ OrdersFileFaultKind
serial field = ok_or (pair_of field) faults.Digits
