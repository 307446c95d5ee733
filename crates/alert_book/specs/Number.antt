-- Numbers in a book. Own: one to five ASCII digits, leading zeros among them.
use Rattle.std.specs.Prelude.{ℕ, ◌&&◌, nat_le, Bool, if◌then◌else◌, Option, Some, None, List, length}
use Rattle.std.specs.Char.{is_ascii_digit}
use Rattle.std.specs.List.{list_all}
use Rattle.std.specs.Str.Parse.{digits_value}

abbrev pub is_number : List ℕ → Bool
is_number text = nat_le 1 (length text) && nat_le (length text) 5 && list_all is_ascii_digit text

-- a value, where it is in a range
abbrev pub in_range : (least most : ℕ) → ℕ → Option ℕ
in_range least most value = if nat_le least value && nat_le value most then Some value else None

-- the number that a text says, where it is one and in a range
abbrev pub number_within : (least most : ℕ) → List ℕ → Option ℕ
number_within least most text = if is_number text then in_range least most (digits_value 10 text) else None
