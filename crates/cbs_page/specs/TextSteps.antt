-- A step of reading a page's text: septets that show the characters of their own numbers, as most of ASCII does in the
-- GSM 7-bit alphabet (3GPP TS 23.038, clause 6.2.1). The contracts of private functions alone speak of it.
use Rattle.std.specs.Prelude.{ℕ, ◌==◌, ◌&&◌, ◌||◌, nat_le, nat_lt, Bool}

-- LF, CR, the space to `#`, `%` to `?`, and the letters without marks: not `$`, `@` and what ASCII has between and
-- after the letters
abbrev pub is_plain : ℕ → Bool
is_plain septet = nat_lt septet 128
    && ((nat_le 97 septet && nat_le septet 122) || (nat_le 32 septet && nat_le septet 35) ||
    (nat_le 65 septet && nat_le septet 90)
    || (nat_le 37 septet && nat_le septet 63) || septet == 10 || septet == 13)
