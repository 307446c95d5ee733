-- The definitions on worked values of 3GPP TS 23.038 and 23.041, and a small text that is cut.
use Rattle.std.proofs.Common.{◌≡◌, ℕ, ◌<◌, Some, None, [], ◌∷◌, refl, arith}
use Rattle.std.specs.Prelude.{codes}
use Rattle.cbs_page.specs.declared.coding.Alphabet.TheVariants.{Gsm, Ucs2}
use Rattle.cbs_page.specs.Coding.{language_value, alphabet_of}
use Rattle.cbs_page.specs.Page.{octets_of_page, place_of}
use Rattle.cbs_page.specs.Paging.{IsPaging, AreFilled}
use Rattle.cbs_page.specs.Serial.{serial_number}
use Rattle.cbs_page.specs.Text.{without_trailing, is_filling}

-- all bits, and message code 1 alone
serials : (serial_number 3 1023 15 ≡ 0xFFFF) × (serial_number 0 1 0 ≡ 0x0010) × (serial_number 1 2 3 ≡ 0x4023)
serials = (refl, refl, refl)

-- the first and last value of each range, and those beside them
alphabets : (alphabet_of 0x0F ≡ Some Gsm) × (alphabet_of 0x10 ≡ None) × (alphabet_of 0x24 ≡ Some Gsm)
    × (alphabet_of 0x25 ≡ None)
    × (alphabet_of 0x43 ≡ Some Gsm) × (alphabet_of 0x44 ≡ None) × (alphabet_of 0x48 ≡ Some Ucs2)
    × (alphabet_of 0x4C ≡ None)
    × (alphabet_of 0x5B ≡ Some Ucs2) × (alphabet_of 0x60 ≡ None) × (alphabet_of 0xF0 ≡ None)
alphabets = (refl, refl, refl, refl, refl, refl, refl, refl, refl, refl, refl)

-- Russian, no language told, and a word that names none
values : (language_value (codes "ru") ≡ Some 0x23) × (language_value (codes "und") ≡ Some 0x0F)
    × (language_value (codes "eng") ≡ None)
unfolding language_value
values = (refl, refl, refl)

-- page 2 of 3 of the message 4370, 0010, in English
header : octets_of_page 4370 0x0010 1 2 3 [] ≡ 0x00 ∷ 0x10 ∷ 0x11 ∷ 0x12 ∷ 0x01 ∷ 0x23 ∷ []
header = refl

-- a half that is 0 makes it page 1 of 1
places : (place_of 0x23 ≡ (2, 3)) × (place_of 0x07 ≡ (1, 1)) × (place_of 0x50 ≡ (1, 1)) × (place_of 0x21 ≡ (2, 1))
places = (refl, refl, refl, refl)

-- carriage returns are dropped at the end alone
trailing : without_trailing is_filling (0x41 ∷ 13 ∷ 0x42 ∷ 13 ∷ 13 ∷ []) ≡ 0x41 ∷ 13 ∷ 0x42 ∷ []
trailing = refl

-- characters that cost 1, 2 and 1 on pages that hold 2: a page each, for none could take the next
abbrev price : ℕ → ℕ
price c = c

a_page_each : IsPaging price 2 (1 ∷ 2 ∷ 1 ∷ []) ((1 ∷ []) ∷ (2 ∷ []) ∷ (1 ∷ []) ∷ [])
a_page_each = record {
  whole = refl;
  nonempty = (λ e. cc, (λ e. cc, (λ e. cc, tt)));
  within = (omega arith, (omega arith, (omega arith, tt)));
  filled = (omega arith, (omega arith, (tt, tt)));
}

-- a page that could have taken the next character isn't filled
not_filled : AreFilled price 2 ((1 ∷ []) ∷ (1 ∷ []) ∷ []) → ⊥
not_filled filled = let over : 2 < 2 = filled.0 in omega arith
