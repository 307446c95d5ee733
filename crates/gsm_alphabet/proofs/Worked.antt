-- The definitions on worked values of TS 23.038, clauses 6.2.1 and 6.2.1.1.
use Rattle.std.proofs.Common.{◌≡◌, Some, None, [], ◌∷◌, length, refl}
use Rattle.gsm_alphabet.specs.declared.Code.TheVariants.{One, Ext}
use Rattle.gsm_alphabet.specs.Alphabet.{main_table, extension_table, code_of, septets_of, text_of_septets}

-- every septet but the escape has a character, and nine more follow an escape
table_lengths : (length main_table ≡ 127) × (length extension_table ≡ 9)
unfolding main_table extension_table
table_lengths = (refl, refl)

-- '@' is 00, 'é' is 05, 'à' is 7F, '€' is 1B 65, and 'ç' (small) is none
codes : (code_of 0x40 ≡ Some (One 0x00)) × (code_of 0xE9 ≡ Some (One 0x05)) × (code_of 0xE0 ≡ Some (One 0x7F))
    × (code_of 0x20AC ≡ Some (Ext 0x65)) × (code_of 0xE7 ≡ None)
unfolding main_table extension_table
codes = (refl, refl, refl, refl, refl)

septets : (septets_of 0x41 ≡ 0x41 ∷ []) × (septets_of 0x5B ≡ 0x1B ∷ 0x3C ∷ []) × (septets_of 0x60 ≡ [])
unfolding main_table extension_table
septets = (refl, refl, refl)

-- "A€", then an escape before 'A', an escape before LF, two escapes, and a last escape
texts : (text_of_septets (0x41 ∷ 0x1B ∷ 0x65 ∷ []) ≡ 0x41 ∷ 0x20AC ∷ [])
    × (text_of_septets (0x1B ∷ 0x41 ∷ []) ≡ 0x41 ∷ [])
    × (text_of_septets (0x1B ∷ 0x0A ∷ []) ≡ 0x0A ∷ [])
    × (text_of_septets (0x1B ∷ 0x1B ∷ 0x3C ∷ []) ≡ 0x20 ∷ 0x3C ∷ [])
    × (text_of_septets (0x42 ∷ 0x1B ∷ []) ≡ 0x42 ∷ 0x20 ∷ [])
unfolding main_table extension_table
texts = (refl, refl, refl, refl, refl)
