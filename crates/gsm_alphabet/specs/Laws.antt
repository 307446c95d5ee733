-- Laws of the alphabet (own), over every character and every septet list.
use Rattle.std.specs.Prelude.{◌≡◌, ◌≢◌, ◌↔◌, ℕ, ◌<◌, ◌≤◌, Some, All, List, ◌∷◌, ◌++◌, length}
use Rattle.std.specs.Char.{IsScalar}
use Rattle.std.specs.List.{flat_map}
use Rattle.gsm_alphabet.specs.declared.Code.TheVariants.{One, Ext}
use Rattle.gsm_alphabet.specs.Alphabet.{main_table, extension_table, code_of, IsInAlphabet, IsExtension, septets_of}
use Rattle.gsm_alphabet.specs.Alphabet.{main_character, extension_character, text_of_septets}

-- a Unicode scalar value of one UCS-2 unit
abbrev pub IsBasicScalar : ℕ → Type 0
IsBasicScalar character = IsScalar character × (character < 65536)

-- the text of a character's septets and then of any others is that character and the text of the others
abbrev pub TextBeginsWithCharacter : Type 0
TextBeginsWithCharacter =
    (character : ℕ) (rest : List ℕ) → IsInAlphabet character →
    text_of_septets (septets_of character ++ rest) ≡ character ∷ text_of_septets rest

-- the text of the septets of some characters and then of any others is those characters and the text of the others
abbrev pub TextBeginsWithCharacters : Type 0
TextBeginsWithCharacters =
    (characters rest : List ℕ) → All IsInAlphabet characters →
    text_of_septets (flat_map septets_of characters ++ rest) ≡ characters ++ text_of_septets rest

-- the text of the septets of some characters is those characters
abbrev pub TextComesBack : Type 0
TextComesBack =
    (characters : List ℕ) → All IsInAlphabet characters →
    text_of_septets (flat_map septets_of characters) ≡ characters

-- a character of the alphabet takes one septet, or two where it stands in the extension table
abbrev pub TakesOneOrTwo : Type 0
TakesOneOrTwo =
    (character : ℕ) → IsInAlphabet character →
    (1 ≤ length (septets_of character)) × (length (septets_of character) ≤ 2)
    × ((length (septets_of character) ≡ 2) ↔ IsExtension character)

-- each septet of a character is below 128
abbrev pub SeptetsAreSmall : Type 0
SeptetsAreSmall = (character : ℕ) → All (λ septet. septet < 128) (septets_of character)

-- a carriage return is no septet of any other character
abbrev pub OnlyReturnTakesReturn : Type 0
OnlyReturnTakesReturn = (character : ℕ) → character ≢ 13 → All (λ septet. septet ≢ 13) (septets_of character)

-- what a septet shows, by itself or after an escape, is a Unicode scalar value of one UCS-2 unit
abbrev pub ShowsBasicScalars : Type 0
ShowsBasicScalars =
    (septet : ℕ) → IsBasicScalar (main_character septet) × IsBasicScalar (extension_character septet)

-- each character of the alphabet is one, too
abbrev pub HasBasicScalars : Type 0
HasBasicScalars = (character : ℕ) → IsInAlphabet character → IsBasicScalar character

-- the character of each entry of either table has that entry's code, so that no two entries have one character
abbrev pub EntriesAreCodes : Type 0
EntriesAreCodes =
    All (λ entry. code_of entry.1 ≡ Some (One entry.0)) main_table
    × All (λ entry. code_of entry.1 ≡ Some (Ext entry.0)) extension_table
