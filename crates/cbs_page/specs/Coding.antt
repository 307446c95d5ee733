-- Data coding of cell broadcast pages. 3GPP TS 23.038, clause 5. The words that name languages are this project's own.
use Rattle.std.specs.Prelude.{ℕ, ◌/◌, ◌%◌, ◌==◌, ◌||◌, nat_le, if◌then◌else◌, Option, Some, None, List, [], ◌∷◌, codes}
use Rattle.std.specs.Str.{bytes_eq}
use Rattle.cbs_page.specs.declared.coding.Alphabet.{Alphabet}
use Rattle.cbs_page.specs.declared.coding.Alphabet.TheVariants.{Gsm, Ucs2}

-- a language: its word, and the data coding value of its texts in the GSM 7-bit alphabet
pub record Language : Type 0 where
  pub word : List ℕ
  pub value : ℕ

abbrev pub language : List ℕ → ℕ → Language
language word value = record { word = word; value = value }

-- coding groups 0000 and 0010, in the order of their values
abbrev pub languages : List Language
languages =
    language (codes "de") 0 ∷ language (codes "en") 1 ∷ language (codes "it") 2 ∷ language (codes "fr") 3
    ∷ language (codes "es") 4 ∷ language (codes "nl") 5 ∷ language (codes "sv") 6 ∷ language (codes "da") 7
    ∷ language (codes "pt") 8 ∷ language (codes "fi") 9 ∷ language (codes "no") 10 ∷ language (codes "el") 11
    ∷ language (codes "tr") 12 ∷ language (codes "hu") 13 ∷ language (codes "pl") 14 ∷ language (codes "und") 15
    ∷ language (codes "cs") 32 ∷ language (codes "he") 33 ∷ language (codes "ar") 34 ∷ language (codes "ru") 35
    ∷ language (codes "is") 36 ∷ []

-- the value of the language that a word names
abbrev pub value_among : List Language → List ℕ → Option ℕ
value_among [] word = None
value_among (l ∷ ls) word = if bytes_eq word l.word then Some l.value else value_among ls word

unfoldable pub language_value : List ℕ → Option ℕ
language_value word = value_among languages word

-- a value of the general group has its alphabet in bits 3 and 2: 00 is the GSM 7-bit alphabet, 10 is UCS-2
abbrev pub general_alphabet : ℕ → Option Alphabet
general_alphabet value =
    let bits = value / 4 % 4 in
    if bits == 0 then Some Gsm else if bits == 2 then Some Ucs2 else None

-- bits 7 to 4 are the coding group: 0000 has sixteen languages and 0010 has five; 0100 and 0101 are the general group
-- without compression; no other group has an alphabet here
abbrev pub alphabet_of : ℕ → Option Alphabet
alphabet_of value =
    let group = value / 16 in
    if group == 0 then Some Gsm
    else if group == 2 then (if nat_le (value % 16) 4 then Some Gsm else None)
    else if (group == 4) || (group == 5) then general_alphabet value
    else None
