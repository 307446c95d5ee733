-- The table of the characters up to U+00FF is held against the definition at each of them, by computing.
use Rattle.std.proofs.Common.{◌≡◌, ℕ, ◌<◌, ◌≤◌, Bool, true, false, ◌&&◌, ◌||◌, eqb, ltb, Option, Some, None, ap, refl}
use Rattle.std.proofs.Common.{inl, inr, slice_index_or, arith}
use Rattle.std.proofs.lemmas.Bool.{agree_below, agree_below_at, and_parts, eqb-true, ltb-true, false≢true, or_cases}
use Rattle.gsm_alphabet.specs.declared.Code.{Code}
use Rattle.gsm_alphabet.specs.declared.Code.TheVariants.{One, Ext}
use Rattle.gsm_alphabet.specs.declared.alphabet.TheConstants.{LATIN}
use Rattle.gsm_alphabet.specs.Alphabet.{main_table, extension_table, code_of, main_character}

abbrev is_one : ℕ → Option Code → Bool
is_one n (Some (One m)) = eqb m n
is_one n (Some (Ext m)) = false
is_one n None = false

-- the character's code is that septet, which shows it
abbrev is_septet_of : ℕ → ℕ → Bool
is_septet_of septet character = is_one septet (code_of character) && eqb (main_character septet) character

abbrev entry_of : ℕ → ℕ
entry_of character = slice_index_or LATIN character 0

-- the table has no septet for the character, or the right one
abbrev is_right : ℕ → Bool
is_right character = ltb 127 (entry_of character) || is_septet_of (entry_of character) character

all_are_right : agree_below is_right (λ k. true) 256 ≡ true
unfolding main_table extension_table
all_are_right = refl

is_one-code : (n : ℕ) (code : Option Code) → is_one n code ≡ true → code ≡ Some (One n)
is_one-code n (Some (One m)) same = ap (λ (k : ℕ). Some (One k)) (eqb-true m n same)
is_one-code n (Some (Ext m)) same = absurd (false≢true same)
is_one-code n None same = absurd (false≢true same)

-- a septet of the table is the code of its character, and shows it
pub LATIN-is_right : (character : ℕ) → character < 256 → slice_index_or LATIN character 0 ≤ 127
    → (code_of character ≡ Some (One (slice_index_or LATIN character 0)))
    × (main_character (slice_index_or LATIN character 0) ≡ character)
LATIN-is_right character below septet =
    elim (or_cases (ltb 127 (entry_of character)) (is_septet_of (entry_of character) character)
    (agree_below_at is_right (λ k. true) 256 character all_are_right below)) [
      | inl none ↦ absurd (omega (arith, septet, ltb-true 127 (entry_of character) none))
      | inr found ↦
          let parts = and_parts (is_one (entry_of character) (code_of character)) (eqb (main_character (entry_of
          character)) character) found in (
            is_one-code (entry_of character) (code_of character) parts.0,
            eqb-true (main_character (entry_of character))
                character parts.1,
          )
    ]
