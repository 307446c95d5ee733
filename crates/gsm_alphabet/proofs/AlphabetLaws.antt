-- The laws of the alphabet: a test over each table, which computes, and from it the rule for every character and
-- septet.
use Rattle.std.proofs.Common.{◌≡◌, ◌≢◌, ℕ, ◌<◌, ◌≤◌, ◌+◌, ◌*◌, zero, suc, Bool, cond, true, false, not, ◌&&◌, eqb, ltb}
use Rattle.std.proofs.Common.{Option, Some, None, IsSome, IfSome, unwrap_or, inl, inr, List, [], ◌∷◌, ◌++◌, ◌↔◌, length}
use Rattle.std.proofs.Common.{All, append_assoc, append-nil, replicate, length-append, refl, sym, ap, ◌∙◌, arith}
use Rattle.std.proofs.lemmas.List.Elements.{All-nil, All-cons, All-head, All-tail, All-append}
use Rattle.std.proofs.lemmas.List.Sums.{AllPass-from_list_all}
use Rattle.std.proofs.lemmas.Bool.{and_parts, eqb-true, ltb-true, eqb-false, eq-eqb, ne_eqb, not-true, cases_eq}
use Rattle.std.proofs.lemmas.Bool.{false≢true}
use Rattle.std.proofs.Math.Utf8.{low_scalar}
use Rattle.std.specs.List.{list_all, flat_map}
use Rattle.std.specs.Option.{option_map_or}
use Rattle.gsm_alphabet.specs.declared.Code.{Code}
use Rattle.gsm_alphabet.specs.declared.Code.TheVariants.{One, Ext}
use Rattle.gsm_alphabet.specs.Alphabet.{main_table, extension_table, look_up, septet_in, character_in, code_by, code_of}
use Rattle.gsm_alphabet.specs.Alphabet.{IsInAlphabet, IsExtension, septets_of, septets_of_code, main_character}
use Rattle.gsm_alphabet.specs.Alphabet.{extension_character, character_of_code, text_of_septets, text_after}
use Rattle.gsm_alphabet.specs.Laws.{IsBasicScalar, TextBeginsWithCharacter, TextBeginsWithCharacters}
use Rattle.gsm_alphabet.specs.Laws.{TextComesBack, TakesOneOrTwo, SeptetsAreSmall, OnlyReturnTakesReturn}
use Rattle.gsm_alphabet.specs.Laws.{ShowsBasicScalars, HasBasicScalars, EntriesAreCodes}

-- two codes are the same
is_same : Code → Code → Bool
is_same (One septet) (One other) = eqb septet other
is_same (One septet) (Ext other) = false
is_same (Ext septet) (One other) = false
is_same (Ext septet) (Ext other) = eqb septet other

same-from_is_same : (a b : Code) → is_same a b ≡ true → a ≡ b
unfolding is_same
same-from_is_same (One septet) (One other) h = ap (λ x. One x) (eqb-true septet other h)
same-from_is_same (One septet) (Ext other) h = cc
same-from_is_same (Ext septet) (One other) h = cc
same-from_is_same (Ext septet) (Ext other) h = ap (λ x. Ext x) (eqb-true septet other h)

-- what was found is this code
is_code : Option Code → Code → Bool
is_code None code = false
is_code (Some found) code = is_same found code

code-from_is_code : (found : Option Code) (code : Code) → is_code found code ≡ true → found ≡ Some code
unfolding is_code
code-from_is_code None code h = cc
code-from_is_code (Some found) code h = ap (λ x. Some x) (same-from_is_same found code h)

-- what holds of each entry of a table: its septet, which is never a certain one, is sent as a code and shows a
-- character
pub record IsEntry (code : ℕ → Code) (shown : ℕ → ℕ) (never septet character : ℕ) : Type 0 where
  pub is_small : septet < 128
  pub is_other : septet ≢ never
  pub shows : shown septet ≡ character
  pub code_is : code_of character ≡ Some (code septet)
  pub is_low : character < 55296

-- an entry of the default alphabet, whose septet isn't the escape
abbrev pub IsMainEntry : ℕ → ℕ → Type 0
IsMainEntry septet character = IsEntry (λ x. One x) main_character 27 septet character

-- an entry of the extension table, whose septet isn't the carriage return
abbrev pub IsExtensionEntry : ℕ → ℕ → Type 0
IsExtensionEntry septet character = IsEntry (λ x. Ext x) extension_character 13 septet character

-- the test of these facts, which computes
is_entry : (code : ℕ → Code) (shown : ℕ → ℕ) (never : ℕ) → ℕ × ℕ → Bool
is_entry code shown never entry =
    ltb entry.0 128 && (not (eqb entry.0 never) && (eqb (shown entry.0) entry.1 &&
    (is_code (code_of entry.1) (code entry.0) && ltb entry.1 55296)))

main_entries : list_all (is_entry (λ x. One x) main_character 27) main_table ≡ true
unfolding main_table extension_table is_same is_code is_entry
main_entries = refl

extension_entries : list_all (is_entry (λ x. Ext x) extension_character 13) extension_table ≡ true
unfolding main_table extension_table is_same is_code is_entry
extension_entries = refl

IsEntry-from_test : (code : ℕ → Code) (shown : ℕ → ℕ) (never : ℕ) (entry : ℕ × ℕ)
    → is_entry code shown never entry ≡ true → IsEntry code shown never entry.0 entry.1
unfolding is_entry
IsEntry-from_test code shown never entry h =
    let a = and_parts _ _ h in
    let b = and_parts _ _ a.1 in
    let d = and_parts _ _ b.1 in
    let e = and_parts _ _ d.1 in
    record {
      is_small = ltb-true _ _ a.0;
      is_other = eqb-false _ _ (not-true _ b.0);
      shows = eqb-true _ _ d.0;
      code_is = code-from_is_code _ _ e.0;
      is_low = ltb-true _ _ e.1;
    }

-- what holds of each entry holds of the one that a look-up finds
look_up-holds : (key value : ℕ × ℕ → ℕ) (P : ℕ → ℕ → Type 0) (test : ℕ × ℕ → Bool)
    → ((entry : ℕ × ℕ) → test entry ≡ true → P (key entry) (value entry)) →
    (table : List (ℕ × ℕ)) (wanted found : ℕ) → list_all test table ≡ true
    → look_up key value table wanted ≡ Some found → P wanted found
look_up-holds key value P test holds [] wanted found all is = cc
look_up-holds key value P test holds (entry ∷ table) wanted found all is =
    let parts = and_parts (test entry) (list_all test table) all in
    elim (cases_eq (key entry) wanted) [
      | inl same ↦
          let here : Some (value entry) ≡ Some found = rw (eq-eqb (key entry) wanted same) at is in
          let value_is : value entry ≡ found = cc in
          rw (← value_is, ← same) (holds entry parts.0)
      | inr other ↦ look_up-holds key value P test holds table wanted found parts.1
          (rw (ne_eqb (key entry) wanted other) at is)
    ]

module _ (code : ℕ → Code) (shown : ℕ → ℕ) (never : ℕ) (table : List (ℕ × ℕ))
    (all : list_all (is_entry code shown never) table ≡ true) where
  entry_by_character : (character septet : ℕ) → septet_in table character ≡ Some septet
      → IsEntry code shown never septet character
  entry_by_character character septet found =
      look_up-holds (λ entry. entry.1) (λ entry. entry.0) (λ c s. IsEntry code shown never s c)
      (is_entry code shown never)
      (IsEntry-from_test code shown never) table character septet all found

  entry_by_septet : (septet character : ℕ) → character_in table septet ≡ Some character
      → IsEntry code shown never septet character
  entry_by_septet septet character found =
      look_up-holds (λ entry. entry.0) (λ entry. entry.1) (IsEntry code shown never) (is_entry code shown never)
      (IsEntry-from_test code shown never) table septet character all found

code_by-one : (main extended : Option ℕ) (septet : ℕ) → code_by main extended ≡ Some (One septet) → main ≡ Some septet
code_by-one (Some code) extended septet e = cc
code_by-one None (Some code) septet e = cc
code_by-one None None septet e = cc

code_by-ext : (main extended : Option ℕ) (septet : ℕ) → code_by main extended ≡ Some (Ext septet)
    → extended ≡ Some septet
code_by-ext (Some code) extended septet e = cc
code_by-ext None (Some code) septet e = cc
code_by-ext None None septet e = cc

-- what the code of a character says
pub one_entry : (character septet : ℕ) → code_of character ≡ Some (One septet) → IsMainEntry septet character
one_entry character septet e =
    let found = code_by-one (septet_in main_table character) (septet_in extension_table character) septet e in
    entry_by_character (λ x. One x) main_character 27 main_table main_entries character septet found

ext_entry : (character septet : ℕ) → code_of character ≡ Some (Ext septet) → IsExtensionEntry septet character
ext_entry character septet e =
    let found = code_by-ext (septet_in main_table character) (septet_in extension_table character) septet e in
    entry_by_character (λ x. Ext x) extension_character 13 extension_table extension_entries character septet found

-- the text of a code's septets and of any others
text_begins-at : (character : ℕ) (code : Option Code) (rest : List ℕ) → code_of character ≡ code → IsSome code
    → text_of_septets (option_map_or septets_of_code code [] ++ rest) ≡ character ∷ text_of_septets rest
text_begins-at character None rest e some = absurd (false≢true some)
text_begins-at character (Some (One septet)) rest e some =
    let entry = one_entry character septet e in
    let shows = entry.shows in
    rw (ne_eqb septet 27 entry.is_other, shows)
text_begins-at character (Some (Ext septet)) rest e some =
    let entry = ext_entry character septet e in
    let shows = entry.shows in
    rw shows

-- the septets of a character, whatever follows, are read as that character first
pub text_begins : TextBeginsWithCharacter
text_begins character rest in_alphabet = text_begins-at character (code_of character) rest refl in_alphabet

-- the septets of characters, whatever follows, are read as those characters first
pub texts_begin : TextBeginsWithCharacters
texts_begin [] rest all = refl
texts_begin (character ∷ characters) rest all =
    let here : IsInAlphabet character = All-head IsInAlphabet character characters all in
    let others = texts_begin characters rest (All-tail IsInAlphabet character characters all) in
    ap text_of_septets (append_assoc (septets_of character) (flat_map septets_of characters) rest)
    ∙ text_begins character (flat_map septets_of characters ++ rest) here
    ∙ ap (λ text. character ∷ text) others

-- a text that can be written in septets is read back from them
pub text_comes_back : TextComesBack
text_comes_back characters all =
    ap text_of_septets (sym (append-nil (flat_map septets_of characters)))
    ∙ texts_begin characters [] all
    ∙ append-nil characters

one_and_found : (character septet : ℕ) (found : Option ℕ) → code_of character ≡ Some (One septet)
    → septet_in extension_table character ≡ found → IsSome found → ⊥
one_and_found character septet None e is some = absurd (false≢true some)
one_and_found character septet (Some after) e is some =
    let code = (entry_by_character (λ x. Ext x) extension_character 13 extension_table extension_entries character
    after is).code_is in
    cc

-- the septet of the carriage return shows it
return_shown : (character septet : ℕ) → main_character septet ≡ character → septet ≡ 13 → character ≡ 13
unfolding main_table
return_shown character septet shows is = sym shows ∙ ap main_character is

-- a character with a code of one septet is not in the extension table
one_and_extension : (character septet : ℕ) → code_of character ≡ Some (One septet) → IsExtension character → ⊥
one_and_extension character septet e extended = one_and_found character septet (septet_in extension_table character) e
    refl extended

-- two septets exactly for a character of the extension table
takes-at : (character : ℕ) (code : Option Code) → code_of character ≡ code → IsSome code
    → (1 ≤ length (option_map_or septets_of_code code [])) × (length (option_map_or septets_of_code code []) ≤ 2)
    × ((length (option_map_or septets_of_code code []) ≡ 2) ↔ IsExtension character)
takes-at character None e some = absurd (false≢true some)
takes-at character (Some (One septet)) e some = (
  omega arith,
  omega arith,
  (λ two. absurd (omega arith), λ extended. absurd (one_and_extension character septet e extended)),
)
takes-at character (Some (Ext septet)) e some =
    let found = code_by-ext (septet_in main_table character) (septet_in extension_table character) septet e in
    (omega arith, omega arith, (λ two. rw found, λ extended. refl))

-- a character takes one septet or two
pub takes_one_or_two : TakesOneOrTwo
takes_one_or_two character in_alphabet = takes-at character (code_of character) refl in_alphabet

-- what holds of the escape, and of a character's septet in its table, holds of each of its septets
All-at : (P : ℕ → Type 0) (character : ℕ) → P 27 → ((septet : ℕ) → IsMainEntry septet character → P septet)
    → ((septet : ℕ) → IsExtensionEntry septet character → P septet) →
    (code : Option Code) → code_of character ≡ code → All P (option_map_or septets_of_code code [])
All-at P character escape main extension None e = All-nil P
All-at P character escape main extension (Some (One septet)) e =
    All-cons P septet [] (main septet (one_entry character septet e)) (All-nil P)
All-at P character escape main extension (Some (Ext septet)) e =
    All-cons P 27 (septet ∷ []) escape (All-cons P septet [] (extension septet (ext_entry character septet e))
    (All-nil P))

-- each septet of a character is below 128
pub septets_are_small : SeptetsAreSmall
septets_are_small character =
    All-at (λ x. x < 128) character (omega arith) (λ septet entry. entry.is_small) (λ septet entry. entry.is_small)
    (code_of character) refl

-- only the carriage return takes the septet of one
pub only_return_takes_return : OnlyReturnTakesReturn
only_return_takes_return character other =
    All-at (λ x. x ≢ 13) character (omega arith) (λ septet entry is. other
    (return_shown character septet entry.shows is))
    (λ septet entry. entry.is_other) (code_of character) refl

-- characters below the surrogates are scalar values of one unit
basic-low : (character : ℕ) → character < 55296 → IsBasicScalar character
basic-low character low = (low_scalar character low, omega arith)

-- what a look-up finds, or what stands for it where it finds nothing
basic_or : (found : Option ℕ) (default : ℕ) → ((character : ℕ) → found ≡ Some character → character < 55296)
    → IsBasicScalar default → IsBasicScalar (unwrap_or found default)
basic_or None default low basic = basic
basic_or (Some character) default low basic = basic-low character (low character refl)

main_character-basic : (septet : ℕ) → IsBasicScalar (main_character septet)
main_character-basic septet =
    basic_or (character_in main_table septet) 32
    (λ character e. (entry_by_septet (λ x. One x) main_character 27 main_table main_entries septet character e).is_low)
    (basic-low 32 (omega arith))

-- what septets show are scalar values of at most 16 bits
pub shows_basic_scalars : ShowsBasicScalars
shows_basic_scalars septet = (
  main_character-basic septet,
  basic_or (character_in extension_table septet) (main_character septet)
      (λ character e. (entry_by_septet (λ x. Ext x) extension_character 13 extension_table extension_entries septet
      character e).is_low)
      (main_character-basic septet),
)

has_basic-at : (character : ℕ) (code : Option Code) → code_of character ≡ code → IsSome code → IsBasicScalar character
has_basic-at character None e some = absurd (false≢true some)
has_basic-at character (Some (One septet)) e some = basic-low character (one_entry character septet e).is_low
has_basic-at character (Some (Ext septet)) e some = basic-low character (ext_entry character septet e).is_low

-- the characters of the alphabet are scalar values of at most 16 bits
pub has_basic_scalars : HasBasicScalars
has_basic_scalars character in_alphabet = has_basic-at character (code_of character) refl in_alphabet

-- the entries of both tables are septets
pub entries_are_codes : EntriesAreCodes
entries_are_codes = (
  (λ k entry h. (IsEntry-from_test _ _ 27 _ (AllPass-from_list_all (is_entry (λ x. One x) main_character 27) main_table
      main_entries k entry h)).code_is),
  (λ k entry h. (IsEntry-from_test _ _ 13 _ (AllPass-from_list_all (is_entry (λ x. Ext x) extension_character 13)
      extension_table extension_entries k entry h)).code_is),
)

decodes-at : (character : ℕ) (code : Option Code) → code_of character ≡ code
    → IfSome code (λ c. character_of_code c ≡ character)
decodes-at character None e = tt
decodes-at character (Some (One septet)) e = (one_entry character septet e).shows
decodes-at character (Some (Ext septet)) e = (ext_entry character septet e).shows

-- the character that a character's code shows is that character
pub code_of-decodes : (character : ℕ) → IfSome (code_of character) (λ code. character_of_code code ≡ character)
code_of-decodes character = decodes-at character (code_of character) refl

-- what holds of each character's septets holds of all
All-flat_map : (P Q : ℕ → Type 0) → ((character : ℕ) → P character → All Q (septets_of character))
    → (characters : List ℕ) → All P characters → All Q (flat_map septets_of characters)
All-flat_map P Q each [] all = All-nil Q
All-flat_map P Q each (character ∷ characters) all =
    All-append Q (septets_of character) (flat_map septets_of characters)
    (each character (All-head P character characters all))
    (All-flat_map P Q each characters (All-tail P character characters all))

-- the septets of characters are below 128
pub flat_map-small : (characters : List ℕ) → All (λ septet. septet < 128) (flat_map septets_of characters)
flat_map-small characters =
    All-flat_map (λ _. Unit {0}) (λ septet. septet < 128) (λ character _. septets_are_small character) characters
    (λ _ _ _. tt)

-- characters without a carriage return take no septet of one
pub flat_map-no_return : (characters : List ℕ) → All (λ character. character ≢ 13) characters
    → All (λ septet. septet ≢ 13) (flat_map septets_of characters)
flat_map-no_return = All-flat_map (λ character. character ≢ 13) (λ septet. septet ≢ 13) only_return_takes_return

-- a text takes at least as many septets as it has characters, and at most twice as many
pub length-flat_map_septets : (characters : List ℕ) → All IsInAlphabet characters
    → (length characters ≤ length (flat_map septets_of characters))
    × (length (flat_map septets_of characters) ≤ 2 * length characters)
length-flat_map_septets [] all = (omega arith, omega arith)
length-flat_map_septets (character ∷ characters) all =
    let here = takes_one_or_two character (All-head IsInAlphabet character characters all) in
    let others = length-flat_map_septets characters (All-tail IsInAlphabet character characters all) in
    let both = length-append (septets_of character) (flat_map septets_of characters) in
    (omega (arith, here.0), omega (arith, here.1))

plain-basic : (septet : ℕ) (rest : List ℕ) (escape : Bool) → All IsBasicScalar (text_after escape rest)
    → All IsBasicScalar (cond escape [] (main_character septet ∷ []) ++ text_after escape rest)
plain-basic septet rest true all = all
plain-basic septet rest false all = All-cons IsBasicScalar (main_character septet) (text_after false rest)
    (shows_basic_scalars septet).0 all

-- the text of any septets is of Unicode scalar values of one UCS-2 unit
text_after-basic : (pending : Bool) (septets : List ℕ) → All IsBasicScalar (text_after pending septets)
text_after-basic true [] = All-cons IsBasicScalar 32 [] (basic-low 32 (omega arith)) (All-nil IsBasicScalar)
text_after-basic false [] = All-nil IsBasicScalar
text_after-basic true (septet ∷ rest) =
    All-cons IsBasicScalar (extension_character septet) (text_after false rest) (shows_basic_scalars septet).1
    (text_after-basic false rest)
text_after-basic false (septet ∷ rest) = plain-basic septet rest (eqb septet 27) (text_after-basic (eqb septet 27) rest)

text_of_septets-basic : (septets : List ℕ) → All IsBasicScalar (text_of_septets septets)
text_of_septets-basic septets = text_after-basic false septets

plain-length : (septet : ℕ) (rest : List ℕ) (escape : Bool) → length (text_after escape rest) ≤ length rest + cond
    escape 1 0 → length (cond escape [] (main_character septet ∷ []) ++ text_after escape rest) ≤ length
    (septet ∷ rest) + 0
plain-length septet rest true bound = omega arith
plain-length septet rest false bound = omega arith

-- a text has at most as many characters as septets; an escape before them can add one
pub length-text_after : (pending : Bool) (septets : List ℕ) → length (text_after pending septets) ≤ length septets +
    cond pending 1 0
length-text_after true [] = omega arith
length-text_after false [] = omega arith
length-text_after true (septet ∷ rest) = omega (arith, length-text_after false rest)
length-text_after false (septet ∷ rest) = plain-length septet rest (eqb septet 27)
    (length-text_after (eqb septet 27) rest)

length-text_of_septets : (septets : List ℕ) → length (text_of_septets septets) ≤ length septets
length-text_of_septets septets = omega (arith, length-text_after false septets)

-- carriage returns, which fill a page, show carriage returns
pub text_of_septets-replicate : (n : ℕ) → text_of_septets (replicate n 13) ≡ replicate n 13
unfolding main_table
text_of_septets-replicate zero = refl
text_of_septets-replicate (suc n) = ap (λ text. 13 ∷ text) (text_of_septets-replicate n)
