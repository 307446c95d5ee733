-- Texts of characters that are one septet of their own numbers: the octets of the text are its septets, and it
-- can be sent.
use Rattle.std.proofs.Common.{◌≡◌, ℕ, ◌+◌, ◌<◌, zero, suc, Option, Some, None, List, [], ◌∷◌}
use Rattle.std.proofs.Common.{All, Bool, true, false, not, eqb, refl, sym, ap, ◌∙◌, arith, subst}
use Rattle.std.proofs.Common.{below_more}
use Rattle.std.specs.Prelude.{◌&&◌, ◌||◌, is_some, position}
use Rattle.std.specs.List.{flat_map, list_all, position_from, AllByRecursion}
use Rattle.std.specs.Str.{chars}
use Rattle.std.proofs.lemmas.Bool.{and_parts, eqb-true, ltb-true}
use Rattle.std.proofs.lemmas.Iterator.Adapters.{position_from-zero}
use Rattle.std.proofs.lemmas.List.Elements.{All-from_recursion}
use Rattle.std.proofs.lemmas.Str.Ascii.{IsAscii-from_all}
use Rattle.std.proofs.lemmas.Str.{chars-IsAscii}
use Rattle.gsm_alphabet.specs.declared.Code.{Code}
use Rattle.gsm_alphabet.specs.declared.Code.TheVariants.{One, Ext}
use Rattle.gsm_alphabet.specs.Alphabet.{code_of, main_table, extension_table}
use Rattle.cbs_page.specs.declared.coding.Alphabet.TheVariants.{Gsm}
use Rattle.cbs_page.specs.PagingSteps.{is_own_septet}
use Rattle.cbs_page.specs.Text.{codes_of, is_bad, alphabet_for}

-- a test holds of each number below one
abbrev all_below : ℕ → (ℕ → Bool) → Bool
all_below zero test = true
all_below (suc n) test = test n && all_below n test

below : (n : ℕ) (p : ℕ → Bool) → all_below n p ≡ true → (k : ℕ) → k < n → p k ≡ true
below zero p all k within = absurd (omega arith)
below (suc n) p all k within =
    let parts = and_parts (p n) (all_below n p) all in
    below_more (λ i. p i ≡ true) n (below n p parts.1) parts.0 k (omega arith)

abbrev is_one : ℕ → Option Code → Bool
is_one n (Some (One m)) = eqb m n
is_one n (Some (Ext m)) = false
is_one n None = false

is_one-code : (n : ℕ) (code : Option Code) → is_one n code ≡ true → code ≡ Some (One n)
is_one-code n (Some (One m)) same = ap (λ (k : ℕ). Some (One k)) (eqb-true m n same)
is_one-code n (Some (Ext m)) same = cc
is_one-code n None same = cc

-- of one of these characters: it has the code of its own number, and a text may have it
abbrev tells : ℕ → Bool
tells n = not (is_own_septet n) || (is_one n (code_of n) && not (is_bad n))

each_tells : all_below 128 tells ≡ true
unfolding main_table extension_table
each_tells = refl

implied : (a b : Bool) → a ≡ true → (not a || b) ≡ true → b ≡ true
implied true b holds all = all
implied false b holds all = cc

not-true : (b : Bool) → not b ≡ true → b ≡ false
not-true true is = cc
not-true false is = refl

-- what such a character is
pub record IsOwn (c : ℕ) : Type 0 where
  pub small : c < 128
  pub code : code_of c ≡ Some (One c)
  pub good : is_bad c ≡ false

-- a character that passes the test has its ASCII code as septet
pub own : (c : ℕ) → is_own_septet c ≡ true → IsOwn c
own c is =
    let small : c < 128 = ltb-true c 128 (and_parts _ _ (and_parts _ _ is).0).0 in
    let told = and_parts _ _ (implied (is_own_septet c) _ is (below 128 tells each_tells c small)) in
    record { small = small; code = is_one-code c (code_of c) told.0; good = not-true (is_bad c) told.1 }

own_codes : (c : ℕ) → is_own_septet c ≡ true → codes_of Gsm c ≡ c ∷ []
own_codes c is = rw (own c is).code refl

first_own : (c : ℕ) (rest : List ℕ) → list_all is_own_septet (c ∷ rest) ≡ true → is_own_septet c ≡ true
first_own c rest all = (and_parts _ _ all).0

rest_own : (c : ℕ) (rest : List ℕ) → list_all is_own_septet (c ∷ rest) ≡ true → list_all is_own_septet rest ≡ true
rest_own c rest all = (and_parts _ _ all).1

-- the septets of such characters are their numbers
pub own_septets : (text : List ℕ) → list_all is_own_septet text ≡ true → flat_map (codes_of Gsm) text ≡ text
own_septets [] all = refl
own_septets (c ∷ rest) all = rw (own_codes c (first_own c rest all), own_septets rest (rest_own c rest all)) refl

-- they are below 128
pub own_small : (text : List ℕ) → list_all is_own_septet text ≡ true → All (λ septet. septet < 128) text
own_small text all = All-from_recursion (λ c. c < 128) text (each text all)
  where
    each : (xs : List ℕ) → list_all is_own_septet xs ≡ true → AllByRecursion (λ c. c < 128) xs
    each [] all = tt
    each (c ∷ xs) all = ((own c (first_own c xs all)).small, each xs (rest_own c xs all))

-- the octets of such a text are its characters
pub own_chars : (text : List ℕ) → list_all is_own_septet text ≡ true → chars text ≡ text
own_chars text all = chars-IsAscii text (IsAscii-from_all text (own_small text all))

-- so its septets are its octets
pub own_octets : (text : List ℕ) → list_all is_own_septet text ≡ true → flat_map (codes_of Gsm) (chars text) ≡ text
own_octets text all = rw (own_chars text all) (own_septets text all)

-- its alphabet is the GSM 7-bit alphabet
pub own_alphabet : (text : List ℕ) → list_all is_own_septet text ≡ true → alphabet_for text ≡ Gsm
own_alphabet text all = rw (have_codes text all) refl
  where
    have_codes : (xs : List ℕ) → list_all is_own_septet xs ≡ true → list_all (λ c. is_some (code_of c)) xs ≡ true
    have_codes [] all = refl
    have_codes (c ∷ xs) all = rw ((own c (first_own c xs all)).code, have_codes xs (rest_own c xs all)) refl

-- no character of it is bad
pub own_good : (text : List ℕ) → list_all is_own_septet text ≡ true → position is_bad text ≡ None
own_good text all = position_from-zero is_bad text ∙ none 0 text all
  where
    none : (n : ℕ) (xs : List ℕ) → list_all is_own_septet xs ≡ true → position_from is_bad n xs ≡ None
    none n [] all = refl
    none n (c ∷ xs) all = rw ((own c (first_own c xs all)).good) (none (n + 1) xs (rest_own c xs all))

-- so are its characters
pub own_characters : (text : List ℕ) → list_all is_own_septet text ≡ true → list_all is_own_septet (chars text) ≡ true
own_characters text all = subst (λ (xs : List ℕ). list_all is_own_septet xs ≡ true) (sym (own_chars text all)) all
