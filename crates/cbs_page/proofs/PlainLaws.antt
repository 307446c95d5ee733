-- Plain septets are the octets of their text.
use Rattle.std.proofs.Common.{◌≡◌, ℕ, ◌<◌, zero, suc, List, [], ◌∷◌, ◌++◌, Bool, true, false, cond, not, eqb, refl}
use Rattle.std.proofs.Common.{arith, below_more}
use Rattle.std.specs.List.{list_all}
use Rattle.std.specs.Prelude.{◌&&◌, ◌||◌, encode_utf8_all}
use Rattle.std.proofs.lemmas.Bool.{and_parts, eqb-true, ltb-true}
use Rattle.std.proofs.lemmas.Str.{encode_ascii}
use Rattle.gsm_alphabet.specs.Alphabet.{main_character, main_table, text_after, text_of_septets}
use Rattle.cbs_page.specs.TextSteps.{is_plain}

-- a test holds of each number below one
abbrev all_below : ℕ → (ℕ → Bool) → Bool
all_below zero test = true
all_below (suc n) test = test n && all_below n test

-- of a plain number: it is no escape, and its septet shows its character
abbrev shows : ℕ → Bool
shows n = not (is_plain n) || (not (eqb n 27) && eqb (main_character n) n)

each_shows : all_below 128 shows ≡ true
unfolding main_table
each_shows = refl

below : (n : ℕ) (p : ℕ → Bool) → all_below n p ≡ true → (k : ℕ) → k < n → p k ≡ true
below zero p all k within = absurd (omega arith)
below (suc n) p all k within =
    let parts = and_parts (p n) (all_below n p) all in
    below_more (λ i. p i ≡ true) n (below n p parts.1) parts.0 k (omega arith)

implied : (a b : Bool) → a ≡ true → (not a || b) ≡ true → b ≡ true
implied true b holds all = all
implied false b holds all = cc

not-true : (b : Bool) → not b ≡ true → b ≡ false
not-true true is = cc
not-true false is = refl

-- one more septet that shows its own character
plain-cons : (septet : ℕ) (rest : List ℕ) (escape : Bool) → eqb septet 27 ≡ escape → escape ≡ false
    → main_character septet ≡ septet →
    septet < 128 → encode_utf8_all (text_after false rest) ≡ rest →
    encode_utf8_all (cond escape [] (main_character septet ∷ []) ++ text_after escape rest) ≡ septet ∷ rest
plain-cons septet rest true is plain own small others = cc
plain-cons septet rest false is plain own small others = rw (own, encode_ascii septet small, others) refl

-- septets of plain signs show the same ASCII text
pub plain_text : (septets : List ℕ) → list_all is_plain septets ≡ true
    → encode_utf8_all (text_of_septets septets) ≡ septets
plain_text [] all = refl
plain_text (septet ∷ rest) all =
    let parts = and_parts (is_plain septet) (list_all is_plain rest) all in
    let small : septet < 128 = ltb-true septet 128 (and_parts _ _ parts.0).0 in
    let shown = and_parts _ _ (implied (is_plain septet) _ parts.0 (below 128 shows each_shows septet small)) in
    plain-cons septet rest (eqb septet 27) refl (not-true _ shown.0) (eqb-true _ _ shown.1) small
    (plain_text rest parts.1)
