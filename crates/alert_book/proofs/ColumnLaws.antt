-- The fields of a row, one after the other, and whether they are UTF-8.
use Rattle.std.proofs.Common.{◌≡◌, ℕ, zero, suc, add-one, ◌+◌, ◌<◌, ◌∙◌, ap, refl, arith, Bool, true, false, cond}
use Rattle.std.proofs.Common.{Some, None}
use Rattle.std.proofs.Common.{List, [], ◌∷◌, drop, length}
use Rattle.std.specs.List.{list_all}
use Rattle.std.specs.Str.{is_utf8}
use Rattle.csv.specs.Records.{field_at}
use Rattle.alert_book.specs.Fields.{column}
use Rattle.alert_book.specs.Judging.{no_text_from, text_or_none}

-- the field of a place, and those behind it
drop_suc : (fields : List (List ℕ)) (place : ℕ) → place < length fields
    → drop place fields ≡ column fields place ∷ drop (suc place) fields
unfolding field_at
drop_suc [] place less = absurd (omega (arith, less))
drop_suc (f ∷ fs) zero less = refl
drop_suc (f ∷ fs) (suc place) less = drop_suc fs place (omega (arith, less))

-- the columns from a place on are that one and those after it
pub column_drop : (fields : List (List ℕ)) (place : ℕ) → place < length fields
    → drop place fields ≡ column fields place ∷ drop (place + 1) fields
column_drop fields place less = rw add-one (drop_suc fields place less)

-- whether a field is text, by what is made of it
pub is_text : (field text : List ℕ) → Some text ≡ text_or_none field → is_utf8 field ≡ true
is_text field text is = by_test (is_utf8 field) is
  where
    by_test : (test : Bool) → Some text ≡ cond test (Some field) None → test ≡ true
    by_test true is = refl
    by_test false is = absurd cc

-- a field of which no text is made isn't UTF-8
pub is_no_text : (field : List ℕ) → None ≡ text_or_none field → is_utf8 field ≡ false
is_no_text field is = by_test (is_utf8 field) is
  where
    by_test : (test : Bool) → None ≡ cond test (Some field) None → test ≡ false
    by_test true is = absurd cc
    by_test false is = refl

-- one more field that is text
pub no_text_more : (fields : List (List ℕ)) (place : ℕ) → place < length fields → is_utf8 (column fields place) ≡ true
    → no_text_from (place + 1) (drop place fields) ≡ no_text_from (place + 1 + 1) (drop (place + 1) fields)
no_text_more fields place less text = ap (no_text_from (place + 1)) (column_drop fields place less) ∙ rw text refl

-- the first field that isn't UTF-8 is the one at hand
pub no_text_here : (fields : List (List ℕ)) (place : ℕ) → place < length fields → is_utf8 (column fields place) ≡ false
    → no_text_from (place + 1) (drop place fields) ≡ place + 1
no_text_here fields place less other = ap (no_text_from (place + 1)) (column_drop fields place less) ∙ rw other refl

-- if a field is UTF-8, all from it on are exactly if those after it are
pub texts_more : (fields : List (List ℕ)) (place : ℕ) → place < length fields → is_utf8 (column fields place) ≡ true
    → list_all is_utf8 (drop place fields) ≡ list_all is_utf8 (drop (place + 1) fields)
texts_more fields place less text = ap (list_all is_utf8) (column_drop fields place less) ∙ rw text refl

-- if a field isn't UTF-8, not all from it on are
pub texts_here : (fields : List (List ℕ)) (place : ℕ) → place < length fields → is_utf8 (column fields place) ≡ false
    → list_all is_utf8 (drop place fields) ≡ false
texts_here fields place less other = ap (list_all is_utf8) (column_drop fields place less) ∙ rw other refl
