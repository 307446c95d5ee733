-- The test of a row's fields for UTF-8 is what `csv` says of them.
use Rattle.std.proofs.Common.{◌≡◌, ℕ, List, [], ◌∷◌, true, false, rules, refl, inl, inr}
use Rattle.std.proofs.lemmas.Bool.{cases_Bool}
use Rattle.std.proofs.lemmas.Str.{IsUtf8-from_is_utf8, is_utf8-from_IsUtf8}
use Rattle.csv.specs.Records.{AllText}
use Rattle.alert_book.specs.Fields.{are_texts}

-- fields of text pass the test
pub texts_pass : (fields : List (List ℕ)) → AllText fields → are_texts fields ≡ true
unfolding AllText
texts_pass [] h = refl
texts_pass (field ∷ fields) h = rw (is_utf8-from_IsUtf8 field h.0) (texts_pass fields h.1)

passing_texts : (fields : List (List ℕ)) → are_texts fields ≡ true → AllText fields
unfolding AllText
passing_texts [] h = tt
passing_texts (field ∷ fields) h = (IsUtf8-from_is_utf8 field (search rules), passing_texts fields (search rules))

-- others don't
pub others_fail : (fields : List (List ℕ)) → ¬ (AllText fields) → are_texts fields ≡ false
others_fail fields not = elim (cases_Bool (are_texts fields)) [
  | inl pass ↦ absurd (not (passing_texts fields pass))
  | inr fail ↦ fail
]
