-- The test of a row's fields for UTF-8 is what `csv` says of them.
use Rattle.std.proofs.Common.{◌≡◌, ℕ, List, [], ◌∷◌, true, false, rules, refl, inl, inr}
use Rattle.std.specs.List.{list_all}
use Rattle.std.specs.Str.{is_utf8}
use Rattle.std.proofs.lemmas.Bool.{cases_Bool}
use Rattle.std.proofs.lemmas.Str.{IsUtf8-from_is_utf8, is_utf8-from_IsUtf8}
use Rattle.csv.specs.Records.{AllText}

-- fields of text pass the test
pub texts_pass : (fields : List (List ℕ)) → AllText fields → list_all is_utf8 fields ≡ true
unfolding AllText
texts_pass [] h = refl
texts_pass (field ∷ fields) h = rw (is_utf8-from_IsUtf8 field h.0) (texts_pass fields h.1)

passing_texts : (fields : List (List ℕ)) → list_all is_utf8 fields ≡ true → AllText fields
unfolding AllText
passing_texts [] h = tt
passing_texts (field ∷ fields) h = (IsUtf8-from_is_utf8 field (search rules), passing_texts fields (search rules))

-- others don't
pub others_fail : (fields : List (List ℕ)) → ¬ (AllText fields) → list_all is_utf8 fields ≡ false
others_fail fields not = elim (cases_Bool (list_all is_utf8 fields)) [
  | inl pass ↦ absurd (not (passing_texts fields pass))
  | inr fail ↦ fail
]
