-- How a word's place among the words, and the word after it, give an option its value.
use Rattle.std.proofs.Common.{◌≡◌, ℕ, ◌+◌, ◌<◌, List, length, map, ap, sym, ◌∙◌, inl, inr, refl, ◌∷◌, ◌++◌}
use Rattle.std.proofs.Common.{slice_index_or, Some}
use Rattle.std.specs.Option.{option_map}
use Rattle.std.specs.Prelude.{slice_get}
use Rattle.std.proofs.lemmas.Option.{slice_get-map, slice_get_read}
use Rattle.warnc_cli.specs.CommandLine.{GivesValue}

-- a word that stands among the words
word_at : {X : Type 0} (text : X → List ℕ) (words : List X) (place : ℕ) (word : X) → place < length words →
    word ≡ slice_index_or words place word → slice_get (map text words) place ≡ Some (text word)
word_at text words place word within is =
    slice_get-map text words place ∙ ap (option_map text) (slice_get_read words (length words) place word refl within
    is)

-- the word after an option's name is its value
pub value_after : {X : Type 0} (text : X → List ℕ) (words : List X) (name value : List ℕ) (place : ℕ) (word next : X) →
    place < length words → word ≡ slice_index_or words place word → text word ≡ name →
    place + 1 < length words → next ≡ slice_index_or words (place + 1) next → value ≡ text next
    → GivesValue (map text words) name value
value_after text words name value place word next within is named follows is_next told = (
  place,
  inl (
    word_at text words place word within is ∙ ap (λ t. Some t) named,
    word_at text words (place + 1) next follows is_next ∙ ap (λ t. Some t) (sym told),
  ),
)

-- a word of an option's name, `=` and a value gives that value
pub value_within : {X : Type 0} (text : X → List ℕ) (words : List X) (name front value told : List ℕ) (place : ℕ)
    (word : X) →
    place < length words → word ≡ slice_index_or words place word → told ≡ text word → told ≡ front ++ 61 ∷ value
    → front ≡ name →
    GivesValue (map text words) name value
value_within text words name front value told place word within is is_text parts named = (
  place,
  inr (word_at text words place word within is ∙ ap (λ t. Some t)
      (sym is_text ∙ parts ∙ ap (λ t. t ++ 61 ∷ value) named)),
)
