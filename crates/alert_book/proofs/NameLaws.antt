-- What is known of names, with one more order.
use Rattle.std.proofs.Common.{◌≡◌, ℕ, zero, suc, ◌+◌, ◌<◌, ◌&&◌, Bool, true, false, cond, Option, Some, None, List}
use Rattle.std.proofs.Common.{[], ◌∷◌, ◌++◌, length, count_by, refl, sym, ap, ◌∙◌, subst, arith, inl, inr}
use Rattle.std.specs.List.{slice_get}
use Rattle.std.specs.Option.{option_or}
use Rattle.std.specs.Str.{bytes_eq}
use Rattle.std.proofs.lemmas.Bool.{cases_Bool}
use Rattle.std.proofs.lemmas.List.{length_push}
use Rattle.std.proofs.lemmas.List.Folds.{find-append}
use Rattle.std.proofs.lemmas.List.Sums.{sum_by-append}
use Rattle.std.proofs.lemmas.Slice.Eq.{bytes_eq-Decides}
use Rattle.alert_book.specs.declared.book.names.Known.{Known}
use Rattle.alert_book.specs.declared.book.order.Order.{Order}
use Rattle.alert_book.specs.Fields.{first_order, is_named}
use Rattle.alert_book.specs.Row.{is_update_of, updates}
use Rattle.alert_book.specs.NameSteps.{IsKnownIn, known_after, update_count}

abbrev one_more : List Order → Order → List Order
one_more orders order = orders ++ order ∷ []

-- an element within the first of two lists
within_first : (xs ys : List Order) (i : ℕ) → i < length xs → slice_get (xs ++ ys) i ≡ slice_get xs i
within_first [] ys i less = absurd (omega (arith, less))
within_first (x ∷ xs) ys zero less = refl
within_first (x ∷ xs) ys (suc i) less = within_first xs ys i (omega (arith, less))

-- the one behind them
one_behind : (xs : List Order) (y : Order) → slice_get (one_more xs y) (length xs) ≡ Some y
one_behind [] y = refl
one_behind (x ∷ xs) y = one_behind xs y

found_within : (xs : List Order) (i : ℕ) → i < length xs → slice_get xs i ≡ None → ⊥
found_within [] i less none = omega (arith, less)
found_within (x ∷ xs) zero less none = absurd cc
found_within (x ∷ xs) (suc i) less none = found_within xs i (omega (arith, less)) none

-- what is found stays found
found_before : (xs : List Order) (y : Order) (name : List ℕ) (i : ℕ) → i < length xs
    → first_order xs name ≡ slice_get xs i
    → first_order (one_more xs y) name ≡ slice_get (one_more xs y) i
found_before xs y name i less is =
    find-append (is_named name) xs (y ∷ [])
    ∙ ap (λ (o : Option Order). option_or o (first_order (y ∷ []) name)) is
    ∙ first (slice_get xs i) refl
    ∙ sym (within_first xs (y ∷ []) i less)
  where
    first : (o : Option Order) → slice_get xs i ≡ o
        → option_or (slice_get xs i) (first_order (y ∷ []) name) ≡ slice_get xs i
    first None none = absurd (found_within xs i less none)
    first (Some x) some = rw some refl

-- where no order has a name, none updates it
pub none_updates : (xs : List Order) (name : List ℕ) → first_order xs name ≡ None → count_by (is_update_of name) xs ≡ 0
none_updates [] name none = refl
none_updates (x ∷ xs) name none = elim (cases_Bool (is_named name x)) [
  | inl named ↦ absurd (some_none (rw named at none))
  | inr other ↦
      let rest = none_updates xs name (rw other at none) in
      rw (no_update (updates x.action) other) rest
]
  where
    some_none : Some x ≡ None → ⊥
    some_none is = cc

    no_update : (u : Bool) → is_named name x ≡ false → (u && is_named name x) ≡ false
    no_update true other = other
    no_update false other = refl

count_stays : (xs : List Order) (y : Order) (name : List ℕ) → is_named name y ≡ false
    → count_by (is_update_of name) (one_more xs y) ≡ count_by (is_update_of name) xs
count_stays xs y name other =
    let no : is_update_of name y ≡ false = no_update (updates y.action) in
    sum_by-append (λ (o : Order). cond (is_update_of name o) 1 0) xs (y ∷ []) ∙ rw no (omega arith)
  where
    no_update : (u : Bool) → (u && is_named name y) ≡ false
    no_update true = other
    no_update false = refl

count_grows : (xs : List Order) (y : Order) (name : List ℕ) → is_named name y ≡ true
    → count_by (is_update_of name) (one_more xs y)
    ≡ count_by (is_update_of name) xs + update_count y
count_grows xs y name named =
    let by : is_update_of name y ≡ updates y.action = by_update (updates y.action) in
    sum_by-append (λ (o : Order). cond (is_update_of name o) 1 0) xs (y ∷ []) ∙ rw by (omega arith)
  where
    by_update : (u : Bool) → (u && is_named name y) ≡ u
    by_update true = named
    by_update false = refl

-- one more order that has another name
other_more : (xs : List Order) (y : Order) (name : List ℕ) (known : Option Known) → is_named name y ≡ false
    → IsKnownIn xs name known → IsKnownIn (one_more xs y) name known
other_more xs y name None other is =
    find-append (is_named name) xs (y ∷ [])
    ∙ ap (λ (o : Option Order). option_or o (first_order (y ∷ []) name)) is
    ∙ rw other refl
other_more xs y name (Some known) other is = (
  omega (arith, is.0, length_push xs y),
  found_before xs y name known.first is.0 is.1,
  is.2 ∙ sym (count_stays xs y name other),
)

from_zero : (n : ℕ) → 0 + n ≡ n
from_zero n = omega arith

-- one more order that has the name
named_more : (xs : List Order) (y : Order) (name : List ℕ) (known : Option Known) → is_named name y ≡ true
    → IsKnownIn xs name known → IsKnownIn (one_more xs y) name (Some (known_after known (length xs) y))
named_more xs y name None named is = (
  omega (arith, length_push xs y),
  find-append (is_named name) xs (y ∷ [])
      ∙ ap (λ (o : Option Order). option_or o (first_order (y ∷ []) name)) is
      ∙ rw named (sym (one_behind xs y)),
  sym (count_grows xs y name named ∙ ap (λ n. n + update_count y) (none_updates xs name is) ∙ from_zero
      (update_count y)),
)
named_more xs y name (Some known) named is = (
  omega (arith, is.0, length_push xs y),
  found_before xs y name known.first is.0 is.1,
  ap (λ n. n + update_count y) is.2 ∙ sym (count_grows xs y name named),
)

-- what is known of all names, once what is known of one order's is renewed
pub names_more : (xs : List Order) (y : Order) (old new : List ℕ → Option Known)
    → ((name : List ℕ) → IsKnownIn xs name (old name))
    → ((name : List ℕ) → new name
    ≡ cond (bytes_eq y.name name) (Some (known_after (old y.name) (length xs) y)) (old name))
    → (name : List ℕ) → IsKnownIn (one_more xs y) name (new name)
names_more xs y old new known renewed name = elim (cases_Bool (bytes_eq y.name name)) [
  | inl named ↦
      let same : y.name ≡ name = (bytes_eq-Decides y.name name).0 named in
      let here = named_more xs y name (old name) named (known name) in
      rw (renewed name, named) (subst (λ (n : List ℕ). IsKnownIn (one_more xs y) name (Some
      (known_after (old n) (length xs) y))) (sym same) here)
  | inr other ↦ rw (renewed name, other) (other_more xs y name (old name) other (known name))
]
