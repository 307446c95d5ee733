-- Numbers that are gathered one by one, each where it isn't there yet, are those of the definition.
use Rattle.std.proofs.Common.{◌≡◌, ℕ, true, false, eqb, eq-eqb, List, [], ◌∷◌, ◌++◌, refl, sym, ap, ◌∙◌}
use Rattle.std.proofs.Common.{append_assoc, append-nil, inl, inr, subst}
use Rattle.std.specs.Prelude.{◌||◌, not}
use Rattle.std.specs.List.{filter, list_any}
use Rattle.std.proofs.lemmas.Bool.{cases_Bool, eqb-true}
use Rattle.gsmtap.specs.Carried.{each_once}
use Rattle.gsmtap.specs.CarriedSteps.{gathered_by}

-- those of a list that aren't among some numbers
missing : List ℕ → List ℕ → List ℕ
missing numbers list = filter (λ one. not (list_any (eqb one) numbers)) list

-- whether one is among numbers and one more
any_push : (numbers : List ℕ) (n one : ℕ) →
    list_any (eqb one) (numbers ++ n ∷ []) ≡ (list_any (eqb one) numbers || eqb one n)
any_push [] n one = elim (cases_Bool (eqb one n)) [
  | inl is ↦ rw is refl
  | inr isnt ↦ rw isnt refl
]
any_push (m ∷ rest) n one = elim (cases_Bool (eqb one m)) [
  | inl is ↦ rw is refl
  | inr isnt ↦ rw isnt (any_push rest n one)
]

same_too : (n one : ℕ) → eqb n one ≡ true → eqb one n ≡ true
same_too n one is = eq-eqb one n (sym (eqb-true n one is))

other_too : (n one : ℕ) → eqb n one ≡ false → eqb one n ≡ false
other_too n one isnt = elim (cases_Bool (eqb one n)) [
  | inl is ↦
      let both : eqb n one ≡ true = same_too one n is in
      absurd cc
  | inr other ↦ other
]

push_same : (numbers : List ℕ) (n one : ℕ) → eqb n one ≡ true → list_any (eqb one) (numbers ++ n ∷ []) ≡ true
push_same numbers n one is =
    let too : eqb one n ≡ true = same_too n one is in
    any_push numbers n one ∙ elim (cases_Bool (list_any (eqb one) numbers)) [
      | inl any ↦ rw any refl
      | inr none ↦ rw (none, too) refl
    ]

push_other : (numbers : List ℕ) (n one : ℕ) → eqb n one ≡ false →
    list_any (eqb one) (numbers ++ n ∷ []) ≡ list_any (eqb one) numbers
push_other numbers n one isnt =
    let too : eqb one n ≡ false = other_too n one isnt in
    any_push numbers n one ∙ elim (cases_Bool (list_any (eqb one) numbers)) [
      | inl any ↦ rw any refl
      | inr none ↦ rw (none, too) refl
    ]

-- none of a number that is there is missing
known_missing : (numbers : List ℕ) (n : ℕ) → list_any (eqb n) numbers ≡ true → (list : List ℕ) →
    missing numbers (filter (λ one. not (eqb n one)) list) ≡ missing numbers list
unfolding missing
known_missing numbers n known [] = refl
known_missing numbers n known (one ∷ rest) = elim (cases_Bool (eqb n one)) [
  | inl is ↦
      let too : list_any (eqb one) numbers ≡ true =
      subst (λ it. list_any (eqb it) numbers ≡ true) (eqb-true n one is) known in
      rw (is, too) (known_missing numbers n known rest)
  | inr isnt ↦ elim (cases_Bool (list_any (eqb one) numbers)) [
    | inl any ↦ rw (isnt, any) (known_missing numbers n known rest)
    | inr none ↦ rw (isnt, none) (ap (λ it. one ∷ it) (known_missing numbers n known rest))
  ]
]

-- and with a number more that is missing those are that are others
new_missing : (numbers : List ℕ) (n : ℕ) (list : List ℕ) →
    missing numbers (filter (λ one. not (eqb n one)) list) ≡ missing (numbers ++ n ∷ []) list
unfolding missing
new_missing numbers n [] = refl
new_missing numbers n (one ∷ rest) = elim (cases_Bool (eqb n one)) [
  | inl is ↦ rw (is, push_same numbers n one is) (new_missing numbers n rest)
  | inr isnt ↦ elim (cases_Bool (list_any (eqb one) numbers)) [
    | inl any ↦
        let too : list_any (eqb one) (numbers ++ n ∷ []) ≡ true = push_other numbers n one isnt ∙ any in
        rw (isnt, any, too) (new_missing numbers n rest)
    | inr none ↦
        let too : list_any (eqb one) (numbers ++ n ∷ []) ≡ false = push_other numbers n one isnt ∙ none in
        rw (isnt, none, too) (ap (λ it. one ∷ it) (new_missing numbers n rest))
  ]
]

gathered : (numbers list : List ℕ) → gathered_by numbers list ≡ numbers ++ missing numbers (each_once list)
unfolding missing
gathered numbers [] = sym (append-nil numbers)
gathered numbers (n ∷ rest) = elim (cases_Bool (list_any (eqb n) numbers)) [
  | inl known ↦
      rw known
      (gathered numbers rest ∙ ap (λ it. numbers ++ it) (sym (known_missing numbers n known (each_once rest))))
  | inr new ↦
      rw new
      (gathered (numbers ++ n ∷ []) rest
      ∙ append_assoc numbers (n ∷ []) (missing (numbers ++ n ∷ []) (each_once rest))
      ∙ ap (λ it. numbers ++ n ∷ it) (sym (new_missing numbers n (each_once rest))))
]

all_kept : (list : List ℕ) → missing [] list ≡ list
unfolding missing
all_kept [] = refl
all_kept (n ∷ rest) = ap (λ it. n ∷ it) (all_kept rest)

-- from none on
pub gathered_from_none : (list : List ℕ) → gathered_by [] list ≡ each_once list
gathered_from_none list = gathered [] list ∙ all_kept (each_once list)
