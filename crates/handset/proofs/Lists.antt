-- Lists: a range with one more number, what a search finds, and two halves joined.
use Rattle.std.proofs.Common.{◌≡◌, ℕ, ◌+◌, Bool, true, false, cond, Option, Some, None, is_some, List, [], ◌∷◌, ◌++◌}
use Rattle.std.proofs.Common.{length, take, drop, find, filter, zero, suc, refl, sym, ◌∙◌, ap, subst, arith, All}
use Rattle.std.proofs.Common.{append-nil}
use Rattle.std.specs.Prelude.{◌&&◌}
use Rattle.std.specs.Option.{option_or}
use Rattle.std.specs.List.{range_with_len, AllByRecursion}
use Rattle.std.proofs.lemmas.Option.{same_Some}
use Rattle.std.proofs.lemmas.List.{drop_all, length-append, length-drop}
use Rattle.std.proofs.Math.Seq.{take-append_seam}
use Rattle.std.proofs.lemmas.List.Elements.{recursion_from_All}

-- a range with one more number at its end
pub range-more : (a n : ℕ) → range_with_len a (n + 1) ≡ range_with_len a n ++ (a + n) ∷ []
range-more a n = rw add_one (at_end a n)
  where
    add_one : n + 1 ≡ suc n
    add_one = omega arith

    at_end : (a n : ℕ) → range_with_len a (suc n) ≡ range_with_len a n ++ (a + n) ∷ []
    at_end a zero = let e : a + 0 ≡ a = omega arith in rw e refl
    at_end a (suc n) =
        let e : a + suc n ≡ a + 1 + n = omega arith in ap (λ xs. a ∷ xs) (at_end (a + 1) n) ∙ rw e refl

-- what holds of each element holds of the one that is found
found_here : {X : Type 0} (P : X → Type 0) (here : Bool) (x y : X) (rest : Option X) → P y → (Some x ≡ rest → P x) →
    Some x ≡ cond here (Some y) rest → P x
found_here P true x y rest holds later is = subst P (sym (same_Some x y is)) holds
found_here P false x y rest holds later is = later is

found_by_parts : {X : Type 0} (P : X → Type 0) (test : X → Bool) (xs : List X) (x : X) → AllByRecursion P xs →
    Some x ≡ find test xs → P x
found_by_parts P test [] x all is = cc
found_by_parts P test (y ∷ ys) x all is =
    found_here P (test y) x y (find test ys) all.0 (λ e. found_by_parts P test ys x all.1 e) is

-- what all items are, the one that is found is
pub found_holds : {X : Type 0} (P : X → Type 0) (test : X → Bool) (xs : List X) (x : X) → All P xs →
    Some x ≡ find test xs → P x
found_holds P test xs x all is = found_by_parts P test xs x (recursion_from_All P xs all) is

-- where an element passes two tests, one passes the first
some_here : {X : Type 0} (a b : Bool) (x : X) (one two : Option X) → (is_some two ≡ true → is_some one ≡ true) →
    is_some (cond (a && b) (Some x) two) ≡ true → is_some (cond a (Some x) one) ≡ true
some_here true b x one two later some = refl
some_here false b x one two later some = later some

-- what is found by two tests is found by the first
pub found_by_first : {X : Type 0} (p q : X → Bool) (xs : List X) → is_some (find (λ x. p x && q x) xs) ≡ true →
    is_some (find p xs) ≡ true
found_by_first p q [] some = some
found_by_first p q (x ∷ xs) some =
    some_here (p x) (q x) x (find p xs) (find (λ x. p x && q x) xs) (found_by_first p q xs) some

-- what was found stays found when more comes
pub option_or-some : {X : Type 0} (o next : Option X) → is_some o ≡ true → option_or o next ≡ o
option_or-some None next some = cc
option_or-some (Some x) next some = refl

-- a value or none is the value
pub option_or-none : {X : Type 0} (o : Option X) → option_or o None ≡ o
option_or-none None = refl
option_or-none (Some x) = refl

-- the first element of a list, and that of a list with a test
abbrev pub first_in : {X : Type 0} → List X → Option X
first_in [] = None
first_in (x ∷ xs) = Some x

first_here : {X : Type 0} (here : Bool) (x : X) (xs : List X) (o : Option X) → first_in xs ≡ o →
    first_in (cond here (x ∷ xs) xs) ≡ cond here (Some x) o
first_here true x xs o rest = refl
first_here false x xs o rest = rest

-- the first that is kept is the one that is found
pub first_in-filter : {X : Type 0} (p : X → Bool) (xs : List X) → first_in (filter p xs) ≡ find p xs
first_in-filter p [] = refl
first_in-filter p (x ∷ xs) = first_here (p x) x (filter p xs) (find p xs) (first_in-filter p xs)

-- a part at the front, and then another where something stood before
pub joined : (front fill back : List ℕ) (n : ℕ) → length front ≡ n → length fill ≡ n →
    take n (front ++ fill) ++ (back ++ drop n (drop n (front ++ fill))) ≡ front ++ back
joined front fill back n long same =
    let before : take n (front ++ fill) ≡ front =
    ap (λ k. take k (front ++ fill)) (sym long) ∙ take-append_seam front fill in
    let after : drop n (drop n (front ++ fill)) ≡ [] =
    drop_all n (drop n (front ++ fill)) (omega (arith, length-drop n (front ++ fill), length-append front fill)) in
    rw (before, after) (ap (λ xs. front ++ xs) (append-nil back))
