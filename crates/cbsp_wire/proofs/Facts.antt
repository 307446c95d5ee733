-- The values of a message are valid exactly if they pass the tests that reading and writing make of them.
use Rattle.std.proofs.Common.{◌≡◌, ◌≢◌, ℕ, ◌≤◌, Bool, true, false, eqb, List, [], ◌∷◌, Option}
use Rattle.std.proofs.Common.{Some, None, refl}
use Rattle.std.specs.Prelude.{◌||◌, not, nat_le, IfSome}
use Rattle.std.specs.List.{AllByRecursion, list_all}
use Rattle.std.proofs.lemmas.Bool.{eqb-true, eqb-false, leb-true, le-leb}
use Rattle.cbsp_wire.specs.declared.message.message_type.Presence.{Presence}
use Rattle.cbsp_wire.specs.declared.message.message_type.Presence.TheVariants as presences
use Rattle.cbsp_wire.proofs.Tests.{and_both, list_all-parts}
use Rattle.cbsp_wire.specs.Range.{is_there_if, passes}

-- a test of each element, and a fact of each
pub each_from : {X : Type 0} (p : X → Bool) (P : X → Type 0) → ((x : X) → p x ≡ true → P x) → (xs : List X)
    → list_all p xs ≡ true → AllByRecursion P xs
each_from p P fact [] h = tt
each_from p P fact (x ∷ xs) h =
    let both = list_all-parts p x xs h in
    (fact x both.0, each_from p P fact xs both.1)

-- where all items are so, all pass the test
pub each_passes : {X : Type 0} (p : X → Bool) (P : X → Type 0) → ((x : X) → P x → p x ≡ true) → (xs : List X)
    → AllByRecursion P xs → list_all p xs ≡ true
each_passes p P test [] h = refl
each_passes p P test (x ∷ xs) h = and_both (p x) (list_all p xs) (test x h.0) (each_passes p P test xs h.1)

-- a test of a number that is given, and a fact of it
pub given_from : (p : ℕ → Bool) (P : ℕ → Type 0) → ((n : ℕ) → p n ≡ true → P n) → (o : Option ℕ)
    → passes p o ≡ true → IfSome o P
given_from p P fact None h = tt
given_from p P fact (Some n) h = fact n h

-- a number that is so passes the test, and so does none
pub given_passes : (p : ℕ → Bool) (P : ℕ → Type 0) → ((n : ℕ) → P n → p n ≡ true) → (o : Option ℕ)
    → IfSome o P → passes p o ≡ true
given_passes p P test None h = refl
given_passes p P test (Some n) h = test n h

-- a mandatory element is there
pub there_if_mandatory : (presence : Presence) (bodies : List (List ℕ)) → is_there_if presence bodies ≡ true
    → presence ≡ presences.Mandatory → bodies ≢ []
there_if_mandatory presences.Mandatory [] h is_mandatory none = cc
there_if_mandatory presences.Mandatory (b ∷ bs) h is_mandatory none = cc
there_if_mandatory presences.Optional bodies h is_mandatory none = cc
there_if_mandatory presences.Absent bodies h is_mandatory none = cc

-- an element that is there where it is mandatory passes the test
pub mandatory_passes : (presence : Presence) (bodies : List (List ℕ))
    → (presence ≡ presences.Mandatory → bodies ≢ []) → is_there_if presence bodies ≡ true
mandatory_passes presences.Mandatory [] h = absurd (h refl refl)
mandatory_passes presences.Mandatory (b ∷ bs) h = refl
mandatory_passes presences.Optional bodies h = refl
mandatory_passes presences.Absent bodies h = refl

-- an element other than contents comes once at most
pub once_from : (n k : ℕ) → ((eqb n 1) || nat_le k 1) ≡ true → n ≢ 1 → k ≤ 1
once_from n k h other = by_test (eqb n 1) refl h where
  by_test : (b : Bool) → eqb n 1 ≡ b → (b || nat_le k 1) ≡ true → k ≤ 1
  by_test true test g = absurd (other (eqb-true n 1 test))
  by_test false test g = leb-true k 1 g

-- an element that comes once where it may come once passes the test
pub once_passes : (n k : ℕ) → (n ≢ 1 → k ≤ 1) → ((eqb n 1) || nat_le k 1) ≡ true
once_passes n k h = by_test (eqb n 1) refl where
  by_test : (b : Bool) → eqb n 1 ≡ b → (b || nat_le k 1) ≡ true
  by_test true test = refl
  by_test false test = le-leb k 1 (h (eqb-false n 1 test))

-- a negated test that fails
pub not_false : (a : Bool) → a ≡ false → not a ≡ true
not_false true h = absurd cc
not_false false h = refl
