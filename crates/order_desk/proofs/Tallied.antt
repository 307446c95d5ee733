-- How often places were noted, after one more item.
use Rattle.std.proofs.Common.{◌≡◌, ◌⊎◌, ◌∙◌, ℕ, ◌+◌, ◌<◌, ◌≤◌, ◌&&◌, ◌==◌, min, refl}
use Rattle.std.proofs.Common.{Bool, true, false, List, [], ◌∷◌, ◌++◌, length, filter}
use Rattle.std.proofs.Common.{slice_index_or, inl, inr, sym, subst, ap, arith, leb, ltb, cond}
use Rattle.std.proofs.lemmas.Bool.{cases_Bool, cases_lt, false≢true, leb-true, ltb-true, le-leb, lt-ltb, and_from}
use Rattle.std.proofs.lemmas.Bool.{eqb-true, eqb-false}
use Rattle.std.proofs.lemmas.List.{length-append}
use Rattle.std.proofs.lemmas.List.Elements.{filter-append}
use Rattle.cbsp_wire.proofs.Tests.{and_parts}
use Rattle.order_desk.specs.SettleSteps.{AreTimes}

-- how many of some items and one more pass a test
pub count_with : {X : Type 0} (test : X → Bool) (given : List X) (x : X) →
    length (filter test (given ++ x ∷ [])) ≡ length (filter test given) + cond (test x) 1 0
count_with test given x = ap length (filter-append test given (x ∷ []))
    ∙ (length-append (filter test given) (filter test (x ∷ []))
    ∙ ap (λ n. length (filter test given) + n) (alone (test x)))
  where
    alone : (b : Bool) → length (cond b (x ∷ []) []) ≡ cond b 1 0
    alone true = refl
    alone false = refl

-- an item that doesn't pass changes nothing
pub count_without : {X : Type 0} (test : X → Bool) (given : List X) (x : X) → test x ≡ false
    → length (filter test (given ++ x ∷ [])) ≡ length (filter test given)
count_without test given x not = sum (cond (test x) 1 0) (count_with test given x) (ap (λ b. cond b 1 0) not)
  where
    sum : (n : ℕ) → length (filter test (given ++ x ∷ [])) ≡ length (filter test given) + n → n ≡ 0
        → length (filter test (given ++ x ∷ [])) ≡ length (filter test given)
    sum n all none = omega (arith, all, none)

-- the places from a number on, and before the next one, are the number
pub only_place : (number p : ℕ) → (leb number p && ltb p (number + 1)) ≡ (number == p)
only_place number p = elim (cases_Bool (number == p)) [
  | inl is ↦ and_from (leb number p) (ltb p (number + 1)) (le-leb number p (low (eqb-true number p is)))
      (lt-ltb p (number + 1) (high (eqb-true number p is))) ∙ sym is
  | inr not ↦ elim (cases_Bool (leb number p && ltb p (number + 1))) [
    | inl both ↦ let parts = and_parts (leb number p) (ltb p (number + 1)) both in
        absurd (eqb-false number p not (same (leb-true number p parts.0) (ltb-true p (number + 1) parts.1)))
    | inr none ↦ none ∙ sym not
  ]
]
  where
    low : number ≡ p → number ≤ p
    low is = omega (arith, is)

    high : number ≡ p → p < number + 1
    high is = omega (arith, is)

    same : number ≤ p → p < number + 1 → number ≡ p
    same le lt = omega arith

-- one item more counts where it stands, up to 255
pub times_with : {X : Type 0} (stands : ℕ → X → Bool) (given : List X) (x : X) (from to : ℕ) (old new : List ℕ)
    → AreTimes stands given old
    → length new ≡ length old
    → ((p : ℕ) → (leb from p && ltb p to) ≡ stands p x)
    → ((p : ℕ) → p < length old → from ≤ p → p < to → slice_index_or new p 0 ≡ min (slice_index_or old p 0 + 1) 255)
    → ((p : ℕ) → p < length old → (p < from) ⊎ (to ≤ p) → slice_index_or new p 0 ≡ slice_index_or old p 0)
    → AreTimes stands (given ++ x ∷ []) new
times_with stands given x from to old new are places span inside outside =
    λ p within. elim (cases_Bool (stands p x)) [
      | inl is ↦ counted p (subst (λ n. p < n) places within) is
      | inr not ↦ passed p (subst (λ n. p < n) places within) not
    ]
  where
    counted : (p : ℕ) → p < length old → stands p x ≡ true
        → slice_index_or new p 0 ≡ min (length (filter (stands p) (given ++ x ∷ []))) 255
    counted p within is =
        let both = and_parts (leb from p) (ltb p to) (span p ∙ is) in
        more (slice_index_or old p 0) (slice_index_or new p 0) (length (filter (stands p) given))
        (cond (stands p x) 1 0)
        (length (filter (stands p) (given ++ x ∷ []))) (are p within)
        (inside p within (leb-true from p both.0) (ltb-true p to both.1)) (ap (λ b. cond b 1 0) is)
        (count_with (stands p) given x)
      where
        more : (before after n extra all : ℕ) → before ≡ min n 255 → after ≡ min (before + 1) 255 → extra ≡ 1
            → all ≡ n + extra
            → after ≡ min all 255
        more before after n extra all were now also sum = omega arith

    out : (p : ℕ) → (leb from p && ltb p to) ≡ false → (p < from) ⊎ (to ≤ p)
    out p not = elim (cases_lt p from) [
      | inl less ↦ inl less
      | inr low ↦ elim (cases_lt p to) [
        | inl high ↦ absurd (false≢true (sym not ∙ and_from (leb from p) (ltb p to) (le-leb from p low)
            (lt-ltb p to high)))
        | inr past ↦ inr past
      ]
    ]

    passed : (p : ℕ) → p < length old → stands p x ≡ false
        → slice_index_or new p 0 ≡ min (length (filter (stands p) (given ++ x ∷ []))) 255
    passed p within not = outside p within (out p (span p ∙ not)) ∙ (are p within
        ∙ ap (λ n. min n 255) (sym (count_without (stands p) given x not)))

-- an item that stands nowhere counts nothing
pub times_without : {X : Type 0} (stands : ℕ → X → Bool) (given : List X) (x : X) (times : List ℕ)
    → ((p : ℕ) → stands p x ≡ false)
    → AreTimes stands given times
    → AreTimes stands (given ++ x ∷ []) times
times_without stands given x times not are =
    λ p within. are p within ∙ ap (λ n. min n 255) (sym (count_without (stands p) given x (not p)))
