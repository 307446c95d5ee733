-- The first number at which something isn't right, by those of its parts.
use Rattle.std.proofs.Common.{◌≡◌, ℕ, ◌<◌, ◌≤◌, min, Option, Some, None, inl, inr, subst, arith}
use Rattle.std.proofs.lemmas.Bool.{cases_lt}
use Rattle.order_desk.specs.SettleSteps.{IsLeastFailing, lesser}

-- where two say the same of each number, the first is the same
pub first_same : (one other : ℕ → Type 0) (found : Option ℕ)
    → ((k : ℕ) → one k → other k)
    → ((k : ℕ) → other k → one k)
    → IsLeastFailing one found
    → IsLeastFailing other found
first_same one other None there back is = λ k. there k (is k)
first_same one other (Some k) there back is = (λ right. is.0 (back k right), λ less lt. there less (is.1 less lt))

-- of two facts, the lesser of the first at which each isn't so
pub first_of_both : (one other : ℕ → Type 0) (a b : Option ℕ)
    → IsLeastFailing one a
    → IsLeastFailing other b
    → IsLeastFailing (λ k. one k × other k) (lesser a b)
first_of_both one other None None is also = λ k. (is k, also k)
first_of_both one other None (Some b) is also =
    (λ right. also.0 right.1, λ less lt. (is less, also.1 less lt))
first_of_both one other (Some a) None is also =
    (λ right. is.0 right.0, λ less lt. (is.1 less lt, also less))
first_of_both one other (Some a) (Some b) is also =
    (wrong, λ less lt. (is.1 less (under_a less lt), also.1 less (under_b less lt)))
  where
    under_a : (less : ℕ) → less < min a b → less < a
    under_a less lt = omega arith

    under_b : (less : ℕ) → less < min a b → less < b
    under_b less lt = omega arith

    min_a : a ≤ b → min a b ≡ a
    min_a le = omega arith

    min_b : b ≤ a → min a b ≡ b
    min_b le = omega arith

    le_of : a < b → a ≤ b
    le_of lt = omega arith

    wrong : (one (min a b) × other (min a b)) → ⊥
    wrong right = elim (cases_lt a b) [
      | inl lt ↦ is.0 (subst one (min_a (le_of lt)) right.0)
      | inr le ↦ also.0 (subst other (min_b le) right.1)
    ]

-- one more number at which it isn't right
pub first_with : (one other : ℕ → Type 0) (found : Option ℕ) (k : ℕ)
    → (other k → ⊥)
    → ((n : ℕ) → (n ≡ k → ⊥) → one n → other n)
    → ((n : ℕ) → other n → one n)
    → IsLeastFailing one found
    → IsLeastFailing other (lesser found (Some k))
first_with one other None k not there back is =
    (not, λ less lt. there less (apart less lt) (is less))
  where
    apart : (less : ℕ) → less < k → less ≡ k → ⊥
    apart less lt same = omega arith
first_with one other (Some a) k not there back is =
    (wrong, λ less lt. there less (apart less lt) (is.1 less (under less lt)))
  where
    apart : (less : ℕ) → less < min a k → less ≡ k → ⊥
    apart less lt same = omega arith

    under : (less : ℕ) → less < min a k → less < a
    under less lt = omega arith

    min_a : a < k → min a k ≡ a
    min_a le = omega arith

    min_k : k ≤ a → min a k ≡ k
    min_k le = omega arith

    wrong : other (min a k) → ⊥
    wrong right = elim (cases_lt a k) [
      | inl lt ↦ is.0 (back a (subst other (min_a lt) right))
      | inr le ↦ not (subst other (min_k le) right)
    ]
