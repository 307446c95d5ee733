-- Counting one more at each place of a span, place by place.
use Rattle.std.proofs.Common.{◌≡◌, ◌⊎◌, ℕ, ◌+◌, ◌<◌, ◌≤◌, min, length, slice_index_or, slice_set, List, inl, inr, eqb}
use Rattle.std.proofs.Common.{sym, subst, refl, ap, arith, ◌∙◌}
use Rattle.std.proofs.lemmas.Bool.{cases_Bool, eqb-true, eqb-false}
use Rattle.std.proofs.lemmas.List.{get_or-set_same, get_or-set_other}

-- the places from one on up to another were counted, and no others
pub record IsCounted (from place : ℕ) (before times : List ℕ) : Type 0 where
  pub inside : (i : ℕ) → i < length before → from ≤ i → i < place
      → slice_index_or times i 0 ≡ min (slice_index_or before i 0 + 1) 255
  pub outside : (i : ℕ) → i < length before → (i < from) ⊎ (place ≤ i)
      → slice_index_or times i 0 ≡ slice_index_or before i 0

-- before anything is counted all counts are as they were
pub none_counted : (from : ℕ) (before : List ℕ) → IsCounted from from before before
none_counted from before = record { inside = λ i _ low high. absurd (none i low high); outside = λ i _ _. refl }
  where
    none : (i : ℕ) → from ≤ i → i < from → ⊥
    none i low high = omega arith

-- one place more is counted
pub one_counted : (from place v : ℕ) (before times : List ℕ) → IsCounted from place before times
    → length times ≡ length before
    → from ≤ place
    → place < length before
    → v ≡ min (slice_index_or times place 0 + 1) 255
    → IsCounted from (place + 1) before (slice_set times place v)
one_counted from place v before times is places low within value = record {
  inside = λ i i_within i_low i_high. elim (cases_Bool (eqb i place)) [
    | inl same ↦ subst (λ n. slice_index_or (slice_set times place v) n 0 ≡ min (slice_index_or before n 0 + 1) 255)
        (sym (eqb-true i place same)) here
    | inr other ↦ elsewhere i (eqb-false i place other) ∙ is.inside i i_within i_low
        (below i i_high (eqb-false i place other))
  ];
  outside = λ i i_within out. elsewhere i (apart i out) ∙ is.outside i i_within (further i out);
}
  where
    here : slice_index_or (slice_set times place v) place 0 ≡ min (slice_index_or before place 0 + 1) 255
    here = get_or-set_same times place v 0 (subst (λ n. place < n) (sym places) within) ∙ (value
        ∙ ap (λ n. min (n + 1) 255) (is.outside place within (inr (omega arith))))

    elsewhere : (i : ℕ) → (i ≡ place → ⊥) → slice_index_or (slice_set times place v) i 0 ≡ slice_index_or times i 0
    elsewhere i other = get_or-set_other times place i v 0 other

    below : (i : ℕ) → i < place + 1 → (i ≡ place → ⊥) → i < place
    below i high other = omega arith

    apart : (i : ℕ) → (i < from) ⊎ (place + 1 ≤ i) → i ≡ place → ⊥
    apart i (inl less) = omega arith
    apart i (inr more) = omega arith

    further : (i : ℕ) → (i < from) ⊎ (place + 1 ≤ i) → (i < from) ⊎ (place ≤ i)
    further i (inl less) = inl less
    further i (inr more) = inr (next more)
      where
        next : place + 1 ≤ i → place ≤ i
        next more = omega arith
