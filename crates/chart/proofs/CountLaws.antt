-- What is counted over ranges of slots.
use Rattle.std.proofs.Common.{◌≡◌, ◌<◌, ◌≤◌, ◌+◌, ◌-◌, ◌∙◌, ℕ, suc, zero, Bool, true, false}
use Rattle.std.proofs.Common.{ap, ap₂, cond, max, min, refl}
use native.Mathlib.Omega.{arith}
use Rattle.std.specs.List.{count_by, range_with_len}
use Rattle.std.proofs.lemmas.Bool.{false_from_ne_true}
use Rattle.std.proofs.lemmas.List.Sums.{sum_by-cons}

-- where none is so, none is counted
none_in : (q : ℕ → Bool) (from n : ℕ) → ((i : ℕ) → from ≤ i → i < from + n → q i ≡ false)
    → count_by q (range_with_len from n) ≡ 0
none_in q from zero never = refl
none_in q from (suc n) never =
    sum_by-cons (λ i. cond (q i) 1 0) from (range_with_len (from + 1) n)
    ∙ ap₂ (λ (b : Bool) (m : ℕ). cond b 1 0 + m) (never from (omega arith) (omega arith))
    (none_in q (from + 1) n (λ i after before. never i (omega (arith, after)) (omega (arith, before))))

-- a range is counted in two
counted_in_two : (q : ℕ → Bool) (from n more : ℕ)
    → count_by q (range_with_len from (n + more))
    ≡ count_by q (range_with_len from n) + count_by q (range_with_len (from + n) more)
counted_in_two q from zero more =
    let start : from + 0 ≡ from = omega arith in
    let len : 0 + more ≡ more = omega arith in
    let moved : count_by q (range_with_len (from + 0) more) ≡ count_by q (range_with_len from more) =
    ap (λ (n : ℕ). count_by q (range_with_len n more)) start in
    let same : count_by q (range_with_len from (0 + more)) ≡ count_by q (range_with_len from more) =
    ap (λ (n : ℕ). count_by q (range_with_len from n)) len in
    omega (arith, moved, same)
counted_in_two q from (suc n) more =
    let f : ℕ → ℕ = λ i. cond (q i) 1 0 in
    let rest = counted_in_two q (from + 1) n more in
    let whole = sum_by-cons f from (range_with_len (from + 1) (n + more)) in
    let front = sum_by-cons f from (range_with_len (from + 1) n) in
    let next : from + 1 + n ≡ from + suc n = omega arith in
    let length_is : suc n + more ≡ suc (n + more) = omega arith in
    let moved : count_by q (range_with_len (from + 1 + n) more) ≡ count_by q (range_with_len (from + suc n) more) =
    ap (λ (start : ℕ). count_by q (range_with_len start more)) next in
    let same : count_by q (range_with_len from (suc n + more)) ≡ count_by q (range_with_len from (suc (n + more))) =
    ap (λ (len : ℕ). count_by q (range_with_len from len)) length_is in
    omega (arith, rest, whole, front, moved, same)

-- it doesn't matter where nothing begins
same_count : (q : ℕ → Bool) (start other n : ℕ) → (0 < n → start ≡ other)
    → count_by q (range_with_len start n) ≡ count_by q (range_with_len other n)
same_count q start other zero same = refl
same_count q start other (suc n) same =
    ap (λ (first : ℕ). count_by q (range_with_len first (suc n))) (same (omega arith))

-- where none is so outside of a span, all that are counted stand in it
pub counted_within : (q : ℕ → Bool) (low high from to : ℕ) → ((i : ℕ) → i < to → q i ≡ true → (low ≤ i) × (i < high))
    → count_by q (range_with_len (max low from) (min high to - max low from))
    ≡ count_by q (range_with_len from (to - from))
counted_within q low high from to only =
    let a : ℕ = min (max low from) (max from to) in
    let b : ℕ = max a (min high to) in
    let front : count_by q (range_with_len from (a - from)) ≡ 0 = none_in q from (a - from)
    (λ i after before. false_from_ne_true (q i)
    (λ is. let inside = only i (omega (arith, after, before)) is in absurd (omega (arith, after, before, inside.0)))) in
    let back : count_by q (range_with_len b (to - b)) ≡ 0 = none_in q b (to - b)
    (λ i after before. false_from_ne_true (q i)
    (λ is. let inside = only i (omega (arith, after, before)) is in
    absurd (omega (arith, after, before, inside.0, inside.1)))) in
    let len : min high to - max low from ≡ b - a = omega arith in
    let middle : count_by q (range_with_len (max low from) (min high to - max low from))
    ≡ count_by q (range_with_len a (b - a)) =
    ap (λ (n : ℕ). count_by q (range_with_len (max low from) n)) len
    ∙ same_count q (max low from) a (b - a) (λ some. omega (arith, some)) in
    let all : to - from ≡ a - from + (b - a + (to - b)) = omega arith in
    let whole = ap (λ (n : ℕ). count_by q (range_with_len from n)) all in
    let at_a : from + (a - from) ≡ a = omega arith in
    let at_b : a + (b - a) ≡ b = omega arith in
    let one = counted_in_two q from (a - from) (b - a + (to - b)) in
    let two = counted_in_two q a (b - a) (to - b) in
    let one_moved = ap (λ (n : ℕ). count_by q (range_with_len n (b - a + (to - b)))) at_a in
    let two_moved = ap (λ (n : ℕ). count_by q (range_with_len n (to - b))) at_b in
    omega (arith, front, back, middle, whole, one, two, one_moved, two_moved)

-- up to a later slot as many more are counted as from the one to the other
pub counted_up_to : (q : ℕ → Bool) (from to : ℕ) → from ≤ to
    → count_by q (range_with_len from (to - from))
    ≡ count_by q (range_with_len 0 to) - count_by q (range_with_len 0 from)
counted_up_to q from to ordered =
    let all : to ≡ from + (to - from) = omega (arith, ordered) in
    let whole = ap (λ (n : ℕ). count_by q (range_with_len 0 n)) all in
    let two = counted_in_two q 0 from (to - from) in
    let start : 0 + from ≡ from = omega arith in
    let moved = ap (λ (n : ℕ). count_by q (range_with_len n (to - from))) start in
    omega (arith, whole, two, moved)

-- what was counted before a slot with what is counted from it on is what was counted up to it with what is counted
-- after
pub counted_on : (q : ℕ → Bool) (slot end count more whole : ℕ)
    → slot < end
    → more ≡ cond (q slot) 1 0
    → count + count_by q (range_with_len slot (end - slot)) ≡ whole
    → count + more + count_by q (range_with_len (slot + 1) (end - (slot + 1))) ≡ whole
counted_on q slot end count more whole within here so_far =
    let next : end - slot ≡ suc (end - (slot + 1)) = omega (arith, within) in
    let moved = ap (λ (n : ℕ). count_by q (range_with_len slot n)) next in
    let front = sum_by-cons (λ i. cond (q i) 1 0) slot (range_with_len (slot + 1) (end - (slot + 1))) in
    omega (arith, here, so_far, moved, front)

-- one slot counts at most once
pub counts_once : (b : Bool) (more : ℕ) → more ≡ cond b 1 0 → more ≤ 1
counts_once true more is = omega (arith, is)
counts_once false more is = omega (arith, is)
