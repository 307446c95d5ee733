-- Where a cell is fullest.
use Rattle.std.proofs.Common.{◌≡◌, ◌∙◌, ℕ, zero, suc, ◌+◌, ◌<◌, ◌≤◌, Bool, true, false, cond, Option, Some}
use Rattle.std.proofs.Common.{map, max, ap, arith, inl, inr, refl, rules, subst, sym}
use Rattle.std.specs.Prelude.{◌⊎◌, ◌==◌, fold}
use Rattle.std.specs.List.{position_from, range_with_len}
use Rattle.std.specs.Option.{unwrap_or}
use Rattle.std.proofs.lemmas.Bool.{cases_Bool, cases_lt, eq-eqb, eqb-true}
use Rattle.bsc_table.specs.Claim.{claimed_at}
use Rattle.bsc_table.specs.Record.{claims_in}
use Rattle.chart.specs.Facts.{fullest_slot, hundredths, most_of}
use Rattle.chart.specs.Laws.{FullestHasMost}

begins : (s : ℕ) → s ≡ s + 0
begins s = omega arith

further : (s k : ℕ) → s + 1 + k ≡ s + suc k
further s k = omega arith

from_zero : (k : ℕ) → 0 + k ≡ k
from_zero k = omega arith

further_at : (i k : ℕ) → Some (i + 1 + k) ≡ Some (i + suc k)
further_at i k = ap (λ (m : ℕ). Some m) (further i k)

-- it is no less than what it begins with
grows : (load : ℕ → ℕ) (a s n : ℕ) → a ≤ fold max a (map load (range_with_len s n))
grows load a s zero = omega arith
grows load a s (suc n) =
    let more : max a (load s) ≤ fold max (max a (load s)) (map load (range_with_len (s + 1) n)) =
    grows load (max a (load s)) (s + 1) n in
    omega (arith, more)

-- nor than any load
bounds : (load : ℕ → ℕ) (a s n k : ℕ) → k < n → load (s + k) ≤ fold max a (map load (range_with_len s n))
bounds load a s zero k below = absurd (omega (arith, below))
bounds load a s (suc n) zero below =
    let more : max a (load s) ≤ fold max (max a (load s)) (map load (range_with_len (s + 1) n)) =
    grows load (max a (load s)) (s + 1) n in
    subst (λ (at : ℕ). load at ≤ fold max a (map load (range_with_len s (suc n)))) (begins s) (omega (arith, more))
bounds load a s (suc n) (suc k) below =
    subst (λ (at : ℕ). load at ≤ fold max a (map load (range_with_len s (suc n)))) (further s k)
    (bounds load (max a (load s)) (s + 1) n k (omega (arith, below)))

-- and some load reaches it, if it isn't what it begins with
pub record Reaches (load : ℕ → ℕ) (s n most : ℕ) : Type 0 where
  pub at : ℕ
  pub within : at < n
  pub is : load (s + at) ≡ most

reached : (load : ℕ → ℕ) (a s n : ℕ)
    → (fold max a (map load (range_with_len s n)) ≡ a) ⊎ Reaches load s n (fold max a (map load (range_with_len s n)))
reached load a s zero = inl refl
reached load a s (suc n) = elim (reached load (max a (load s)) (s + 1) n) [
  | inl same ↦ by_max same
  | inr later ↦ inr (record {
    at = suc later.at;
    within = omega (arith, later.within);
    is = subst (λ (at : ℕ). load at ≡ fold max a (map load (range_with_len s (suc n))))
        (further s later.at) later.is;
  })
]
  where
    by_max : fold max (max a (load s)) (map load (range_with_len (s + 1) n)) ≡ max a (load s)
        → (fold max a (map load (range_with_len s (suc n))) ≡ a)
        ⊎ Reaches load s (suc n) (fold max a (map load (range_with_len s (suc n))))
    by_max same = elim (cases_lt a (load s)) [
      | inr low ↦ inl (omega (arith, same, low))
      | inl high ↦ inr (record {
        at = 0;
        within = omega arith;
        is = subst (λ (at : ℕ). load at ≡ fold max a (map load (range_with_len s (suc n))))
            (begins s) (omega (arith, same, high));
      })
    ]

-- The first place of a list that passes a test, where one does.
pub record IsFirst (load : ℕ → ℕ) (passes : ℕ → Bool) (i s n : ℕ) (found : Option ℕ) : Type 0 where
  pub at : ℕ
  pub place : found ≡ Some (i + at)
  pub within : at < n
  pub passed : passes (load (s + at)) ≡ true
  pub first : (other : ℕ) → other < at → passes (load (s + other)) ≡ false

-- that of a range is its begin, if that passes
here : (load : ℕ → ℕ) (passes : ℕ → Bool) (i s n : ℕ) → passes (load s) ≡ true
    → IsFirst load passes i s (suc n) (position_from passes i (map load (range_with_len s (suc n))))
here load passes i s n is = record {
  at = 0;
  place = ap (λ (b : Bool). cond b (Some i) (position_from passes (i + 1) (map load (range_with_len (s + 1) n)))) is
      ∙ ap (λ (m : ℕ). Some m) (begins i);
  within = omega arith;
  passed = subst (λ (at : ℕ). passes (load at) ≡ true) (begins s) is;
  first = λ other below. absurd (omega (arith, below));
}

-- and else that of what comes after
after : (load : ℕ → ℕ) (passes : ℕ → Bool) (i s n : ℕ) → passes (load s) ≡ false
    → IsFirst load passes (i + 1) (s + 1) n (position_from passes (i + 1) (map load (range_with_len (s + 1) n)))
    → IsFirst load passes i s (suc n) (position_from passes i (map load (range_with_len s (suc n))))
after load passes i s n not f = record {
  at = suc f.at;
  place = ap (λ (b : Bool). cond b (Some i) (position_from passes (i + 1) (map load (range_with_len (s + 1) n)))) not
      ∙ f.place ∙ further_at i f.at;
  within = omega (arith, f.within);
  passed = subst (λ (at : ℕ). passes (load at) ≡ true) (further s f.at) f.passed;
  first = before;
}
  where
    before : (other : ℕ) → other < suc f.at → passes (load (s + other)) ≡ false
    before zero below = subst (λ (at : ℕ). passes (load at) ≡ false) (begins s) not
    before (suc other) below =
        subst (λ (at : ℕ). passes (load at) ≡ false) (further s other) (f.first other (omega (arith, below)))

-- where one passes, a first does
find_first : (load : ℕ → ℕ) (passes : ℕ → Bool) (i s n k : ℕ) → k < n → passes (load (s + k)) ≡ true
    → IsFirst load passes i s n (position_from passes i (map load (range_with_len s n)))
find_first load passes i s zero k below is = absurd (omega (arith, below))
find_first load passes i s (suc n) zero below is =
    here load passes i s n (subst (λ (at : ℕ). passes (load at) ≡ true) (sym (begins s)) is)
find_first load passes i s (suc n) (suc k) below is = elim (cases_Bool (passes (load s))) [
  | inl passed ↦ here load passes i s n passed
  | inr not ↦ after load passes i s n not
      (find_first load passes (i + 1) (s + 1) n k (omega (arith, below))
      (subst (λ (at : ℕ). passes (load at) ≡ true) (sym (further s k)) is))
]

-- a slot of the greatest load, before which each is less
pub record HasMost (load : ℕ → ℕ) (slots most slot : ℕ) : Type 0 where
  pub within : slot < slots
  pub has : load slot ≡ most
  pub greatest : (other : ℕ) → other < slots → load other ≤ most
  pub first : (other : ℕ) → other < slot → load other < most

fullest_has : (load : ℕ → ℕ) (slots : ℕ) → 0 < slots
    → HasMost load slots (most_of (map load (range_with_len 0 slots)))
    (fullest_slot (map load (range_with_len 0 slots)))
fullest_has load slots some =
    of_first (find_first load (λ (one : ℕ). one == most) 0 0 slots some_slot.at some_slot.within
    (eq-eqb (load (0 + some_slot.at)) most some_slot.is))
  where
    most : ℕ
    most = most_of (map load (range_with_len 0 slots))

    some_slot : Reaches load 0 slots most
    some_slot = elim (reached load 0 0 slots) [
      | inl none ↦ record {
        at = 0;
        within = some;
        is = omega (arith, none, bounds load 0 0 slots 0 some);
      }
      | inr one ↦ one
    ]

    of_first : IsFirst load (λ (one : ℕ). one == most) 0 0 slots
        (position_from (λ (one : ℕ). one == most) 0 (map load (range_with_len 0 slots)))
        → HasMost load slots most (fullest_slot (map load (range_with_len 0 slots)))
    of_first f =
        let slot : fullest_slot (map load (range_with_len 0 slots)) ≡ f.at =
        ap (λ (found : Option ℕ). unwrap_or found 0) f.place ∙ from_zero f.at in
        subst (λ (at : ℕ). HasMost load slots most at) (sym slot) (record {
          within = f.within;
          has = eqb-true (load f.at) most
              (subst (λ (at : ℕ). (load at == most) ≡ true) (from_zero f.at) f.passed);
          greatest = at_most;
          first = λ other below. omega (
            arith,
            at_most other (omega (arith, below, f.within)),
            lacks other
                (subst (λ (at : ℕ). (load at == most) ≡ false) (from_zero other) (f.first other below)),
          );
        })
      where
        at_most : (other : ℕ) → other < slots → load other ≤ most
        at_most other below =
            subst (λ (at : ℕ). load at ≤ most) (from_zero other) (bounds load 0 0 slots other below)

        lacks : (other : ℕ) → (load other == most) ≡ false → load other ≡ most → ⊥
        lacks other not same = search (rules, sym not ∙ eq-eqb (load other) most same)

-- how full a cell gets is at such a slot of its run
pub fullest_has_most : FullestHasMost
fullest_has_most r some = record {
  within = most.within;
  share = ap hundredths (sym most.has);
  greatest = λ slot within. subst (λ (load : ℕ). claimed_at (claims_in r.log) slot ≤ load) (sym most.has)
      (most.greatest slot within);
  first = λ slot before. subst (λ (load : ℕ). claimed_at (claims_in r.log) slot < load) (sym most.has)
      (most.first slot before);
}
  where
    most : HasMost (claimed_at (claims_in r.log)) r.slots
        (most_of (map (claimed_at (claims_in r.log)) (range_with_len 0 r.slots)))
        (fullest_slot (map (claimed_at (claims_in r.log)) (range_with_len 0 r.slots)))
    most = fullest_has (claimed_at (claims_in r.log)) r.slots some
