use Rattle.std.proofs.Common.{◌⊎◌, ℕ, ◌+◌, ◌<◌, max, ◌≤◌, length, inl, inr, arith}
use Rattle.std.proofs.lemmas.Bool.{cases_lt}
use Rattle.order_desk.proofs.Counted.{none_counted, one_counted}
use Rattle.order_desk.proofs.settle.counts.count.Goals as goal

-- src/times.rt:64:5
pub loop-place-init : goal.loop-place-init
loop-place-init c = (none_counted c.args.from c.args.times.now, omega arith)

-- src/times.rt:64:5
pub loop-place-preserved : goal.loop-place-preserved
loop-place-preserved c = (
  one_counted c.args.from c.loop-place.place c.saturating_add.result c.args.times.now c.loop-place.times
      c.loop-place.invariant.0 c.loop-place.auto.times c.loop-place.auto.place within c.saturating_add.ensures,
  under,
)
  where
    under : c.loop-place.place + 1 ≤ max c.args.from c.min-end.result
    under = omega (arith, c.loop-place-test.true)

    within : c.loop-place.place < length c.args.times.now
    within = omega (arith, c.loop-place-test.true, c.min-end.ensures)

-- src/times.rt:56:1
pub returns-clause-inside : goal.returns-clause-inside
returns-clause-inside c = λ i within low high. c.loop-place.invariant.0.inside i within low (reached i within high)
  where
    reached : (i : ℕ) → i < length c.args.times.now → i < c.args.to → i < c.loop-place.place
    reached i within high = omega (arith, c.loop-place-test.false, c.min-end.ensures)

-- src/times.rt:56:1
pub returns-clause-outside : goal.returns-clause-outside
returns-clause-outside c = λ i within out. c.loop-place.invariant.0.outside i within (apart i within out)
  where
    past : (i : ℕ) → i < length c.args.times.now → c.args.to ≤ i → c.args.from ≤ i → c.loop-place.place ≤ i
    past i within more low = omega (arith, c.loop-place.invariant.1, c.min-end.ensures)

    apart : (i : ℕ) → i < length c.args.times.now → (i < c.args.from) ⊎ (c.args.to ≤ i)
        → (i < c.args.from) ⊎ (c.loop-place.place ≤ i)
    apart i within (inl less) = inl less
    apart i within (inr more) = elim (cases_lt i c.args.from) [
      | inl less ↦ inl less
      | inr low ↦ inr (past i within more low)
    ]
