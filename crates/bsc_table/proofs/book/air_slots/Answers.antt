use Rattle.std.proofs.Common.{◌≡◌, ℕ, ◌+◌, ap, subst, sym, ◌∙◌, arith}
use Rattle.scheduler.specs.Air.{Air}
use Rattle.bsc_table.specs.Book.{air_pairs}
use Rattle.bsc_table.specs.BookSteps.{AreAired}
use Rattle.bsc_table.proofs.Cell.Aired.{AreAired-none, AreAired-next}
use Rattle.bsc_table.proofs.book.air_slots.Goals as goal

pub loop-slot-init : goal.loop-slot-init
loop-slot-init c = (
  AreAired-none c.args.plan.now c.args.from (air_pairs c.args.air.now.items) c.requires.asked,
  c.requires.places,
  omega arith,
  c.requires.ahead,
)

pub next-requires-clause-at_next : goal.next-requires-clause-at_next
next-requires-clause-at_next c = sym c.loop-slot.invariant.0.asked

pub push_aired-requires : goal.push_aired-requires
push_aired-requires c =
    omega (arith, c.loop-slot.invariant.1, c.loop-slot.invariant.2, c.loop-slot-test.true, c.requires.room)

pub loop-slot-preserved : goal.loop-slot-preserved
loop-slot-preserved c =
    let aired : Air = air_pairs c.loop-slot.air.items in
    let Aired : Air → Type 0 = λ more. AreAired (c.loop-slot.slot + 1) c.args.plan.now c.next.new.self
    (air_pairs c.args.air.now.items) more in (
      subst Aired (sym c.push_aired.ensures.aired) (AreAired-next c.loop-slot.slot c.args.plan.now c.loop-slot.plan
          c.next.new.self (air_pairs c.args.air.now.items) aired c.next.result c.loop-slot.invariant.0
          c.next.ensures.asked c.next.ensures.chosen c.next.ensures.follows),
      c.push_aired.ensures.places ∙ ap (λ (n : ℕ). n + 1) c.loop-slot.invariant.1,
      omega (arith, c.loop-slot.invariant.2, c.push_aired.ensures.room),
      omega (arith, c.loop-slot-test.true),
    )

pub returns-clause-aired : goal.returns-clause-aired
returns-clause-aired c =
    let Aired : ℕ → Type 0 = λ slot. AreAired slot c.args.plan.now c.loop-slot.plan (air_pairs c.args.air.now.items)
    (air_pairs c.loop-slot.air.items) in
    let at : c.loop-slot.slot ≡ c.args.to = omega (arith, c.loop-slot.invariant.3, c.loop-slot-test.false) in
    subst Aired at c.loop-slot.invariant.0

pub returns-clause-places : goal.returns-clause-places
returns-clause-places c =
    omega (arith, c.loop-slot.invariant.1, c.loop-slot.invariant.3, c.loop-slot-test.false)

pub returns-clause-room : goal.returns-clause-room
returns-clause-room c = c.loop-slot.invariant.2
