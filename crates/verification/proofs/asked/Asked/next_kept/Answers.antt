use Rattle.std.proofs.Common.{◌≡◌, ◌+◌, ◌-◌, ◌∙◌, ℕ, true, false, sym, ap, arith, Option}
use Rattle.std.specs.Prelude.{not}
use Rattle.std.specs.Option.{option_map_or}
use Rattle.verification.specs.Explained.{is_lost}
use Rattle.verification.specs.Kept.{asked_kept}
use Rattle.verification.proofs.ListLaws.{first-here, first-next}
use Rattle.verification.proofs.asked.Asked.next_kept.Goals as goal

pub returns-then-not-is_lost : goal.returns-then-not-is_lost
returns-then-not-is_lost c =
    let kept : not (is_lost c.args.slots (asked_kept c.args.self.now) c.args.pages.now c.loop-later.later) ≡ true =
    ap not (sym c.is_lost.ensures ∙ c.if-not-is_lost.true) in
    sym (ap (λ (o : Option ℕ). option_map_or (λ k. k) o c.args.slots) (sym c.loop-later.invariant
    ∙ first-here (λ k. not (is_lost c.args.slots (asked_kept c.args.self.now) c.args.pages.now k)) c.loop-later.later
    (c.args.slots - c.loop-later.later) (c.args.slots - (c.loop-later.later + 1)) (omega arith) kept))

pub loop-later-preserved : goal.loop-later-preserved
loop-later-preserved c =
    let lost : not (is_lost c.args.slots (asked_kept c.args.self.now) c.args.pages.now c.loop-later.later) ≡ false =
    ap not (sym c.is_lost.ensures ∙ c.if-not-is_lost.false) in
    sym (first-next (λ k. not (is_lost c.args.slots (asked_kept c.args.self.now) c.args.pages.now k)) c.loop-later.later
    (c.args.slots - c.loop-later.later) (c.args.slots - (c.loop-later.later + 1)) (omega arith) lost)
    ∙ c.loop-later.invariant
