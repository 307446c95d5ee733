use Rattle.std.proofs.Common.{◌+◌, ◌-◌, ◌∙◌, ℕ, ap, arith, sym}
use Rattle.std.specs.Prelude.{fold, min}
use Rattle.std.specs.List.{range_with_len}
use Rattle.order_verdict.specs.Counts.{times_by}
use Rattle.verification.proofs.ListLaws.{range-next}
use Rattle.order_verdict.proofs.counts.whole_by.Goals as goal

pub loop-place-preserved : goal.loop-place-preserved
loop-place-preserved c =
    let place : ℕ = c.loop-place.place in
    let f : ℕ → ℕ → ℕ = λ least number. min least (times_by c.args.pages.now c.args.last number) in
    ap (λ (x : ℕ). fold f x (range_with_len (place + 1 + 1) (c.args.total - (place + 1))))
    (c.min-least.ensures ∙ ap (λ (times : ℕ). min c.loop-place.least times) c.times_by.ensures)
    ∙ sym (ap (fold f c.loop-place.least) (range-next (place + 1) (c.args.total - place) (c.args.total - (place + 1))
    (omega arith)))
    ∙ c.loop-place.invariant
