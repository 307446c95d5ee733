use Rattle.std.proofs.Common.{◌+◌, ◌-◌, ◌++◌, arith, List, ℕ}
use Rattle.std.specs.List.{flat_map, range_with_len}
use Rattle.verification.specs.declared.difference.Difference.{Difference}
use Rattle.verification.specs.declared.difference.Kind.TheVariants as kinds
use Rattle.verification.specs.Difference.{first_difference, page_numbers}
use Rattle.verification.specs.Kept.{asked_kept}
use Rattle.verification.proofs.ListLaws.{flat_map-range, rest-more}
use Rattle.order_verdict.proofs.verdict.push_otherwise.Goals as goal

pub loop-place-preserved : goal.loop-place-preserved
loop-place-preserved c =
    let f : ℕ → List Difference =
    λ number. first_difference (asked_kept c.args.asked.now) c.args.pages.now (kinds.Otherwise number) in
    let at : ℕ = c.loop-place.place in
    rest-more c.loop-place.found.items c.push_first.new.found.items (f (at + 1))
    (flat_map f (range_with_len (at + 1) (15 - at)))
    (flat_map f (range_with_len (at + 1 + 1) (15 - (at + 1))))
    (c.args.found.now.items ++ flat_map f page_numbers)
    c.loop-place.invariant
    (flat_map-range f (c.loop-place.place + 1) (15 - c.loop-place.place) (15 - (c.loop-place.place + 1)) (omega arith))
    c.in_ok-push_first.ensures
