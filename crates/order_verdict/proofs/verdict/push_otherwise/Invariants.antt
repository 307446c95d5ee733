use Rattle.std.proofs.Common.{◌≡◌, ◌+◌, ◌-◌, ◌++◌}
use Rattle.std.specs.List.{flat_map, range_with_len}
use Rattle.verification.specs.declared.difference.Kind.TheVariants as kinds
use Rattle.verification.specs.Difference.{first_difference, page_numbers}
use Rattle.verification.specs.Kept.{asked_kept}
use Rattle.order_verdict.proofs.verdict.push_otherwise.Given as goal

abbrev pub invariant-loop-place : goal.invariant-loop-place
invariant-loop-place l =
    l.found.items ++ flat_map (λ number. first_difference (asked_kept l.asked) l.pages (kinds.Otherwise number))
    (range_with_len (l.place + 1) (15 - l.place))
    ≡ l.fn.found.items
    ++ flat_map (λ number. first_difference (asked_kept l.asked) l.pages (kinds.Otherwise number)) page_numbers
