use Rattle.std.proofs.Common.{◌≡◌, drop}
use Rattle.std.specs.Prelude.{◌==◌}
use Rattle.std.specs.List.{list_any}
use Rattle.asked_orders.proofs.asked.has_number.Given as goal

abbrev pub invariant-loop-number : goal.invariant-loop-number
invariant-loop-number l =
    list_any (λ number. number == l.wanted) (drop l.number-index l.numbers)
    ≡ list_any (λ number. number == l.wanted) l.numbers
