use Rattle.std.proofs.Common.{◌≡◌, ◌==◌, drop}
use Rattle.std.specs.List.{position_from}
use Rattle.chart.proofs.facts.slot_of.Given as goal

abbrev pub invariant-loop-slot : goal.invariant-loop-slot
invariant-loop-slot l =
    position_from (λ load. load == l.most) l.slot (drop l.slot l.loads)
    ≡ position_from (λ load. load == l.most) 0 l.loads
