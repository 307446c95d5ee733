-- A median is of some numbers.
use Rattle.std.proofs.Common.{◌≡◌, ℕ, ◌/◌, List, [], ◌∷◌, length, Some, slice_get}
use Rattle.std.proofs.lemmas.List.Sorted.{length_permutation}
use Rattle.cbsp_wire.specs.declared.message.Cell.{Cell}
use Rattle.link_orders.specs.Clock.{IsMedian}
use Rattle.link_orders.specs.Orders.{IsReference}
use Rattle.link_orders.specs.declared.calls.Call.{Call}

none_of_none : (sorted : List ℕ) (median : ℕ) → length sorted ≡ 0 →
    slice_get sorted (length sorted / 2) ≡ Some median → ⊥
none_of_none [] median none is = cc
none_of_none (x ∷ xs) median none is = cc

-- so it is the reference
pub reference_of_some : (cell : Cell) (calls : List Call) (begins : List ℕ) (median : ℕ) → IsMedian begins median →
    IsReference cell calls begins median
reference_of_some cell calls [] median is =
    absurd (none_of_none is.sorted median (length_permutation [] is.sorted is.same) is.middle)
reference_of_some cell calls (begin ∷ begins) median is = is
