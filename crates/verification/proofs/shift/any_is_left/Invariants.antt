use Rattle.std.proofs.Common.{◌≡◌, drop, map}
use Rattle.std.specs.List.{list_any}
use Rattle.verification.specs.Came.{came_asked}
use Rattle.verification.specs.Shift.{is_left}
use Rattle.verification.proofs.shift.any_is_left.Given as goal

abbrev pub invariant-loop-difference : goal.invariant-loop-difference
invariant-loop-difference l =
    list_any (is_left l.slots (map came_asked l.came) l.shift) (drop l.difference-index l.found)
    ≡ list_any (is_left l.slots (map came_asked l.came) l.shift) l.found
