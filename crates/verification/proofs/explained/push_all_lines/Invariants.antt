use Rattle.std.proofs.Common.{◌≡◌, ◌++◌, take}
use Rattle.std.specs.List.{flat_map}
use Rattle.verification.specs.Table.{difference_lines}
use Rattle.verification.proofs.explained.push_all_lines.Given as goal

abbrev pub invariant-loop-difference : goal.invariant-loop-difference
invariant-loop-difference l =
    l.text.items ≡ l.fn.text.items ++ flat_map (difference_lines l.start l.run l.blocks)
    (take l.difference-index l.found)
