use Rattle.std.proofs.Common.{◌≡◌, ◌++◌, drop}
use Rattle.std.specs.List.{filter_map}
use Rattle.alert_book.specs.Cells.{cell_named}
use Rattle.plan.proofs.cells.new.cells_of_parts.Given as goal

abbrev pub invariant-loop-part : goal.invariant-loop-part
invariant-loop-part l =
    l.cells.items ++ filter_map cell_named (drop l.part-index l.parts) ≡ filter_map cell_named l.parts
