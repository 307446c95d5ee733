use Rattle.std.proofs.Common.{◌≡◌, ◌++◌, drop, string_bytes}
use Rattle.std.specs.List.{flat_map}
use Rattle.warnc_air.specs.TapeOutput.{columns_text, row_text}
use Rattle.warnc_air.proofs.cells.table_of.Given as goal

abbrev pub invariant-loop-row : goal.invariant-loop-row
invariant-loop-row l =
    string_bytes l.text ++ flat_map row_text (drop l.row-index l.rows) ≡ columns_text ++ flat_map row_text l.rows
