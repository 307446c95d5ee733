use Rattle.std.proofs.Common.{◌≡◌, drop}
use Rattle.std.specs.List.{list_any}
use Rattle.cbsp_wire.specs.Range.{is_cell}
use Rattle.verification.proofs.findings.is_among.Given as goal

abbrev pub invariant-loop-other : goal.invariant-loop-other
invariant-loop-other l = list_any (is_cell l.cell) (drop l.other-index l.cells) ≡ list_any (is_cell l.cell) l.cells
