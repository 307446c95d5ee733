use Rattle.std.proofs.Common.{◌≡◌, All, take, false}
use Rattle.cbsp_wire.specs.Range.{is_cell}
use Rattle.session_check.proofs.answers.record_by_search.Given as goal

abbrev pub invariant-loop-record : goal.invariant-loop-record
invariant-loop-record l = All (λ other. is_cell l.fn.cell other.cell ≡ false) (take l.record-index l.fn.records)
