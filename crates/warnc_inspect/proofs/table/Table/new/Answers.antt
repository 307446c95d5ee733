use Rattle.std.proofs.Common.{ℕ, List, [], subst, sym, append-nil}
use Rattle.warnc_inspect.specs.ReadOutput.{header_row}
use Rattle.warnc_inspect.specs.ReadSteps.{IsTable}
use Rattle.warnc_inspect.proofs.table.Table.new.Goals as goal

pub returns : goal.returns
returns c =
    subst (λ (xs : List ℕ). IsTable c.push_row.new.self xs) (sym (append-nil header_row))
    (c.in_ok-push_row.ensures [] c.in_ok-table.ensures)
