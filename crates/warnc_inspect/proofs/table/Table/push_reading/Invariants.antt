use Rattle.std.proofs.Common.{ℕ, List, ◌++◌, take}
use Rattle.std.specs.List.{flat_map}
use Rattle.handset.specs.Keeping.{messages_shown}
use Rattle.warnc_inspect.specs.ReadOutput.{shown_row}
use Rattle.warnc_inspect.specs.ReadSteps.{IsTable}
use Rattle.warnc_inspect.proofs.table.Table.push_reading.Given as goal

abbrev pub invariant-loop-message : goal.invariant-loop-message
invariant-loop-message l =
    (octets : List ℕ) → IsTable l.fn.self octets → IsTable l.self (octets
    ++ flat_map (shown_row l.reading.cell.lac l.reading.cell.ci)
    (messages_shown (take l.message-index l.reading.shown.items)))
