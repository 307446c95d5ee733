-- An entry that was not accepted changes no accepted message.
use Rattle.std.proofs.Common.{length, ◌∙◌}
use Rattle.bsc_table.specs.Record.{accepted_in}
use Rattle.bsc_table.specs.Refusals.{RefusalsChangeNothing}
use Rattle.bsc_table.proofs.History.Accepted.{accepted_in-push}
use Rattle.bsc_table.proofs.History.SameMessages.{unmoved}

-- an entry that isn't accepted leaves the accepted messages as they were
pub refusals_change_nothing : RefusalsChangeNothing
refusals_change_nothing log e refused =
    accepted_in-push log e ∙ unmoved (accepted_in log) (length log) e refused
