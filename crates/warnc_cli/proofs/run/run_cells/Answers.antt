use Rattle.std.proofs.Common.{sym, ◌∙◌}
use Rattle.warnc_cli.specs.Run.{WritesSome}
use Rattle.warnc_cli.proofs.SomeTape.{refused_senders, some_senders}
use Rattle.warnc_cli.proofs.run.run_cells.Goals as goal

pub returns-in-Ok-clause-wrote : goal.returns-in-Ok-clause-wrote
returns-in-Ok-clause-wrote g c =
    let wrote = c.in-Ok.ensures.ok.of_some in
    let some : WritesSome _ _ = (wrote.1, some_senders wrote.0 wrote.1 wrote.2, wrote.3) in
    λ done always. some

pub returns-in-Err-clause-refused : goal.returns-in-Err-clause-refused
returns-in-Err-clause-refused g c =
    λ is. refused_senders _ _ _ c.in-Err.fault c.in-Err.ensures.err (sym c.failed.ensures ∙ is)
