use Rattle.std.proofs.Common.{sym, ◌∙◌}
use Rattle.warnc_cli.proofs.NoRun.{no_groups}
use Rattle.warnc_cli.proofs.run.run_groups.Goals as goal

pub returns-in-Err-clause-refused : goal.returns-in-Err-clause-refused
returns-in-Err-clause-refused g c =
    λ is. no_groups _ _ _ _ c.in-Err.fault c.in-Err.ensures.err (sym c.failed.ensures ∙ is)
