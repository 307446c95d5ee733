use Rattle.std.proofs.Common.{sym, ◌∙◌}
use Rattle.warnc_cli.proofs.NoPlan.{refused_plan}
use Rattle.warnc_cli.proofs.run.run_plan.Goals as goal

pub returns-in-Err-clause-refused : goal.returns-in-Err-clause-refused
returns-in-Err-clause-refused g c =
    λ is. refused_plan _ _ _ c.in-Err.fault c.in-Err.ensures.err (sym c.failed.ensures ∙ is)
