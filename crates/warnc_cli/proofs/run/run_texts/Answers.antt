use Rattle.std.proofs.Common.{sym, ◌∙◌}
use Rattle.warnc_cli.proofs.NoRows.{refused_rows}
use Rattle.warnc_cli.proofs.run.run_texts.Goals as goal

pub returns-in-Err-clause-refused : goal.returns-in-Err-clause-refused
returns-in-Err-clause-refused g c =
    λ is. refused_rows c.args.what _ c.args.pages _ _ c.in-Err.fault c.in-Err.ensures.err (sym c.failed.ensures ∙ is)
