use Rattle.std.proofs.Common.{◌∙◌}
use Rattle.std.proofs.lemmas.Result.{IfOk-weaker}
use Rattle.warnc_run.proofs.ReadParts.{rows_of_all}
use Rattle.warnc_run.proofs.read.rows_by.Goals as goal

pub returns : goal.returns
returns g c =
    IfOk-weaker c.joined_rows.result _ _
    (λ rows made. made.1 ∙ rows_of_all c.args.records.now c.in_ok-all.all.items c.in_ok-all.ensures c.requires made.0)
    c.joined_rows.ensures
