use Rattle.std.proofs.Common.{subst, map, Option, IfSome}
use Rattle.warnc_cli.specs.Tasks.{IsTaskOf}
use Rattle.warnc_cli.specs.declared.command.Task.{Task}
use Rattle.warnc_cli.proofs.Words.{writes_some}
use Rattle.warnc_cli.proofs.run.run_between.Goals as goal

pub returns-in-Ok-Some-clause-wrote : goal.returns-in-Ok-Some-clause-wrote
returns-in-Ok-Some-clause-wrote g c =
    λ done compile live whole plan orders report load. c.run_task.ensures.wrote done
    (rw (c.in-Ok-Some.field-0-is) (writes_some (map g.S.AsStr.text c.args.words.now) c.in-Ok-Some.task
    (subst (λ (o : Option Task). IfSome o (IsTaskOf (map g.S.AsStr.text c.args.words.now))) c.in-Ok-Some.field-0-is
    c.in-Ok-Some.ensures)
    compile live whole plan orders report load))
