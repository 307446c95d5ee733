use Rattle.warnc_cli.specs.Run.{WritesSome}
use Rattle.warnc_inspect.proofs.OutputLaws.{some_output}
use Rattle.warnc_cli.proofs.run.run_page.Goals as goal

pub returns-in-Ok-clause-wrote : goal.returns-in-Ok-clause-wrote
returns-in-Ok-clause-wrote g c =
    let wrote = c.in-Ok.ensures.ok.of_some in
    let some : WritesSome _ _ = (
      wrote.1,
      some_output c.args.form c.args.language.now c.args.id c.args.serial wrote.0 wrote.1 wrote.2,
      wrote.3,
    ) in
    λ done always. some
