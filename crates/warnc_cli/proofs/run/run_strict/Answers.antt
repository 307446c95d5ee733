use Rattle.std.proofs.Common.{sym, ◌∙◌, inl}
use Rattle.warnc_run.specs.Strict.{IsStrictlyMadeBy}
use Rattle.warnc_cli.proofs.Products.{written_of}
use Rattle.warnc_cli.proofs.StrictRuns.{refused_strict, some_strict, strict_between, strict_keeps}
use Rattle.warnc_cli.proofs.run.run_strict.Goals as goal

pub returns-in-Ok-clause-done : goal.returns-in-Ok-clause-done
returns-in-Ok-clause-done g c = λ done. written_of (IsStrictlyMadeBy c.args.run c.args.made) _ _ _ _ c.in-Ok.ensures.ok

pub returns-in-Ok-clause-wrote : goal.returns-in-Ok-clause-wrote
returns-in-Ok-clause-wrote g c = λ done always. some_strict c.args.run c.args.made _ _ _ _ c.in-Ok.ensures.ok always

pub returns-in-Err-clause-refused : goal.returns-in-Err-clause-refused
returns-in-Err-clause-refused g c =
    λ is. refused_strict c.args.run.origin c.args.run.slots c.args.run.sessions.number c.args.made _ _ _ _
    c.in-Err.fault c.in-Err.ensures.err (sym c.failed.ensures ∙ is)

pub returns-in-Err-clause-front : goal.returns-in-Err-clause-front
returns-in-Err-clause-front g c =
    λ other. inl (strict_keeps c.in-Err.fault c.failed.result g.W.Write.contents _ _ _ _ c.failed.ensures
    c.in-Err.ensures.any_ends other)

pub returns-in-Err-clause-ends : goal.returns-in-Err-clause-ends
returns-in-Err-clause-ends g c =
    strict_between c.args.run c.args.made _ _ _ _ c.in-Err.fault c.failed.result g.W.Write.contents _ _ _ _
    c.failed.ensures c.in-Err.ensures.err c.in-Err.ensures.any_ends
