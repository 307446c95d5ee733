use Rattle.std.proofs.Common.{◌≡◌, Err, rules}
use native.Mathlib.Omega.{arith}
use Rattle.warnc_run.specs.NetworkSteps.{runs_of}
use Rattle.warnc_run.proofs.GroupParts.{parts_after, stop_after}
use Rattle.warnc_run.proofs.Written.{where_it_is}
use Rattle.warnc_run.proofs.parts.write_groups.Goals as goal

pub loop-first-preserved : goal.loop-first-preserved
loop-first-preserved g c = record {
  wrote = λ input means.
      parts_after (runs_of c.args.runs.now) 0 c.loop-first.first c.min-count.result c.loop-first.first input _ _ _
      (omega arith) (c.loop-first.invariant.wrote input means) (c.in_ok-write_batch.ensures.ok input means);
  not_failed = c.in_ok-write_batch.ensures.open;
  within = search (rules, c.loop-first.invariant.within, c.min-count.ensures);
}

pub returns-in_err-write_batch-clause-err : goal.returns-in_err-write_batch-clause-err
returns-in_err-write_batch-clause-err g c =
    let why = c.in_err-write_batch.field-0.0 in
    let is : c.from_residual.result ≡ Err why = search (rules, c.from_residual.ensures) in
    where_it_is _ c.from_residual.result why is
    (λ input means.
    stop_after (runs_of c.args.runs.now) 0 c.loop-first.first c.min-count.result c.args.runs.now.groups
    c.loop-first.first input _ _ _ why (omega arith) (c.loop-first.invariant.wrote input means)
    (c.in_err-write_batch.ensures.err input means)
    (search (rules, c.loop-first.invariant.within, c.min-count.ensures)))
