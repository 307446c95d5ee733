use Rattle.std.proofs.Common.{◌≡◌, ◌+◌, Err, rules}
use native.Mathlib.Omega.{arith}
use Rattle.warnc_run.specs.NetworkSteps.{runs_of}
use Rattle.warnc_run.proofs.GroupParts.{made_at, no_empty_tape, stop_at, written_after}
use Rattle.warnc_run.proofs.Written.{where_it_is}
use Rattle.warnc_run.proofs.network.NetworkRun.write_batch.Goals as goal

pub write_one-requires-clause-some : goal.write_one-requires-clause-some
write_one-requires-clause-some g c =
    let runs = runs_of c.args.self.now in
    let came = c.part-item.result in
    let read = c.requires.read in
    no_empty_tape runs (c.args.first + c.loop-part.part-index) read.0 came
    (made_at runs c.args.first c.args.self.now.network.now read.0 c.in-Ok.all.items
    c.deref-part-items.result.now c.loop-part.part-index came c.in-Ok.ensures.each read.1
    c.deref-part-items.ensures.value c.loop-part-test.true c.part-item.is)

pub loop-part-preserved : goal.loop-part-preserved
loop-part-preserved g c =
    let runs = runs_of c.args.self.now in
    let came = c.part-item.result in
    record {
      wrote = λ input means.
          let of = made_at runs c.args.first c.args.self.now.network.now input c.in-Ok.all.items
          c.deref-part-items.result.now c.loop-part.part-index came c.in-Ok.ensures.each means
          c.deref-part-items.ensures.value c.loop-part-test.true c.part-item.is in
          written_after runs c.args.first c.loop-part.part-index input came _ _ _
          (c.loop-part.invariant.wrote input means) of c.in_ok-write_one.ensures.ok;
      not_failed = c.in_ok-write_one.ensures.open;
      number = omega (arith, c.loop-part.invariant.number);
    }

pub returns-in_err-write_one-clause-err : goal.returns-in_err-write_one-clause-err
returns-in_err-write_one-clause-err g c =
    let runs = runs_of c.args.self.now in
    let came = c.part-item.result in
    let why = c.in_err-write_one.field-0.0 in
    let is : c.from_residual.result ≡ Err why = search (rules, c.from_residual.ensures) in
    where_it_is _ c.from_residual.result why is
    (λ input means.
    let of = made_at runs c.args.first c.args.self.now.network.now input c.in-Ok.all.items
    c.deref-part-items.result.now c.loop-part.part-index came c.in-Ok.ensures.each means
    c.deref-part-items.ensures.value c.loop-part-test.true c.part-item.is in
    stop_at runs c.args.first c.loop-part.part-index c.loop-part.group c.args.count input came _ _ _ why
    (omega (arith, c.loop-part-test.true, c.deref-part-items.ensures.len, c.in-Ok.ensures.count))
    c.loop-part.invariant.number (c.loop-part.invariant.wrote input means) of c.in_err-write_one.ensures.err)
