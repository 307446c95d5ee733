use Rattle.std.proofs.Common.{◌<◌, List, ℕ, length, rules, sym, subst}
use Rattle.warnc_run.proofs.Written.{takes_front}
use Rattle.warnc_run.proofs.finish.write_tapes.Goals as goal

pub returns-in_err-write_to-clause-err : goal.returns-in_err-write_to-clause-err
returns-in_err-write_to-clause-err g c =
    let tape = c.tape-item.result in
    let some : 0 < length tape = subst (λ (t : List ℕ). 0 < length t) (sym c.tape-item.is)
    (c.requires c.loop-tape.tape-index tape c.loop-tape-test.true) in
    let taken = takes_front _ _ _ c.args.tapes.now c.loop-tape.tape-index c.in_err-write_to.field-0.0.written tape
    c.loop-tape-test.true c.tape-item.is (c.in_err-write_to.ensures.front some) c.loop-tape.invariant.0
    c.in_err-write_to.ensures.err in
    search (rules, taken, c.from_residual.ensures)
