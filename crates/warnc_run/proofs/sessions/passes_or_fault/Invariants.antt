use Rattle.std.proofs.Common.{◌≡◌, IsOk, All, length, take, vec_len}
use Rattle.warnc_run.specs.declared.sessions.UserEnd.{UserEnd}
use Rattle.warnc_run.proofs.sessions.passes_or_fault.Given as goal

abbrev pub invariant-loop-ended : goal.invariant-loop-ended
invariant-loop-ended g l =
    let done = length l.yielded in record {
      count : vec_len l.passes ≡ done;
      none : All (λ (x : UserEnd). IsOk x.done) (take done l.fn.all.items);
    }
