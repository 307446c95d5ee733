use Rattle.std.proofs.Common.{IsOk, All, inr, length, rules, subst, sym, take}
use native.Mathlib.Omega.{arith}
use Rattle.std.proofs.lemmas.Iterator.Adapters.{YieldsList-from_vec}
use Rattle.std.proofs.lemmas.Iterator.Consumers.{YieldsList-turn}
use Rattle.std.proofs.lemmas.List.{length_push}
use Rattle.warnc_run.specs.declared.sessions.UserEnd.{UserEnd}
use Rattle.warnc_run.proofs.FirstFault.{first_fault, none_more}
use Rattle.warnc_run.proofs.sessions.passes_or_fault.Goals as goal

pub loop-ended-preserved : goal.loop-ended-preserved
loop-ended-preserved g c =
    let turn = YieldsList-turn (YieldsList-from_vec c.args.all.items
    (search (rules, c.into_iter-ended-iterator.ensures.into_iter_gives))
    (search (rules, c.into_iter-ended-iterator.ensures.into_iter_gives))) c.loop-ended.yielded _
    c.loop-ended.yielded_by _ c.next.new.self c.in-Some.ended c.in-Some.is c.next.ensures.steps in record {
      count = omega (
        arith,
        length_push c.loop-ended.yielded c.in-Some.ended,
        c.in_ok-push.ensures.len,
        c.loop-ended.invariant.count,
      );
      none = subst (λ n. All (λ (x : UserEnd). IsOk x.done) (take n c.args.all.items))
          (sym (length_push c.loop-ended.yielded c.in-Some.ended))
          (none_more c.args.all.items (length c.loop-ended.yielded) c.in-Some.ended turn.0 turn.1
          (search (rules, c.in_default.is))
          c.loop-ended.invariant.none);
    }

pub returns-in-Err-clause-first : goal.returns-in-Err-clause-first
returns-in-Err-clause-first g c =
    let turn = YieldsList-turn (YieldsList-from_vec c.args.all.items
    (search (rules, c.into_iter-ended-iterator.ensures.into_iter_gives))
    (search (rules, c.into_iter-ended-iterator.ensures.into_iter_gives))) c.loop-ended.yielded _
    c.loop-ended.yielded_by _ c.next.new.self c.in-Some.ended c.in-Some.is c.next.ensures.steps in
    inr (first_fault c.args.all.items (length c.loop-ended.yielded) c.in-Some.ended c.in-Err.fault turn.0 turn.1
    c.in-Err.is c.loop-ended.invariant.none)
