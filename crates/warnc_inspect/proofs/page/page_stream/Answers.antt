use Rattle.std.proofs.Common.{ℕ, List, subst, rules}
use Rattle.warnc_inspect.specs.PageOutput.{IsPageFault}
use Rattle.warnc_inspect.proofs.PageLaws.{fault_of_read}
use Rattle.warnc_inspect.proofs.page.page_stream.Goals as goal

pub returns-in-Err-clause-err : goal.returns-in-Err-clause-err
returns-in-Err-clause-err g c =
    let told : IsPageFault c.args.language.now c.in-Ok.input.items c.in-Err.fault =
    subst (λ (octets : List ℕ). IsPageFault c.args.language.now octets c.in-Err.fault) c.deref.ensures.value
    c.in-Err.ensures.fault in
    fault_of_read _ _ _ _ _ _ _ _ _ c.in-Ok.ensures.value told (search rules)
