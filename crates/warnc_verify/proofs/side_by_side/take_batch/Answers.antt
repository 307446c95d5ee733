use Rattle.std.proofs.Common.{◌≡◌, ◌∙◌, List, map-id, rules, subst, sym}
use Rattle.std.proofs.lemmas.Iterator.Adapters.{YieldsList-from_vec}
use Rattle.std.proofs.lemmas.Iterator.Consumers.{YieldsList-end}
use Rattle.short_pages.specs.declared.pages.Pages.{Pages}
use Rattle.warnc_verify.specs.VerifySteps.{TakesBatch}
use Rattle.warnc_verify.specs.declared.side_by_side.Judging.{Judging}
use Rattle.warnc_verify.proofs.Taking.{none-taken, one-more-taken}
use Rattle.warnc_verify.proofs.side_by_side.take_batch.Goals as goal

pub loop-one-init : goal.loop-one-init
loop-one-init c = none-taken c.args.findings.now

pub loop-one-preserved : goal.loop-one-preserved
loop-one-preserved c =
    one-more-taken c.args.findings.now c.loop-one.findings c.take_found.new.findings c.loop-one.yielded c.in-Some.one
    c.in_ok-found.field-0 c.in_ok-found.was c.loop-one.invariant c.in_ok-take_found.ensures

pub returns : goal.returns
returns c =
    let list = YieldsList-from_vec c.args.batch.items
    (search (rules, c.into_iter-one-iterator.ensures.into_iter_gives))
    (search (rules, c.into_iter-one-iterator.ensures.into_iter_gives)) in
    let ended = YieldsList-end list c.loop-one.yielded _ c.loop-one.yielded_by _ c.next.new.self c.in-None.is
    c.next.ensures.steps in
    let all : c.loop-one.yielded ≡ c.args.batch.items = sym (map-id c.loop-one.yielded) ∙ ended.0 in
    subst (λ (batch : List Judging). (pages : Pages) → TakesBatch pages c.args.findings.now c.loop-one.findings batch)
    all c.loop-one.invariant
