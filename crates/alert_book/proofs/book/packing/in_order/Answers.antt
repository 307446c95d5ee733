use Rattle.std.proofs.Common.{inr, rules}
use Rattle.std.proofs.lemmas.Iterator.Adapters.{YieldsList-from_vec}
use Rattle.std.proofs.lemmas.Iterator.Consumers.{YieldsList-so_far, YieldsList-turn}
use Rattle.alert_book.proofs.PageLaws.{first_fault}
use Rattle.alert_book.proofs.book.packing.in_order.Goals as goal

pub returns-in-Err-clause-err : goal.returns-in-Err-clause-err
returns-in-Err-clause-err c =
    let list = YieldsList-from_vec c.args.packed.items
    (search (rules, c.into_iter-packed-iterator.ensures.into_iter_gives))
    (search (rules, c.into_iter-packed-iterator.ensures.into_iter_gives)) in
    let turn = YieldsList-turn list c.loop-packed.yielded _ c.loop-packed.yielded_by _ c.next.new.self
    c.in-Some.packed c.in-Some.is c.next.ensures.steps in
    inr (first_fault c.args.packed.items c.loop-packed.yielded c.loop-packed.pages.items c.in-Some.packed c.in-Err.fault
    c.in-Err.is turn.0 turn.1 (YieldsList-so_far list c.loop-packed.yielded _ c.loop-packed.yielded_by)
    c.loop-packed.invariant)
