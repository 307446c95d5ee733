use Rattle.std.proofs.Common.{sym, ap, ◌∙◌, Some, get_or}
use Rattle.std.specs.List.{find}
use Rattle.bsc_table.specs.declared.accepted.AcceptedMessage.{AcceptedMessage}
use Rattle.bsc_table.specs.Record.{is_of_pair}
use Rattle.bsc_table.specs.Accepted.{accepted_of, TableState}
use Rattle.bsc_table.specs.declared.table.Pair.{Pair}
use Rattle.bsc_table.proofs.Cell.TableByPair.{found_by_pair, none_by_pair}
use Rattle.bsc_table.proofs.table.Table.named.Goals as goal

pub returns-in-Ok : goal.returns-in-Ok
returns-in-Ok c =
    let t = c.self.inside in
    let p = c.index.result.now in
    let m = c.index-in-Ok.result.now in
    let found = rw c.as_slice.ensures.value at c.in-Ok.ensures in
    let read = c.index-in-Ok.ensures ∙ ap (λ n. get_or t.messages.items n m)
    (ap (λ (q : Pair). q.place) c.index.ensures) in
    ap (λ (x : AcceptedMessage). Some (accepted_of x)) read
    ∙ sym (found_by_pair t.messages.items t.by_pair.items c.args.id c.args.serial c.in-Ok.at p m
    c.self.invariant.by_pair found)
    ∙ ap (λ (x : TableState). find (is_of_pair c.args.id c.args.serial) x.all)
    c.self.view_is

pub returns-in-Err : goal.returns-in-Err
returns-in-Err c =
    let t = c.self.inside in
    let gap = rw c.as_slice.ensures.value at c.in-Err.ensures in
    sym (none_by_pair t.messages.items t.by_pair.items c.args.id c.args.serial c.in-Err.gap
    c.self.invariant.by_pair gap) ∙ ap (λ (x : TableState). find (is_of_pair c.args.id c.args.serial) x.all)
    c.self.view_is
