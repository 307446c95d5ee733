use Rattle.std.proofs.Common.{rules, Ok, Err}
use Rattle.std.proofs.lemmas.List.Sorted.{answers_always}
use Rattle.bsc_table.specs.declared.accepted.AcceptedMessage.{AcceptedMessage}
use Rattle.bsc_table.proofs.Cell.TableByPair.{searched_number}
use Rattle.bsc_table.proofs.table.place_by_search.Goals as goal

pub returns-in-Ok : goal.returns-in-Ok
returns-in-Ok c =
    let facts = c.in-Ok.ensures in
    let by_key = facts.position (λ (m : AcceptedMessage). m.entry) (answers_always _ _ _ (λ f a r g called.
    search rules)) in
    searched_number c.args.messages.now c.args.entry c.requires (Ok c.in-Ok.at) facts.bound by_key

pub returns-in-Err : goal.returns-in-Err
returns-in-Err c =
    let facts = c.in-Err.ensures in
    let by_key = facts.position (λ (m : AcceptedMessage). m.entry) (answers_always _ _ _ (λ f a r g called.
    search rules)) in
    searched_number c.args.messages.now c.args.entry c.requires (Err c.in-Err.field-0) facts.bound by_key
