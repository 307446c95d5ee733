use Rattle.std.proofs.Common.{◌≡◌, ◌++◌, ◌∷◌, ◌∙◌, [], List, rules, subst, sym}
use Rattle.std.proofs.lemmas.List.{map-id}
use Rattle.std.proofs.lemmas.Iterator.Adapters.{YieldsList-from_vec}
use Rattle.std.proofs.lemmas.Iterator.Consumers.{YieldsList-end}
use Rattle.gsmtap.specs.SendersSteps.{AreRowsOf}
use Rattle.gsmtap.specs.declared.sender_table.SenderRow.{SenderRow}
use Rattle.gsmtap.specs.declared.sender_table.SenderState.{SenderState}
use Rattle.gsmtap.proofs.SenderRows.{rows_more}
use Rattle.gsmtap.proofs.sender_table.rows_of.Goals as goal

pub loop-sender-init : goal.loop-sender-init
loop-sender-init c = subst (λ (it : List SenderRow). AreRowsOf [] it) (sym c.new-rows.ensures.items) tt

pub loop-sender-preserved : goal.loop-sender-preserved
loop-sender-preserved c =
    let pushed : c.push.new.self.items ≡ c.loop-sender.rows.items ++ c.in_ok-row.field-0 ∷ [] = search rules in
    subst (λ (it : List SenderRow). AreRowsOf (c.loop-sender.yielded ++ c.in-Some.sender ∷ []) it) (sym pushed)
    (rows_more c.loop-sender.yielded c.loop-sender.rows.items c.in-Some.sender c.in_ok-row.field-0
    c.loop-sender.invariant c.in_ok-row.ensures)

pub returns : goal.returns
returns c =
    let list = YieldsList-from_vec c.args.senders.items
    (search (rules, c.into_iter-sender-iterator.ensures.into_iter_gives))
    (search (rules, c.into_iter-sender-iterator.ensures.into_iter_gives)) in
    let ended = YieldsList-end list c.loop-sender.yielded _ c.loop-sender.yielded_by _ c.next.new.self c.in-None.is
    c.next.ensures.steps in
    let all : c.loop-sender.yielded ≡ c.args.senders.items = sym (map-id c.loop-sender.yielded) ∙ ended.0 in
    subst (λ (it : List SenderState). AreRowsOf it c.loop-sender.rows.items) all c.loop-sender.invariant
