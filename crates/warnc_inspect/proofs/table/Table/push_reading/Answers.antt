use Rattle.std.proofs.Common.{ℕ, List, ◌≡◌, ◌++◌, ap, subst, arith, rules, take}
use Rattle.std.specs.List.{flat_map}
use Rattle.std.proofs.lemmas.List.{take_all}
use Rattle.handset.specs.Keeping.{message_shown, messages_shown}
use Rattle.warnc_inspect.specs.ReadOutput.{shown_row, row_of_message}
use Rattle.warnc_inspect.specs.ReadSteps.{IsTable}
use Rattle.warnc_inspect.proofs.TableLaws.{flat_map-next}
use Rattle.warnc_inspect.proofs.table.Table.push_reading.Goals as goal

pub loop-message-preserved : goal.loop-message-preserved
loop-message-preserved c = λ octets is.
    let message = message_shown c.message-item.result in
    let front : List ℕ = octets
    ++ flat_map (shown_row c.args.reading.now.cell.lac c.args.reading.now.cell.ci)
    (messages_shown (take c.loop-message.message-index c.args.reading.now.shown.items)) in
    let same : row_of_message c.format-lac.result.now c.format-ci.result.now message
    ≡ shown_row c.args.reading.now.cell.lac c.args.reading.now.cell.ci message = search rules in
    let more : IsTable c.push_message.new.self (front ++ shown_row c.args.reading.now.cell.lac
    c.args.reading.now.cell.ci message) =
    subst (λ (xs : List ℕ). IsTable c.push_message.new.self (front ++ xs)) same
    (c.in_ok-push_message.ensures _ (c.loop-message.invariant octets is)) in
    subst (λ (xs : List ℕ). IsTable c.push_message.new.self xs)
    (flat_map-next message_shown (shown_row c.args.reading.now.cell.lac c.args.reading.now.cell.ci)
    c.args.reading.now.shown.items
    c.loop-message.message-index c.message-item.result octets (omega arith)
    (rw (← c.deref-message-items.ensures.value) c.message-item.is))
    more

pub returns : goal.returns
returns c = λ octets is.
    subst (λ (xs : List ℕ). IsTable c.loop-message.self xs)
    (ap (λ items. octets ++ flat_map (shown_row c.args.reading.now.cell.lac c.args.reading.now.cell.ci)
    (messages_shown items))
    (take_all c.loop-message.message-index c.args.reading.now.shown.items (omega arith)))
    (c.loop-message.invariant octets is)
