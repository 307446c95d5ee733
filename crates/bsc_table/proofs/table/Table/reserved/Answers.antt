use Rattle.std.proofs.Common.{◌==◌, ◌&&◌, sym, ap, ◌∙◌, Some}
use Rattle.std.specs.List.{find}
use Rattle.std.specs.Option.{option_map}
use Rattle.scheduler.specs.Air.{layer}
use Rattle.bsc_table.specs.declared.accepted.AcceptedMessage.{AcceptedMessage}
use Rattle.bsc_table.specs.Record.{Accepted, is_background_category}
use Rattle.bsc_table.specs.Accepted.{accepted_of, TableState}
use Rattle.bsc_table.proofs.Cell.TableByPair.{none_reserved, one_reserved}
use Rattle.bsc_table.proofs.table.Table.reserved.Goals as goal

pub returns-in_err-at : goal.returns-in_err-at
returns-in_err-at c =
    let none = rw (c.as_slice.ensures.value, c.in_err-at.was) at c.place_of.ensures in
    ap (option_map accepted_of) c.from_residual.ensures
    ∙ sym (none_reserved c.args.entry c.self.inside.messages.items none)
    ∙ ap (λ (x : TableState). find (λ (a : Accepted). (a.message.entry == c.args.entry)
    && (layer a.message == 0)) x.all)
    c.self.view_is

pub returns-then-is_background : goal.returns-then-is_background
returns-then-is_background c =
    let found = rw (c.as_slice.ensures.value, c.in_ok-at.was) at c.place_of.ensures in
    let back = sym c.if-is_background.true ∙ c.is_background.ensures ∙ ap (λ (m : AcceptedMessage).
    is_background_category m.category) c.index-message.ensures in
    sym (one_reserved c.args.entry c.self.inside.messages.items c.in_ok-at.at c.index-message.result.now
    c.self.invariant.rising found.0 (found.1 c.index-message.result.now) _ back)
    ∙ ap (λ (x : TableState). find (λ (a : Accepted). (a.message.entry == c.args.entry)
    && (layer a.message == 0)) x.all)
    c.self.view_is

pub returns-else-is_background : goal.returns-else-is_background
returns-else-is_background c =
    let found = rw (c.as_slice.ensures.value, c.in_ok-at.was) at c.place_of.ensures in
    let front = sym c.if-is_background.false ∙ c.is_background.ensures ∙ ap (λ (m : AcceptedMessage).
    is_background_category m.category) c.index-message.ensures in
    ap (λ (m : AcceptedMessage). Some (accepted_of m)) c.index-message.ensures
    ∙ sym (one_reserved c.args.entry c.self.inside.messages.items c.in_ok-at.at c.index-message.result.now
    c.self.invariant.rising found.0 (found.1 c.index-message.result.now) _ front)
    ∙ ap (λ (x : TableState). find (λ (a : Accepted). (a.message.entry == c.args.entry)
    && (layer a.message == 0)) x.all)
    c.self.view_is
