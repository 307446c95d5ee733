use Rattle.std.proofs.Common.{◌≡◌, map, set, subst, sym, ap, ◌∙◌}
use Rattle.bsc_table.specs.declared.accepted.AcceptedMessage.{AcceptedMessage}
use Rattle.bsc_table.specs.Accepted.{accepted_of, TableState}
use Rattle.bsc_table.specs.BookSteps.{accepted_stopped, stop_numbered}
use Rattle.bsc_table.proofs.Cell.TableByPair.{stopped_none, stopped_there, by_pair_stopped, rising_stopped, kept_stop}
use Rattle.bsc_table.proofs.table.Table.stop.Goals as goal

pub invariant_of-self : goal.invariant_of-self
invariant_of-self c =
    let messages = c.self.inside.messages.items in
    let found = rw c.as_slice.ensures.value at c.in-Some.ensures in
    let here = c.stopped_if.ensures ∙ ap (accepted_stopped c.args.entry c.args.slot) c.index.ensures in
    let same = ap (λ (m : AcceptedMessage). set messages c.in-Some.at m) here
    ∙ stopped_there c.args.entry c.args.slot messages c.in-Some.at _ c.self.invariant.rising found.0 (found.1 _) in
    record {
      rising = rw same (rising_stopped c.args.entry c.args.slot messages c.self.invariant.rising);
      by_pair = rw same (by_pair_stopped c.args.entry c.args.slot messages c.self.inside.by_pair.items
          c.self.invariant.by_pair);
    }

pub returns-in-Some-clause-all : goal.returns-in-Some-clause-all
returns-in-Some-clause-all c =
    let messages = c.self.inside.messages.items in
    let found = rw c.as_slice.ensures.value at c.in-Some.ensures in
    let here = c.stopped_if.ensures ∙ ap (accepted_stopped c.args.entry c.args.slot) c.index.ensures in
    let same = ap (λ (m : AcceptedMessage). set messages c.in-Some.at m) here
    ∙ stopped_there c.args.entry c.args.slot messages c.in-Some.at _ c.self.invariant.rising found.0 (found.1 _) in
    ap (map accepted_of) same ∙ kept_stop c.args.entry c.args.slot messages
    ∙ ap (λ (x : TableState). map (stop_numbered c.args.entry c.args.slot) x.all) c.self.view_is

pub returns-in_default-clause-all : goal.returns-in_default-clause-all
returns-in_default-clause-all c =
    let messages = c.self.inside.messages.items in
    let Same : TableState → Type 0 = λ x. x.all ≡ map (stop_numbered c.args.entry c.args.slot) x.all in
    let found = rw c.as_slice.ensures.value at c.in_default.ensures in
    subst Same c.self.view_is (ap (map accepted_of) (sym (stopped_none c.args.entry c.args.slot messages found))
    ∙ kept_stop c.args.entry c.args.slot messages)
