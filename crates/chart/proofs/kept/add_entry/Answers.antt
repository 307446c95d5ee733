use Rattle.std.proofs.Common.{List, Option, Some, None, append-nil, ap, subst, sym, ◌∙◌}
use Rattle.std.specs.Option.{option_map, option_to_list}
use Rattle.bsc_table.specs.Record.{added_by, start_of}
use Rattle.chart.specs.declared.kept.KeptMessage.{KeptMessage}
use Rattle.chart.specs.Kept.{accepted_kept, all_kept, HavePeriods}
use Rattle.chart.proofs.KeptLaws.{added_after, periods_added, periods_stopped}
use Rattle.chart.proofs.kept.add_entry.Goals as goal

pub returns-in_ok-push-clause-all : goal.returns-in_ok-push-clause-all
returns-in_ok-push-clause-all c =
    added_after c.args.place c.args.entry.now c.args.all.now.items c.stop_by.new.all.items c.push.new.self.items
    (Some c.in-Some.added) c.stop_by.ensures c.in_ok-push.ensures.items
    (ap (λ (o : Option KeptMessage). option_to_list (option_map accepted_kept o)) (sym c.in-Some.is)
    ∙ c.added_by-added.ensures.added
    ∙ ap (λ (kept : List KeptMessage). added_by (all_kept kept) c.args.place c.args.entry.now.slot
    (start_of c.args.entry.now.answer) c.args.entry.now.command) c.deref.ensures.value)

pub returns-in_ok-push-clause-periods : goal.returns-in_ok-push-clause-periods
returns-in_ok-push-clause-periods c =
    periods_added c.args.entry.now c.args.all.now.items c.stop_by.new.all.items c.push.new.self.items c.in-Some.added
    c.stop_by.ensures c.in_ok-push.ensures.items c.requires.periods c.in-Some.ensures.period

pub returns-in_default-clause-all : goal.returns-in_default-clause-all
returns-in_default-clause-all c =
    added_after c.args.place c.args.entry.now c.args.all.now.items c.stop_by.new.all.items c.stop_by.new.all.items
    None c.stop_by.ensures (sym (append-nil c.stop_by.new.all.items))
    (ap (λ (o : Option KeptMessage). option_to_list (option_map accepted_kept o)) (sym c.in_default.is)
    ∙ c.added_by-added.ensures.added
    ∙ ap (λ (kept : List KeptMessage). added_by (all_kept kept) c.args.place c.args.entry.now.slot
    (start_of c.args.entry.now.answer) c.args.entry.now.command) c.deref.ensures.value)

pub returns-in_default-clause-periods : goal.returns-in_default-clause-periods
returns-in_default-clause-periods c =
    subst HavePeriods (sym c.stop_by.ensures) (periods_stopped c.args.entry.now c.args.all.now.items c.requires.periods)
