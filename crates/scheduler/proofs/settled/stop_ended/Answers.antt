use Rattle.std.proofs.Common.{List, ap, subst, sym, ◌∙◌, map, set}
use Rattle.std.specs.List.{All}
use Rattle.scheduler.specs.declared.progress.Progress.{Progress}
use Rattle.scheduler.specs.QueueSteps.{seen, kept_in, HasEnded}
use Rattle.scheduler.proofs.FirstTurn.{blank}
use Rattle.scheduler.proofs.Found.{stopped_none, stopped_one}
use Rattle.scheduler.proofs.Ended.{ended_stopped}
use Rattle.scheduler.proofs.Tree.{kept_as-kept}
use Rattle.scheduler.proofs.settled.stop_ended.Goals as goal

pub returns-in-None-clause-seen : goal.returns-in-None-clause-seen
returns-in-None-clause-seen c = stopped_none c.args.entry c.args.slot c.args.nodes.now c.in-None.ensures

pub returns-in-Some-clause-seen : goal.returns-in-Some-clause-seen
returns-in-Some-clause-seen c =
    let nodes = c.args.nodes.now in
    let place = c.in-Some.place in
    ap (map (seen c.args.slot)) (kept_as-kept nodes place blank c.stopped-kept.result)
    ∙ (ap (λ (k : Progress). map (seen c.args.slot) (set (kept_in nodes) place k)) c.stopped-kept.ensures
    ∙ stopped_one c.args.entry c.args.slot nodes place c.requires.rising c.in-Some.ensures)

pub returns-in-Some-clause-ended : goal.returns-in-Some-clause-ended
returns-in-Some-clause-ended c =
    let nodes = c.args.nodes.now in
    let place = c.in-Some.place in
    let Ended : List Progress → Type 0 = λ ks. All (HasEnded c.args.slot) ks in
    subst Ended (sym (kept_as-kept nodes place blank c.stopped-kept.result
    ∙ ap (λ (k : Progress). set (kept_in nodes) place k) c.stopped-kept.ensures)) (ended_stopped c.args.slot nodes place
    c.in-Some.ensures.0 c.requires.ended)
