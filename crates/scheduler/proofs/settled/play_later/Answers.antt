use Rattle.std.proofs.Common.{◌<◌, ◌+◌, List, arith, map, ap, subst, sym, ◌∙◌}
use Rattle.std.specs.List.{All, AllPairs}
use Rattle.scheduler.specs.declared.scheduled.Scheduled.{Scheduled}
use Rattle.scheduler.specs.declared.tournament.Node.{Node}
use Rattle.scheduler.specs.PlanSteps.{IsChoice, after_slot}
use Rattle.scheduler.specs.QueueSteps.{kept_in, seen_in, HasEnded, AreBehind, IsNotBehind}
use Rattle.scheduler.proofs.Ended.{seen_both, rising_behind, chosen_settled, after_settled, ended_later, settled_of}
use Rattle.scheduler.proofs.Forest.{All-behind}
use Rattle.scheduler.proofs.settled.play_later.Goals as goal

pub play-requires-clause-rising : goal.play-requires-clause-rising
play-requires-clause-rising c =
    let cut = c.split_at_mut-later in
    let slot = c.args.slot in
    let Rising : List Scheduled → Type 0 = λ ts. AllPairs (λ (a b : Scheduled). a.item.entry < b.item.entry) ts in
    rising_behind (λ (t : Scheduled). t.item.entry) (seen_in slot cut.result.0.now) (seen_in slot cut.result.1.now)
    (subst Rising (ap (seen_in slot) cut.ensures.value ∙ seen_both slot cut.result.0.now cut.result.1.now)
    c.requires.rising)

pub play-requires-clause-ranks : goal.play-requires-clause-ranks
play-requires-clause-ranks c =
    let cut = c.split_at_mut-later in
    let slot = c.args.slot in
    All-behind (λ (t : Scheduled). IsNotBehind c.args.foremost t.item.rank) (seen_in slot cut.result.0.now)
    (seen_in slot cut.result.1.now) (subst (AreBehind c.args.foremost) (ap (seen_in slot) cut.ensures.value
    ∙ seen_both slot cut.result.0.now cut.result.1.now) c.requires.ranks)

pub returns-clause-chosen : goal.returns-clause-chosen
returns-clause-chosen c =
    let cut = c.split_at_mut-later in
    let slot = c.args.slot in
    let Ended : List Node → Type 0 = λ ns. All (HasEnded slot) (kept_in ns) in
    let Chosen : List Node → Type 0 = λ ns. IsChoice (seen_in slot ns) slot c.play.result in
    subst Chosen (sym cut.ensures.value) (chosen_settled slot cut.result.0.now cut.result.1.now c.play.result
    (omega (arith, c.requires.within)) (subst Ended (sym cut.ensures.front) c.requires.kept.ended)
    c.play.ensures.chosen)

pub returns-clause-seen : goal.returns-clause-seen
returns-clause-seen c =
    let cut = c.split_at_mut-later in
    let slot = c.args.slot in
    let Ended : List Node → Type 0 = λ ns. All (HasEnded slot) (kept_in ns) in
    let Rising : List Node → Type 0 = λ ns. AllPairs (λ (a b : Scheduled). a.item.entry < b.item.entry)
    (seen_in slot ns) in
    after_settled slot cut.result.0.now cut.result.1.now c.play.new.nodes c.play.result
    (omega (arith, c.requires.within)) (subst Ended (sym cut.ensures.front) c.requires.kept.ended)
    (subst Rising cut.ensures.value c.requires.rising) c.play.ensures.chosen c.play.ensures.seen
    ∙ ap (λ ns. map (after_slot slot c.play.result) (seen_in slot ns)) (sym cut.ensures.value)

pub returns-clause-kept : goal.returns-clause-kept
returns-clause-kept c =
    let cut = c.split_at_mut-later in
    let slot = c.args.slot in
    let Ended : List Node → Type 0 = λ ns. All (HasEnded slot) (kept_in ns) in
    settled_of (slot + 1) c.args.past cut.result.0.now c.play.new.nodes cut.ensures.front_len (ended_later slot
    (kept_in cut.result.0.now) (omega (arith, c.requires.within)) (subst Ended (sym cut.ensures.front)
    c.requires.kept.ended)) c.play.ensures.kept
