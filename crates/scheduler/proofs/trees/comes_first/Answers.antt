use Rattle.std.proofs.Common.{◌≡◌, ◌+◌, arith, get_or, ap, ◌∙◌}
use Rattle.std.proofs.lemmas.Bool.{leb-true}
use Rattle.scheduler.specs.Air.{layer_of, class_of}
use Rattle.scheduler.specs.QueueSteps.{turn_number}
use Rattle.scheduler.proofs.FirstTurn.{blank}
use Rattle.scheduler.proofs.Forest.{none_before}
use Rattle.scheduler.proofs.trees.comes_first.Goals as goal

pub returns : goal.returns
returns c = λ says.
    let entry = (get_or c.args.nodes.now 0 blank).kept.scheduled.item.entry in
    let is : c.turn_number.result ≡ turn_number (layer_of c.args.foremost) (c.args.slot + 1)
    (class_of c.args.foremost) entry = c.turn_number.ensures
    ∙ (ap (λ n. turn_number n (c.from.result + 1) c.class.result entry) c.layer.ensures
    ∙ (ap (λ n. turn_number (layer_of c.args.foremost) (n + 1) c.class.result entry) c.from.ensures
    ∙ ap (λ n. turn_number (layer_of c.args.foremost) (c.args.slot + 1) n entry) c.class.ensures)) in
    none_before c.args.slot c.args.turn c.args.foremost c.args.nodes.now c.requires.within c.requires.right
    c.requires.turns c.requires.rising c.requires.ranks (omega (arith, leb-true _ _ says, is))
