use Rattle.std.proofs.Common.{◌≡◌, subst, sym, ◌∙◌, get_or, refl}
use Rattle.scheduler.specs.declared.turn.First.{First}
use Rattle.scheduler.specs.QueueSteps.{own, nothing_ahead, IsTreeWithout}
use Rattle.scheduler.proofs.FirstTurn.{blank}
use Rattle.scheduler.proofs.Tree.{kept_as, kept_as-kept, kept_as-others, kept_as-without, own_at-is}
use Rattle.scheduler.proofs.tournament.change.Goals as goal

pub raise-requires-clause-missing : goal.raise-requires-clause-missing
raise-requires-clause-missing c =
    let nodes = c.args.nodes.now in
    let no_more = c.has_no_more-is_added.ensures c.if-is_added.true in
    let none : own (get_or nodes c.args.place blank).kept ≡ nothing_ahead = rw (no_more.closed, no_more.never) refl in
    let Without : First → Type 0 = λ a. IsTreeWithout (kept_as nodes c.args.place blank c.args.kept) c.args.place a in
    subst Without (sym c.own.ensures) (kept_as-without nodes c.args.place blank c.args.kept c.requires.within
    (own_at-is nodes c.args.place blank c.requires.within ∙ none) c.requires.tree)

pub lift-requires-clause-others : goal.lift-requires-clause-others
lift-requires-clause-others c =
    kept_as-others c.args.nodes.now c.args.place blank c.args.kept c.requires.within
    (λ other apart. c.requires.tree other)

pub returns-then-is_added-clause-kept : goal.returns-then-is_added-clause-kept
returns-then-is_added-clause-kept c =
    c.raise.ensures.kept ∙ kept_as-kept c.args.nodes.now c.args.place blank c.args.kept

pub returns-else-is_added-clause-kept : goal.returns-else-is_added-clause-kept
returns-else-is_added-clause-kept c =
    c.lift.ensures.kept ∙ kept_as-kept c.args.nodes.now c.args.place blank c.args.kept
