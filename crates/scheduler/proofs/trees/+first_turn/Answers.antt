use Rattle.std.proofs.Common.{ℕ, ◌<◌, ◌++◌, arith, length, min, ap, subst, sym, ◌∙◌, refl}
use Rattle.std.proofs.lemmas.List.{length-append}
use Rattle.scheduler.specs.declared.turn.First.{First}
use Rattle.scheduler.specs.declared.scheduled.Scheduled.{Scheduled}
use Rattle.scheduler.specs.QueueSteps.{seen_in, AreInTrees, AreBehind, AreRising, IsLeastTurn, IsNotBehind}
use Rattle.scheduler.proofs.Ended.{seen_both}
use Rattle.scheduler.proofs.FirstTurn.{tree_least}
use Rattle.scheduler.proofs.Forest.{All-behind, cut_at, cut_same, order_near, trees_far, trees_both, rising_parts}
use Rattle.scheduler.proofs.Forest.{least_near, least_both}
use Rattle.scheduler.proofs.trees.+first_turn.Goals as goal

pub returns-then-later-eq0-clause-least : goal.returns-then-later-eq0-clause-least
returns-then-later-eq0-clause-least t c =
    let Least : First → Type 0 = λ a. IsLeastTurn c.args.slot c.renew_all.new.nodes a.first in
    subst Least (sym c.ahead_at.ensures) (tree_least c.args.slot c.renew_all.new.nodes c.renew_all.ensures.kept
    c.renew_all.ensures.awake)

pub renew_all-requires-2-clause-kept : goal.renew_all-requires-2-clause-kept
renew_all-requires-2-clause-kept t c =
    let nodes = c.args.nodes.now in
    let cut = c.split_at_mut-near in
    let some : 0 < c.args.later = omega (arith, c.if-later-eq0.false) in
    let is_cut = cut_at c.args.later c.min.result nodes cut.result.0.now cut.result.1.now (c.min.ensures
    ∙ ap (λ n. min n (length nodes)) c.tree_size.ensures) cut.ensures.value cut.ensures.front_len in
    order_near c.args.slot c.args.later cut.result.0.now cut.result.1.now some is_cut
    (subst (AreInTrees c.args.slot c.args.later) cut.ensures.value c.requires.kept)

pub comes_first-requires-clause-right : goal.comes_first-requires-clause-right
comes_first-requires-clause-right t c =
    let nodes = c.args.nodes.now in
    let cut = c.split_at_mut-near in
    let some : 0 < c.args.later = omega (arith, c.if-later-eq0.false) in
    let is_cut = cut_at c.args.later c.min.result nodes cut.result.0.now cut.result.1.now (c.min.ensures
    ∙ ap (λ n. min n (length nodes)) c.tree_size.ensures) cut.ensures.value cut.ensures.front_len in
    (trees_far c.args.slot c.args.later cut.result.0.now cut.result.1.now some is_cut
    (subst (AreInTrees c.args.slot c.args.later) cut.ensures.value c.requires.kept)).right

pub comes_first-requires-clause-turns : goal.comes_first-requires-clause-turns
comes_first-requires-clause-turns t c =
    let nodes = c.args.nodes.now in
    let cut = c.split_at_mut-near in
    let some : 0 < c.args.later = omega (arith, c.if-later-eq0.false) in
    let is_cut = cut_at c.args.later c.min.result nodes cut.result.0.now cut.result.1.now (c.min.ensures
    ∙ ap (λ n. min n (length nodes)) c.tree_size.ensures) cut.ensures.value cut.ensures.front_len in
    (trees_far c.args.slot c.args.later cut.result.0.now cut.result.1.now some is_cut
    (subst (AreInTrees c.args.slot c.args.later) cut.ensures.value c.requires.kept)).turns

pub comes_first-requires-clause-ranks : goal.comes_first-requires-clause-ranks
comes_first-requires-clause-ranks t c =
    let cut = c.split_at_mut-near in
    let slot = c.args.slot in
    All-behind (λ (x : Scheduled). IsNotBehind c.args.foremost x.item.rank) (seen_in slot cut.result.0.now)
    (seen_in slot cut.result.1.now) (subst (AreBehind c.args.foremost) (ap (seen_in slot) cut.ensures.value
    ∙ seen_both slot cut.result.0.now cut.result.1.now) c.requires.ranks)

pub returns-then-comes_first-clause-kept : goal.returns-then-comes_first-clause-kept
returns-then-comes_first-clause-kept t c =
    let nodes = c.args.nodes.now in
    let cut = c.split_at_mut-near in
    let new = c.renew_all-2.new.nodes in
    let some : 0 < c.args.later = omega (arith, c.if-later-eq0.false) in
    let is_cut = cut_at c.args.later c.min.result nodes cut.result.0.now cut.result.1.now (c.min.ensures
    ∙ ap (λ n. min n (length nodes)) c.tree_size.ensures) cut.ensures.value cut.ensures.front_len in
    trees_both c.args.slot c.args.later new cut.result.1.now some (cut_same c.args.later cut.result.0.now
    cut.result.1.now new cut.result.1.now (omega (arith, c.renew_all-2.auto.nodes)) refl is_cut)
    c.renew_all-2.ensures.kept (trees_far c.args.slot c.args.later cut.result.0.now cut.result.1.now some is_cut
    (subst (AreInTrees c.args.slot c.args.later) cut.ensures.value c.requires.kept))

pub returns-then-comes_first-clause-least : goal.returns-then-comes_first-clause-least
returns-then-comes_first-clause-least t c =
    let new = c.renew_all-2.new.nodes in
    let Least : First → Type 0 = λ a. IsLeastTurn c.args.slot new a.first in
    least_near c.args.slot new c.split_at_mut-near.result.1.now c.ahead_at-first.result.first
    (subst Least (sym c.ahead_at-first.ensures) (tree_least c.args.slot new c.renew_all-2.ensures.kept
    c.renew_all-2.ensures.awake)) (c.comes_first.ensures c.if-comes_first.true)

pub first_turn-requires : goal.first_turn-requires
first_turn-requires t c =
    let nodes = c.args.nodes.now in
    let cut = c.split_at_mut-near in
    let slot = c.args.slot in
    let some : 0 < c.args.later = omega (arith, c.if-later-eq0.false) in
    let is_cut = cut_at c.args.later c.min.result nodes cut.result.0.now cut.result.1.now (c.min.ensures
    ∙ ap (λ n. min n (length nodes)) c.tree_size.ensures) cut.ensures.value cut.ensures.front_len in (
      omega (arith, some, c.decreases),
      (
        c.requires.within,
        (
          omega (
            arith,
            c.requires.room,
            c.renew_all-2.auto.listed,
            ap length cut.ensures.value,
            length-append cut.result.0.now cut.result.1.now,
          ),
          (
            trees_far slot c.args.later cut.result.0.now cut.result.1.now some is_cut
                (subst (AreInTrees slot c.args.later) cut.ensures.value c.requires.kept),
            (
              (rising_parts cut.result.0.now cut.result.1.now (subst AreRising cut.ensures.value c.requires.rising)).1,
              All-behind (λ (x : Scheduled). IsNotBehind c.args.foremost x.item.rank) (seen_in slot cut.result.0.now)
                  (seen_in slot cut.result.1.now) (subst (AreBehind c.args.foremost) (ap (seen_in slot)
                  cut.ensures.value ∙ seen_both slot cut.result.0.now cut.result.1.now) c.requires.ranks),
            ),
          ),
        ),
      ),
    )

pub returns-clause-kept : goal.returns-clause-kept
returns-clause-kept t c =
    let nodes = c.args.nodes.now in
    let cut = c.split_at_mut-near in
    let new = c.renew_all-2.new.nodes in
    let some : 0 < c.args.later = omega (arith, c.if-later-eq0.false) in
    let is_cut = cut_at c.args.later c.min.result nodes cut.result.0.now cut.result.1.now (c.min.ensures
    ∙ ap (λ n. min n (length nodes)) c.tree_size.ensures) cut.ensures.value cut.ensures.front_len in
    trees_both c.args.slot c.args.later new c.first_turn.new.nodes some (cut_same c.args.later cut.result.0.now
    cut.result.1.now new c.first_turn.new.nodes (omega (arith, c.renew_all-2.auto.nodes))
    (omega (arith, c.first_turn.auto.nodes)) is_cut) c.renew_all-2.ensures.kept c.first_turn.ensures.kept

pub returns-clause-least : goal.returns-clause-least
returns-clause-least t c =
    let new = c.renew_all-2.new.nodes in
    let Least : First → Type 0 = λ a. IsLeastTurn c.args.slot new a.first in
    let Both : ℕ → Type 0 = λ n. IsLeastTurn c.args.slot (new ++ c.first_turn.new.nodes) n in
    subst Both (sym c.min-2.ensures) (least_both c.args.slot new c.first_turn.new.nodes c.ahead_at-first.result.first
    c.first_turn.result (subst Least (sym c.ahead_at-first.ensures) (tree_least c.args.slot new
    c.renew_all-2.ensures.kept c.renew_all-2.ensures.awake)) c.first_turn.ensures.least)
