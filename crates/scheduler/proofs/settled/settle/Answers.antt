use Rattle.std.proofs.Common.{ℕ, ◌<◌, ◌≤◌, ◌+◌, ◌++◌, List, length, drop, take, get_or, ap, subst, sym, ◌∙◌}
use Rattle.scheduler.specs.declared.tournament.Node.{Node}
use Rattle.scheduler.specs.QueueSteps.{kept_in, HasNoMore, AreSettled}
use Rattle.scheduler.proofs.Ended.{settled_more}
use Rattle.scheduler.proofs.settled.settle.Goals as goal

pub returns-clause-settled : goal.returns-clause-settled
returns-clause-settled c = λ slot settled.
    let nodes = c.args.nodes.now in
    let cut = c.split_at_mut-later in
    let again = c.split_at_mut-left in
    let count = c.ended_in_front-count.result in
    let Few : List Node → Type 0 = λ ns. count ≤ length ns in
    let NoMore : List Node → Type 0 = λ ns. (k : ℕ) (d : Node) → k < count → HasNoMore (get_or ns k d).kept in
    let front = again.ensures.front ∙ ap (take count) cut.ensures.back in
    let left = again.ensures.back ∙ ap (drop count) cut.ensures.back in
    let new = c.build_trees.new.nodes in
    let parts = ap (λ ns. ns ++ (take count (drop c.args.past nodes) ++ new)) (sym cut.ensures.front)
    ∙ ap (λ ns. cut.result.0.now ++ (ns ++ new)) (sym front) in
    subst (AreSettled slot (c.args.past + count)) parts (settled_more slot c.args.past count nodes new
    (subst Few cut.ensures.back c.ended_in_front-count.ensures.within) (subst NoMore cut.ensures.back
    c.ended_in_front-count.ensures.ended) (c.build_trees.ensures.kept ∙ ap kept_in left) c.build_trees.ensures.trees
    settled)
