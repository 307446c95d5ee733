use Rattle.std.proofs.Common.{◌≡◌, ℕ, ◌-◌, ◌<◌, ◌≤◌, List, arith, length, set, get_or, ap, subst, sym, ◌∙◌, refl}
use Rattle.std.proofs.lemmas.List.{length-set}
use Rattle.scheduler.specs.declared.turn.First.{First}
use Rattle.scheduler.specs.declared.progress.Progress.{Progress}
use Rattle.scheduler.specs.declared.tournament.Node.{Node}
use Rattle.scheduler.specs.QueueSteps.{joined, own, kept_in, with_below, IsNode}
use Rattle.scheduler.proofs.FirstTurn.{blank}
use Rattle.scheduler.proofs.Ended.{built_kept, built_node}
use Rattle.scheduler.proofs.Tree.{IsNode-past}
use Rattle.scheduler.proofs.tournament.build.Goals as goal

pub loop-left-init : goal.loop-left-init
loop-left-init c = (omega arith, (refl, λ k past. IsNode-past c.args.nodes.now k past))

pub loop-left-preserved : goal.loop-left-preserved
loop-left-preserved c =
    let nodes = c.loop-left.nodes in
    let place = c.loop-left.left - 1 in
    let inv = c.loop-left.invariant in
    let within : place < length nodes = omega (arith, inv.0, c.loop-left-test.true) in
    let k : Progress = (get_or nodes place blank).kept in
    let is : c.joined.result ≡ with_below nodes place (own k) = c.joined.ensures
    ∙ (ap (λ (a : First). joined a c.ahead_below-below.result) c.own-own.ensures
    ∙ ap (λ (a : First). joined (own k) a) c.ahead_below-below.ensures) in
    let put = ap (λ (a : First). set nodes place (record { kept = k; ahead = a })) is in
    let Kept : List Node → Type 0 = λ ns. kept_in ns ≡ kept_in c.args.nodes.now in
    let Made : List Node → Type 0 = λ ns. (i : ℕ) → place ≤ i → IsNode ns i in (
      omega (arith, within, length-set nodes place (record { kept = k; ahead = c.joined.result })),
      (
        subst Kept (sym put) (built_kept nodes place within ∙ inv.1.0),
        subst Made (sym put) (built_node nodes place within (λ i from. inv.1.1 i (omega (arith, from)))),
      ),
    )
