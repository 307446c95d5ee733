use Rattle.std.proofs.Common.{◌≡◌, ◌<◌, List, arith, map, set, get_or, ap, subst, sym, ◌∙◌}
use Rattle.std.specs.List.{All}
use Rattle.std.proofs.lemmas.List.Elements.{All-set}
use Rattle.scheduler.specs.declared.turn.First.{First}
use Rattle.scheduler.specs.declared.progress.Progress.{Progress}
use Rattle.scheduler.specs.declared.tournament.Node.{Node}
use Rattle.scheduler.specs.QueueSteps.{seen_in, kept_in, seen, refreshed, node_with, joined, own, ahead_at}
use Rattle.scheduler.specs.QueueSteps.{own_at, IsNode}
use Rattle.scheduler.specs.QueueSteps.{IsRight}
use Rattle.scheduler.specs.QueueSteps.{HasTurn, KeepsNodesBut}
use Rattle.scheduler.proofs.FirstTurn.{blank, turn_at}
use Rattle.scheduler.proofs.Tree.{put_kept, put_others, put_node, put_nodes, put_own_here}
use Rattle.scheduler.proofs.Windows.{renewed_awake, IsRight-refreshed}
use Rattle.scheduler.proofs.Places.{right_at, seen_put_renewed, right_put}
use Rattle.scheduler.proofs.tournament.refresh.Goals as goal

pub refresh-requires-clause-turn : goal.refresh-requires-clause-turn
refresh-requires-clause-turn c =
    turn_at c.args.nodes.now c.args.place blank c.requires.within c.requires.turns

pub refresh-requires-clause-right : goal.refresh-requires-clause-right
refresh-requires-clause-right c =
    right_at c.args.slot c.args.nodes.now c.args.place blank c.requires.within c.requires.right

pub returns-clause-seen : goal.returns-clause-seen
returns-clause-seen c =
    let nodes = c.args.nodes.now in
    let k = refreshed c.args.slot (get_or nodes c.args.place blank).kept in
    let is : c.refresh.new.self ≡ node_with nodes c.args.place k = c.refresh.ensures.value
    ∙ ap (λ (a : First). record { kept = k; ahead = joined (own k) a }) c.ahead_below-below.ensures in
    let put = ap (λ (n : Node). set nodes c.args.place n) is in
    ap (seen_in c.args.slot) put ∙ (ap (map (seen c.args.slot)) (put_kept nodes c.args.place k)
    ∙ seen_put_renewed c.args.slot nodes c.args.place blank c.requires.within)

pub returns-clause-right : goal.returns-clause-right
returns-clause-right c =
    let nodes = c.args.nodes.now in
    let k = refreshed c.args.slot (get_or nodes c.args.place blank).kept in
    let is : c.refresh.new.self ≡ node_with nodes c.args.place k = c.refresh.ensures.value
    ∙ ap (λ (a : First). record { kept = k; ahead = joined (own k) a }) c.ahead_below-below.ensures in
    let put = ap (λ (n : Node). set nodes c.args.place n) is in
    let here = right_at c.args.slot nodes c.args.place blank c.requires.within c.requires.right in
    let Right : List Node → Type 0 = λ ns. All (IsRight c.args.slot) (kept_in ns) in
    subst Right (sym put) (right_put c.args.slot nodes c.args.place k
    (IsRight-refreshed (get_or nodes c.args.place blank).kept c.args.slot here (omega arith)) c.requires.right)

pub returns-clause-turns : goal.returns-clause-turns
returns-clause-turns c =
    let nodes = c.args.nodes.now in
    let k = refreshed c.args.slot (get_or nodes c.args.place blank).kept in
    let is : c.refresh.new.self ≡ node_with nodes c.args.place k = c.refresh.ensures.value
    ∙ ap (λ (a : First). record { kept = k; ahead = joined (own k) a }) c.ahead_below-below.ensures in
    let put = ap (λ (n : Node). set nodes c.args.place n) is in
    let Turns : List Progress → Type 0 = λ ks. All HasTurn ks in
    subst Turns (sym (ap kept_in put ∙ put_kept nodes c.args.place k)) (All-set HasTurn (kept_in nodes) c.args.place k
    (subst HasTurn (ap (λ (n : Node). n.kept) is) c.refresh.ensures.turn) c.requires.turns)

pub returns-clause-others : goal.returns-clause-others
returns-clause-others c =
    let nodes = c.args.nodes.now in
    let k = refreshed c.args.slot (get_or nodes c.args.place blank).kept in
    let is : c.refresh.new.self ≡ node_with nodes c.args.place k = c.refresh.ensures.value
    ∙ ap (λ (a : First). record { kept = k; ahead = joined (own k) a }) c.ahead_below-below.ensures in
    let put = ap (λ (n : Node). set nodes c.args.place n) is in
    λ n apart. ap (λ ns. ahead_at ns n) put ∙ put_others nodes c.args.place k n apart

pub returns-clause-awake : goal.returns-clause-awake
returns-clause-awake c =
    let nodes = c.args.nodes.now in
    let k = refreshed c.args.slot (get_or nodes c.args.place blank).kept in
    let is : c.refresh.new.self ≡ node_with nodes c.args.place k = c.refresh.ensures.value
    ∙ ap (λ (a : First). record { kept = k; ahead = joined (own k) a }) c.ahead_below-below.ensures in
    let put = ap (λ (n : Node). set nodes c.args.place n) is in
    let here = right_at c.args.slot nodes c.args.place blank c.requires.within c.requires.right in
    let its = ap (λ ns. own_at ns c.args.place) put ∙ put_own_here nodes c.args.place k c.requires.within
    in
    let Awake : First → Type 0 = λ a. c.args.slot < a.wake in
    subst Awake (sym its) (renewed_awake (get_or nodes c.args.place blank).kept c.args.slot here.fit.some_period
    (omega arith))

pub returns-clause-node : goal.returns-clause-node
returns-clause-node c =
    let nodes = c.args.nodes.now in
    let k = refreshed c.args.slot (get_or nodes c.args.place blank).kept in
    let is : c.refresh.new.self ≡ node_with nodes c.args.place k = c.refresh.ensures.value
    ∙ ap (λ (a : First). record { kept = k; ahead = joined (own k) a }) c.ahead_below-below.ensures in
    let put = ap (λ (n : Node). set nodes c.args.place n) is in
    let Node_at : List Node → Type 0 = λ ns. IsNode ns c.args.place in
    subst Node_at (sym put) (put_node nodes c.args.place k c.requires.within)

pub returns-clause-nodes : goal.returns-clause-nodes
returns-clause-nodes c =
    let nodes = c.args.nodes.now in
    let k = refreshed c.args.slot (get_or nodes c.args.place blank).kept in
    let is : c.refresh.new.self ≡ node_with nodes c.args.place k = c.refresh.ensures.value
    ∙ ap (λ (a : First). record { kept = k; ahead = joined (own k) a }) c.ahead_below-below.ensures in
    let put = ap (λ (n : Node). set nodes c.args.place n) is in
    let Keeps : List Node → Type 0 = λ ns. KeepsNodesBut nodes ns c.args.place in
    subst Keeps (sym put) (put_nodes nodes c.args.place k c.requires.within)
