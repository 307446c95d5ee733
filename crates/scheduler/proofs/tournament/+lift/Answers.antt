use Rattle.std.proofs.Common.{◌≡◌, ◌-◌, ◌/◌, List, arith, set, get_or, ap, subst, sym, ◌∙◌}
use Rattle.std.proofs.lemmas.List.{length-set}
use Rattle.scheduler.specs.declared.turn.First.{First}
use Rattle.scheduler.specs.declared.progress.Progress.{Progress}
use Rattle.scheduler.specs.declared.tournament.Node.{Node}
use Rattle.scheduler.specs.QueueSteps.{joined, own, kept_in, with_below, IsTree, IsTreeBut}
use Rattle.scheduler.proofs.FirstTurn.{blank}
use Rattle.scheduler.proofs.Tree.{put_above, put_top, put_kept, kept_same, own_at-is, ahead_at-is, all_right}
use Rattle.scheduler.proofs.tournament.+lift.Goals as goal

pub returns-then-is-clause-tree : goal.returns-then-is-clause-tree
returns-then-is-clause-tree t c =
    let nodes = c.args.nodes.now in
    let k : Progress = (get_or nodes c.args.place blank).kept in
    let is : c.joined-ahead.result ≡ with_below nodes c.args.place (own k) = c.joined-ahead.ensures
    ∙ ap (λ (a : First). joined a c.ahead_below.result) c.own.ensures ∙ ap (λ (a : First). joined (own k) a)
    c.ahead_below.ensures in
    let same = rw c.if-is.true at c.is.ensures in
    all_right nodes c.args.place (ahead_at-is nodes c.args.place blank c.requires.within ∙ sym same ∙ is
    ∙ ap (with_below nodes c.args.place) (sym (own_at-is nodes c.args.place blank c.requires.within))) c.requires.others

pub lift-requires : goal.lift-requires
lift-requires t c =
    let nodes = c.args.nodes.now in
    let k : Progress = (get_or nodes c.args.place blank).kept in
    let is : c.joined-ahead.result ≡ with_below nodes c.args.place (own k) = c.joined-ahead.ensures
    ∙ ap (λ (a : First). joined a c.ahead_below.result) c.own.ensures ∙ ap (λ (a : First). joined (own k) a)
    c.ahead_below.ensures in
    let put = ap (λ (a : First). set nodes c.args.place (record { kept = k; ahead = a })) is in
    let But : List Node → Type 0 = λ ns. IsTreeBut ns ((c.args.place - 1) / 8) in (
      omega (arith, c.if-place-gt0.true),
      (
        omega (
          arith,
          length-set nodes c.args.place (record { kept = k; ahead = c.joined-ahead.result }),
          c.requires.within,
        ),
        subst But (sym put) (put_above nodes c.args.place k c.requires.within c.if-place-gt0.true c.requires.others),
      ),
    )

pub returns-then-place-gt0-clause-kept : goal.returns-then-place-gt0-clause-kept
returns-then-place-gt0-clause-kept t c =
    let nodes = c.args.nodes.now in
    let k : Progress = (get_or nodes c.args.place blank).kept in
    let is : c.joined-ahead.result ≡ with_below nodes c.args.place (own k) = c.joined-ahead.ensures
    ∙ ap (λ (a : First). joined a c.ahead_below.result) c.own.ensures ∙ ap (λ (a : First). joined (own k) a)
    c.ahead_below.ensures in
    let put = ap (λ (a : First). set nodes c.args.place (record { kept = k; ahead = a })) is in
    c.lift.ensures.kept ∙ ap kept_in put ∙ put_kept nodes c.args.place k
    ∙ kept_same nodes c.args.place blank c.requires.within

pub returns-else-place-gt0-clause-tree : goal.returns-else-place-gt0-clause-tree
returns-else-place-gt0-clause-tree t c =
    let nodes = c.args.nodes.now in
    let k : Progress = (get_or nodes c.args.place blank).kept in
    let is : c.joined-ahead.result ≡ with_below nodes c.args.place (own k) = c.joined-ahead.ensures
    ∙ ap (λ (a : First). joined a c.ahead_below.result) c.own.ensures ∙ ap (λ (a : First). joined (own k) a)
    c.ahead_below.ensures in
    let put = ap (λ (a : First). set nodes c.args.place (record { kept = k; ahead = a })) is in
    subst IsTree (sym put) (put_top nodes c.args.place k c.requires.within (omega (arith, c.if-place-gt0.false))
    c.requires.others)
