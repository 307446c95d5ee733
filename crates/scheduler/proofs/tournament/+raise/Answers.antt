use Rattle.std.proofs.Common.{◌≡◌, ◌-◌, ◌/◌, List, arith, set, get_or, ap, subst, sym, ◌∙◌}
use Rattle.std.proofs.lemmas.List.{length-set}
use Rattle.scheduler.specs.declared.turn.First.{First}
use Rattle.scheduler.specs.declared.progress.Progress.{Progress}
use Rattle.scheduler.specs.declared.tournament.Node.{Node}
use Rattle.scheduler.specs.QueueSteps.{joined, own, kept_in, with_below, IsTree, IsTreeWithout}
use Rattle.scheduler.proofs.FirstTurn.{blank}
use Rattle.scheduler.proofs.Tree.{put_top, put_kept, kept_same, own_at-is, ahead_at-is, all_right, raised_above}
use Rattle.scheduler.proofs.tournament.+raise.Goals as goal

pub returns-then-is-clause-tree : goal.returns-then-is-clause-tree
returns-then-is-clause-tree t c =
    let nodes = c.args.nodes.now in
    let same = rw c.if-is.true at c.is.ensures in
    let here = ahead_at-is nodes c.args.place blank c.requires.within in
    all_right nodes c.args.place (here ∙ sym same ∙ c.joined-ahead.ensures
    ∙ ap (λ (a : First). joined a c.args.more) (sym here) ∙ c.requires.missing.here) c.requires.missing.others

pub raise-requires : goal.raise-requires
raise-requires t c =
    let nodes = c.args.nodes.now in
    let k : Progress = (get_or nodes c.args.place blank).kept in
    let mine = own_at-is nodes c.args.place blank c.requires.within in
    let is : c.joined-ahead.result ≡ with_below nodes c.args.place (own k) = c.joined-ahead.ensures
    ∙ ap (λ (a : First). joined a c.args.more) (sym (ahead_at-is nodes c.args.place blank c.requires.within))
    ∙ c.requires.missing.here ∙ ap (with_below nodes c.args.place) mine in
    let put = ap (λ (a : First). set nodes c.args.place (record { kept = k; ahead = a })) is in
    let Without : List Node → Type 0 = λ ns. IsTreeWithout ns ((c.args.place - 1) / 8) c.args.more in (
      omega (arith, c.if-place-gt0.true),
      (
        omega (
          arith,
          length-set nodes c.args.place (record { kept = k; ahead = c.joined-ahead.result }),
          c.requires.within,
        ),
        subst Without (sym put) (raised_above nodes c.args.place k c.args.more c.requires.within c.if-place-gt0.true
            mine c.requires.missing),
      ),
    )

pub returns-then-place-gt0-clause-kept : goal.returns-then-place-gt0-clause-kept
returns-then-place-gt0-clause-kept t c =
    let nodes = c.args.nodes.now in
    let k : Progress = (get_or nodes c.args.place blank).kept in
    let is : c.joined-ahead.result ≡ with_below nodes c.args.place (own k) = c.joined-ahead.ensures
    ∙ ap (λ (a : First). joined a c.args.more) (sym (ahead_at-is nodes c.args.place blank c.requires.within))
    ∙ c.requires.missing.here
    ∙ ap (with_below nodes c.args.place) (own_at-is nodes c.args.place blank c.requires.within) in
    let put = ap (λ (a : First). set nodes c.args.place (record { kept = k; ahead = a })) is in
    c.raise.ensures.kept ∙ ap kept_in put ∙ put_kept nodes c.args.place k
    ∙ kept_same nodes c.args.place blank c.requires.within

pub returns-else-place-gt0-clause-tree : goal.returns-else-place-gt0-clause-tree
returns-else-place-gt0-clause-tree t c =
    let nodes = c.args.nodes.now in
    let k : Progress = (get_or nodes c.args.place blank).kept in
    let is : c.joined-ahead.result ≡ with_below nodes c.args.place (own k) = c.joined-ahead.ensures
    ∙ ap (λ (a : First). joined a c.args.more) (sym (ahead_at-is nodes c.args.place blank c.requires.within))
    ∙ c.requires.missing.here
    ∙ ap (with_below nodes c.args.place) (own_at-is nodes c.args.place blank c.requires.within) in
    let put = ap (λ (a : First). set nodes c.args.place (record { kept = k; ahead = a })) is in
    subst IsTree (sym put) (put_top nodes c.args.place k c.requires.within (omega (arith, c.if-place-gt0.false))
    c.requires.missing.others)
