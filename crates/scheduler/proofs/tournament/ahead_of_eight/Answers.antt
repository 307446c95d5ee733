use Rattle.std.proofs.Common.{◌+◌, ◌*◌, sym, ◌∙◌}
use Rattle.scheduler.proofs.Tree.{among_both, below_is}
use Rattle.scheduler.proofs.tournament.ahead_of_eight.Goals as goal

pub returns : goal.returns
returns c =
    let nodes = c.args.nodes.now in
    let from = c.args.place * 8 + 1 in
    c.joined.ensures ∙ rw (c.ahead_of_four.ensures, c.ahead_of_four-2.ensures) (among_both nodes from 4 4
    ∙ sym (below_is nodes c.args.place))
