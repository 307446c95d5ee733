use Rattle.std.proofs.Common.{sym, subst}
use Rattle.parallel_compile.specs.Streamed.{AreTapesFor}
use Rattle.parallel_compile.proofs.Filled.{tapes_for}
use Rattle.parallel_compile.proofs.board.Board.tapes.Goals as goal

pub returns-clause-ok : goal.returns-clause-ok
returns-clause-ok c =
    subst (AreTapesFor c.args.desk.now) (sym c.in_ok-tapes.ensures.ok)
    (tapes_for c.args.desk.now c.args.self.fillings.items c.requires)
