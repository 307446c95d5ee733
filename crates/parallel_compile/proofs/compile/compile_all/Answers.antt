use Rattle.parallel_compile.proofs.Gathering.{are_tapes, if_ok}
use Rattle.parallel_compile.proofs.compile.compile_all.Goals as goal

-- src/compile.rt:41:1
pub returns-clause-ok : goal.returns-clause-ok
returns-clause-ok g c =
    if_ok _ _ c.gather.result
    (λ tapes is. are_tapes c.args.records.now c.in_ok-pieces.pieces.items tapes.items c.in_ok-pieces.ensures.tapes is)
    c.gather.ensures.ok
