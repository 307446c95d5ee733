use Rattle.std.proofs.Common.{arith, map, take, subst, sym, ◌+◌}
use Rattle.std.specs.List.{AllZip}
use Rattle.verification.specs.declared.judgement.CellState.{CellState}
use Rattle.verification.specs.Judgement.{IsFoundOf}
use Rattle.verification.specs.Rows.{tape_of}
use Rattle.verification.proofs.FoundLaws.{found-next}
use Rattle.verification.proofs.judgement.judgement_of.Goals as goal

pub loop-state-preserved : goal.loop-state-preserved
loop-state-preserved c =
    subst (AllZip (IsFoundOf c.args.layout (tape_of c.args.cell c.args.slots c.args.blocks.now))
    (map (λ (s : CellState). s.run) (take (c.loop-state.state-index + 1) c.args.cells.now)))
    (sym c.in_ok-push.ensures.items)
    (found-next (IsFoundOf c.args.layout (tape_of c.args.cell c.args.slots c.args.blocks.now)) c.args.cells.now
    c.loop-state.state-index c.state-item.result c.loop-state.found.items c.in_ok-found_of.field-0
    (omega (arith, c.loop-state-test.true)) c.state-item.is c.loop-state.invariant c.in_ok-found_of.ensures)
