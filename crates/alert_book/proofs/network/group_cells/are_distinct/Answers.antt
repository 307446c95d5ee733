use Rattle.std.proofs.Common.{◌∙◌, sym, arith}
use Rattle.alert_book.proofs.KeptLaws.{seen_again, seen_more}
use Rattle.alert_book.proofs.network.group_cells.are_distinct.Goals as goal

pub returns-then-has : goal.returns-then-has
returns-then-has c =
    seen_again c.loop-cell.seen c.args.cells.now c.loop-cell.cell-index _ (omega (arith, c.loop-cell-test.true))
    c.loop-cell.invariant (sym c.has.ensures ∙ c.if-has.true)

pub loop-cell-preserved : goal.loop-cell-preserved
loop-cell-preserved c =
    seen_more c.loop-cell.seen c.add.new.self c.args.cells.now c.loop-cell.cell-index _
    (omega (arith, c.loop-cell-test.true)) c.loop-cell.invariant (sym c.has.ensures ∙ c.if-has.false)
    c.in_ok-add.ensures.added
