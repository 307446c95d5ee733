use Rattle.std.proofs.Common.{◌≡◌, ◌<◌, ◌+◌, ◌∙◌, List, length, get_or, take, subst, sym, ap, replicate, false}
use Rattle.cbsp_wire.specs.declared.message.Cell.{Cell}
use Rattle.cbch_blocks.specs.RecordBlocks.{tape_of_record}
use Rattle.cbch_blocks.specs.Slots.{silent_record}
use Rattle.parallel_compile.specs.declared.filling.Filling.{Filling}
use Rattle.parallel_compile.specs.StreamSteps.{AreFillings, pieces_in}
use Rattle.parallel_compile.proofs.Filled.{one_more}
use Rattle.parallel_compile.proofs.board.Board.open.Goals as goal

-- not looked at: the list has an item at the place
abbrev none : Cell
none = record { lac = 0; ci = 0 }

pub loop-cell-preserved : goal.loop-cell-preserved
loop-cell-preserved c =
    let cells = c.args.desk.now.cells in
    let slots = c.args.desk.now.slots in
    let i = c.loop-cell.cell-index in
    let f : Filling = c.in_ok-open.field-0 in
    let within : i < length cells = subst (λ (own : List Cell). i < length own) c.cells-cells.ensures.cells
    c.loop-cell-test.true in
    let tape : f.tape ≡ tape_of_record (silent_record (get_or cells i none) slots) =
    c.in_ok-open.ensures.tape
    ∙ (ap (λ (own : List Cell). tape_of_record (silent_record (get_or own i none) c.slots-slots.result))
    c.cells-cells.ensures.cells
    ∙ ap (λ n. tape_of_record (silent_record (get_or cells i none) n)) c.slots-slots.ensures) in
    let came = c.in_ok-open.ensures.came ∙ ap (λ n. replicate (pieces_in n) false) c.slots-slots.ensures in
    subst (AreFillings (record { cells = take (i + 1) cells; slots = slots })) (sym c.in_ok-push.ensures.items)
    (one_more cells slots i none c.loop-cell.fillings.items f c.loop-cell.invariant within tape came)
