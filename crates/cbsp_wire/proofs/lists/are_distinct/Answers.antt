use Rattle.std.proofs.Common.{◌∙◌, sym}
use Rattle.cbsp_wire.proofs.Rising.{rising_distinct}
use Rattle.cbsp_wire.proofs.lists.are_distinct.Goals as goal

pub returns-then-are_rising : goal.returns-then-are_rising
returns-then-are_rising g c =
    c.if-are_rising.true ∙ sym (rising_distinct (g.C.Cursor.cells c.args.list)
    (sym c.are_rising.ensures ∙ c.if-are_rising.true))
