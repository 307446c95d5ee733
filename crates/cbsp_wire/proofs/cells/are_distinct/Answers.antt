use Rattle.std.proofs.Common.{◌≡◌, ◌↔◌, ◌∙◌, IsTrue, Bool, ap, subst, sym}
use Rattle.cbsp_wire.specs.CellLists.{AreDistinct}
use Rattle.cbsp_wire.specs.Range.{are_distinct}
use Rattle.cbsp_wire.proofs.CellLists.{distinct_is}
use Rattle.cbsp_wire.proofs.ItemLemmas.{same_cells}
use Rattle.cbsp_wire.proofs.cells.are_distinct.Goals as goal

pub returns-clause-means : goal.returns-clause-means
returns-clause-means c =
    let cells = c.args.cells.now in
    let value : c.are_distinct.result ≡ are_distinct cells =
    c.are_distinct.ensures ∙ ap are_distinct (same_cells c.new.result.left.now ∙ c.new.ensures) in
    subst (λ (b : Bool). IsTrue b ↔ AreDistinct cells) (sym value) (distinct_is cells)
