use Rattle.std.proofs.Common.{◌∙◌, rules, Some, sym, []}
use Rattle.alert_book.specs.Cells.{cells_listed}
use Rattle.alert_book.proofs.PartLaws.{none_after, more_after, last_after, listed_cut, listed_whole}
use Rattle.alert_book.proofs.book.cells.cells_listed.Goals as goal

pub returns-in-None : goal.returns-in-None
returns-in-None c =
    let cut = listed_cut _ c.in-Some.part c.in-Some.rest c.in-Some.ensures.cases in
    none_after c.loop-part.cells.items c.args.text.now c.loop-part.left.now c.in-Some.part.now
    (cells_listed c.in-Some.rest.now)
    c.loop-part.invariant.0 cut (sym c.cell_named.ensures ∙ c.in-None.is)

pub loop-part-preserved : goal.loop-part-preserved
loop-part-preserved c =
    let cut = listed_cut _ c.in-Some.part c.in-Some.rest c.in-Some.ensures.cases in (
      rw (c.in_ok-push-in-Some-cell_named.ensures.items)
          (more_after c.loop-part.cells.items c.args.text.now c.loop-part.left.now c.in-Some.part.now
          (cells_listed c.in-Some.rest.now) _ c.loop-part.invariant.0 cut
          (sym c.cell_named.ensures ∙ c.in-Some-cell_named.is)),
      search rules,
    )

pub returns-in-None-cell_named : goal.returns-in-None-cell_named
returns-in-None-cell_named c =
    let whole = listed_whole _ (rw c.in_default.is at c.split_once.ensures.cases) in
    none_after c.loop-part.cells.items c.args.text.now c.loop-part.left.now c.loop-part.left.now (Some [])
    c.loop-part.invariant.0 whole (sym c.cell_named-2.ensures ∙ c.in-None-cell_named.is)

pub returns : goal.returns
returns c =
    let whole = listed_whole _ (rw c.in_default.is at c.split_once.ensures.cases) in
    rw (c.in_ok-push-in-Some-cell_named-2.ensures.items)
    (last_after c.loop-part.cells.items c.args.text.now c.loop-part.left.now c.loop-part.left.now _
    c.loop-part.invariant.0 whole (sym c.cell_named-2.ensures ∙ c.in-Some-cell_named-2.is))
