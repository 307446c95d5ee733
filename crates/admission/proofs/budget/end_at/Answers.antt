use Rattle.std.proofs.Common.{◌==◌, arith, length, ◌<◌}
use Rattle.std.proofs.lemmas.List.{get_or_default}
use Rattle.std.proofs.lemmas.List.Edits.{map_over_more}
use Rattle.admission.specs.declared.budget.Held.{Held}
use Rattle.admission.specs.Table.{ends_if}
use Rattle.admission.proofs.budget.end_at.Goals as goal

pub loop-held-preserved : goal.loop-held-preserved
loop-held-preserved c =
    let inside : c.loop-held.held-index < length c.loop-held.table = omega arith in
    rw c.end_if.ensures (map_over_more (λ (h : Held). ends_if (h.entry == c.args.entry) c.args.slot h) c.args.table.now
    c.loop-held.table c.loop-held.held-index _ (omega arith) c.loop-held.invariant (get_or_default _ _ _ _ inside))
