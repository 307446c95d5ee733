use Rattle.std.proofs.Common.{arith, length, sym, ◌<◌}
use Rattle.std.proofs.lemmas.List.Edits.{map_over_more}
use Rattle.chart.specs.Kept.{kept_stopped}
use Rattle.chart.proofs.KeptLaws.{messages_stay}
use Rattle.chart.proofs.kept.stop_by.Goals as goal

pub loop-place-preserved : goal.loop-place-preserved
loop-place-preserved c =
    let inside : c.loop-place.place < length c.args.all.now.items = omega arith in
    rw c.stopped_by.ensures (map_over_more (kept_stopped c.args.entry.now) c.args.all.now.items
    c.loop-place.all.items c.loop-place.place _ inside c.loop-place.invariant c.index.ensures)

pub returns-then-not-stops : goal.returns-then-not-stops
returns-then-not-stops c =
    sym (messages_stay c.args.entry.now c.args.all.now.items (sym c.if-not-stops.ensures))
