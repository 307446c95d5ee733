use Rattle.std.proofs.Common.{◌≡◌, ◌∙◌, ◌+◌, ◌-◌, ◌<◌, List, drop, length, ap, sym, arith, rules}
use Rattle.bsc_table.specs.declared.entry.Entry.{Entry}
use Rattle.report.specs.RowSteps.{stop_in}
use Rattle.report.proofs.StepLaws.{dropped, stops-each}
use Rattle.report.proofs.stops.stops_of.Goals as goal

pub loop-place-preserved : goal.loop-place-preserved
loop-place-preserved c =
    let next : c.loop-place.place - 1 + 1 ≡ c.loop-place.place = omega arith in
    let within : c.loop-place.place - 1 < length c.args.log.now = omega arith in
    let later : List Entry = drop c.loop-place.place c.args.log.now in
    record {
      bounded = omega arith;
      places = search rules;
      seen = λ pair. c.in_ok-add.ensures later c.loop-place.invariant.seen pair
          ∙ ap (λ (entries : List Entry). stop_in entries pair)
          (sym (dropped c.args.log.now (c.loop-place.place - 1) c.loop-place.place c.index-log-place.result next within
          c.index-log-place.is));
      each = stops-each c.args.log.now c.loop-place.stops.items (c.loop-place.place - 1) c.loop-place.place
          c.index-log-place.result c.of.result next c.loop-place.invariant.bounded c.loop-place.invariant.places
          c.index-log-place.is
          (c.of.ensures later c.loop-place.invariant.seen)
          c.loop-place.invariant.each;
    }
