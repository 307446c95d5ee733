use Rattle.std.proofs.Common.{rules, Some, arith}
use Rattle.std.proofs.lemmas.List.Elements.{All-pop}
use Rattle.tickets.specs.Draws.{IsSeatOf}
use Rattle.parallel_compile.proofs.stream.start.Goals as goal

pub spawn-worker-requires-after_bounds : goal.spawn-worker-requires-after_bounds
spawn-worker-requires-after_bounds g c κs within =
    let popped = All-pop (IsSeatOf c.args.counter.now) c.loop-seat.seats.items c.pop.new.self.items
    (Some c.in-Some.seat) c.in-Some.ensures.items c.loop-seat.invariant.each in
    (popped.1, (c.requires.limit, search rules))

pub loop-seat-preserved : goal.loop-seat-preserved
loop-seat-preserved g c =
    let popped = All-pop (IsSeatOf c.args.counter.now) c.loop-seat.seats.items c.pop.new.self.items
    (Some c.in-Some.seat) c.in-Some.ensures.items c.loop-seat.invariant.each in
    let left = c.in-Some.ensures.cases in
    record {
      many = omega (arith, left, c.push_reserved.ensures.len, c.loop-seat.invariant.many);
      room = omega (arith, c.push_reserved.ensures.capacity, c.loop-seat.invariant.room);
      each = popped.0;
    }
