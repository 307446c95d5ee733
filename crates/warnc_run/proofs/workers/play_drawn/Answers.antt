use Rattle.std.proofs.Common.{◌-◌, ◌<◌, sym, subst}
use Rattle.tickets.specs.Draws.{SeatState}
use Rattle.parallel_compile.proofs.Drawn.{above, fewer_left}
use Rattle.warnc_run.proofs.workers.play_drawn.Goals as goal

pub loop-place-smaller : goal.loop-place-smaller
loop-place-smaller g c =
    let drawn = c.in-Some.ensures.some in
    subst (λ (s : SeatState). c.args.counter.now.limit - above s.drawn
    < c.args.counter.now.limit - above c.loop-place.seat.drawn) (sym drawn.1)
    (fewer_left c.args.counter.now.limit c.in-Some.place c.loop-place.seat.drawn drawn.0 c.in-Some.ensures.rising)
