use Rattle.std.proofs.Common.{◌-◌, ◌<◌, sym, subst}
use Rattle.tickets.specs.Draws.{SeatState}
use Rattle.parallel_compile.proofs.Drawn.{above, fewer_left}
use Rattle.parallel_compile.proofs.player.send_drawn.Goals as goal

pub loop-number-smaller : goal.loop-number-smaller
loop-number-smaller g c =
    let drawn = c.in-Some.ensures.some in
    subst (λ (s : SeatState). c.args.counter.now.limit - above s.drawn
    < c.args.counter.now.limit - above c.loop-number.seat.drawn) (sym drawn.1)
    (fewer_left c.args.counter.now.limit c.in-Some.number c.loop-number.seat.drawn drawn.0 c.in-Some.ensures.rising)
