use Rattle.std.proofs.Common.{◌+◌, ◌≤◌, ◌++◌, length-append, arith, rules}
use Rattle.std.proofs.KnownBytes.{Consumes-trans}
use Rattle.gsmtap.specs.Walk.{IsWalkOf}
use Rattle.warnc_air.proofs.Parts.{failed_part, last_part, on_err, taken_more}
use Rattle.warnc_air.proofs.reading.walk_over.Goals as goal

pub returns-in_err-count-clause-err : goal.returns-in_err-count-clause-err
returns-in_err-count-clause-err g c =
    let walks = c.loop-read.invariant.walks in
    let fits : c.loop-read.read + c.min-room.result ≤ 1073741825 =
    omega (arith, c.min-room.ensures, c.loop-read-test.true) in
    on_err c.from_residual.result
    (failed_part _ _ _ walks.0 c.loop-read.read c.min-room.result walks.1 walks.2 c.in_err-count.ensures.err fits)

pub returns-then-count-room-clause-walks : goal.returns-then-count-room-clause-walks
returns-then-count-room-clause-walks g c =
    let walks = c.loop-read.invariant.walks in
    let fits : c.loop-read.read + c.min-room.result ≤ 1073741825 =
    omega (arith, c.min-room.ensures, c.loop-read-test.true) in
    last_part (IsWalkOf g.T.TakesPackets.taking g.T.TakesPackets.HasTaken) c.args.walk.now c.loop-read.walk
    c.walk_part.new.walk _ _ _ walks.0 c.loop-read.read
    c.in_ok-count.count c.min-room.result walks.1 walks.2 walks.3 c.in_ok-count.ensures.walks c.if-count-room.true fits

pub loop-read-preserved : goal.loop-read-preserved
loop-read-preserved g c =
    let walks = c.loop-read.invariant.walks in
    let part = c.in_ok-count.ensures.walks in
    record {
      walks = (
        walks.0 ++ part.octets,
        Consumes-trans _ _ _ walks.0 part.octets walks.1 part.reads.consumed,
        omega (arith, length-append walks.0 part.octets, walks.2, part.many),
        taken_more (IsWalkOf g.T.TakesPackets.taking g.T.TakesPackets.HasTaken) c.args.walk.now c.loop-read.walk
            c.walk_part.new.walk walks.0 part.octets walks.3 part.taken,
      );
      bound = omega (arith, c.in_ok-count.ensures.bound, c.min-room.ensures, c.loop-read-test.true);
      not_failed = λ some. search rules;
      failed_stays = λ failed. search rules;
    }
