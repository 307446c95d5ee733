use Rattle.std.proofs.Common.{arith}
use Rattle.verification.proofs.FoundLaws.{put-none, put-passed, put-turn}
use Rattle.verification.proofs.judgement.put_each.Goals as goal

pub loop-found-init : goal.loop-found-init
loop-found-init c = record { many = omega arith; put = put-none c.args.cells.now }

pub loop-found-preserved-then-place-cells : goal.loop-found-preserved-then-place-cells
loop-found-preserved-then-place-cells c =
    let turn =
    put-turn c.args.cells.now c.loop-found.cells c.loop-found.yielded c.in-Some.found c.loop-found.place
    c.index-cells-place.result c.put_found.new.state c.loop-found.invariant.many c.loop-found.invariant.put
    (omega (arith, c.if-place-cells.true)) c.put_found.ensures in
    record { many = turn.0; put = turn.1 }

pub loop-found-preserved-else-place-cells : goal.loop-found-preserved-else-place-cells
loop-found-preserved-else-place-cells c =
    let passed =
    put-passed c.args.cells.now c.loop-found.cells c.loop-found.yielded c.in-Some.found c.loop-found.place
    c.loop-found.invariant.many c.loop-found.invariant.put (omega (arith, c.if-place-cells.false)) in
    record { many = passed.0; put = passed.1 }

pub loop-found-preserved-else-place-cells-2 : goal.loop-found-preserved-else-place-cells-2
loop-found-preserved-else-place-cells-2 c =
    let passed =
    put-passed c.args.cells.now c.loop-found.cells c.loop-found.yielded c.in-Some.found c.loop-found.place
    c.loop-found.invariant.many c.loop-found.invariant.put (omega (arith, c.if-place-cells.false)) in
    record { many = passed.0; put = passed.1 }

pub loop-found-preserved : goal.loop-found-preserved
loop-found-preserved c =
    let passed =
    put-passed c.args.cells.now c.loop-found.cells c.loop-found.yielded c.in-Some.found c.loop-found.place
    c.loop-found.invariant.many c.loop-found.invariant.put (omega (arith, c.if-place-cells.false)) in
    record { many = passed.0; put = passed.1 }
