use Rattle.std.proofs.Common.{rules, ◌≡◌, false, true}
use Rattle.parallel_compile.proofs.Putting.{one_left, one_put}
use Rattle.parallel_compile.proofs.place.put_all.Goals as goal

-- src/place.rt:60:5
pub loop-piece-preserved-then-not-put : goal.loop-piece-preserved-then-not-put
loop-piece-preserved-then-not-put c =
    let not : c.put.result ≡ false = search (rules, c.if-not-put.true) in
    let left = c.put.ensures.left not in
    rw (c.lesser-spoilt.ensures, left.1)
    (one_left _ _ _ _ c.in-Some.piece.0 c.in-Some.piece.1 c.loop-piece.invariant left.0)

-- src/place.rt:60:5
pub loop-piece-preserved : goal.loop-piece-preserved
loop-piece-preserved c =
    let is : c.put.result ≡ true = search (rules, c.if-not-put.false) in
    let put = c.put.ensures.put is in
    rw put.1 (one_put _ _ _ _ c.in-Some.piece.0 c.in-Some.piece.1 c.loop-piece.invariant put.0)
