use Rattle.std.proofs.Common.{◌≡◌, ◌++◌, ℕ, List, length}
use Rattle.gsmtap.specs.Walk.{AreLeft}
use Rattle.gsmtap.proofs.frontier.Frontier.take_pieces.Given as goal

abbrev pub invariant-pieces : goal.invariant-pieces
invariant-pieces g l =
    let taking = g.T.TakesPackets.taking in
    let HasTaken = g.T.TakesPackets.HasTaken in
    record {
      taken :
          (given : g.T.TakesPackets.Given) (input : List ℕ) →
          AreLeft (taking given) (HasTaken given) input l.fn.self l.octets →
          AreLeft (taking given) (HasTaken given) input l.self l.left;
      front : (front : List ℕ) × (l.octets ≡ front ++ l.left);
    }

abbrev pub decreases-pieces : goal.decreases-pieces
decreases-pieces g l = length l.left
