use Rattle.std.proofs.Common.{◌≡◌, ℕ, ◌+◌, ◌-◌, ◌≤◌, List}
use Rattle.std.specs.Prelude.{Option}
use Rattle.gsmtap.specs.Listening.{IsKept}
use Rattle.gsmtap.proofs.listener.Listener.settle.Given as goal

abbrev pub invariant-slots : goal.invariant-slots
invariant-slots l = record {
  kept :
      (blocks : List (Option (List ℕ))) (slot : ℕ) → IsKept blocks slot l.fn.self →
      IsKept blocks (slot + l.moved) l.self;
  track : l.self.track ≡ l.fn.self.track;
  end : l.self.end ≡ l.fn.self.end;
  few : l.moved ≤ l.steps;
}

abbrev pub decreases-slots : goal.decreases-slots
decreases-slots l = l.steps - l.moved
