use Rattle.std.proofs.Common.{◌≡◌, drop, find, map}
use Rattle.verification.specs.Came.{came_asked}
use Rattle.verification.specs.Explained.{is_message_of}
use Rattle.verification.proofs.came.message_of.Given as goal

abbrev pub invariant-loop-message : goal.invariant-loop-message
invariant-loop-message l = record {
  found : find (λ k. is_message_of l.difference (came_asked k)) (drop l.message-index l.came)
      ≡ find (λ k. is_message_of l.difference (came_asked k)) l.came;
  asked : find (is_message_of l.difference) (map came_asked (drop l.message-index l.came))
      ≡ find (is_message_of l.difference) (map came_asked l.came);
}
