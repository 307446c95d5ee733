use Rattle.session_check.proofs.Replayed.{IsReplaying, left_of}
use Rattle.session_check.proofs.session.is_pass_of_session.Given as goal

abbrev pub invariant-requests : goal.invariant-requests
invariant-requests l = IsReplaying l.book l.part l.parts l.records l.pass l.session l.left

abbrev pub decreases-requests : goal.decreases-requests
decreases-requests l = left_of l.session
