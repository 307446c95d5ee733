use Rattle.std.proofs.Common.{ℕ, ◌<◌}
use Rattle.book_runs.specs.Sessions.{IsRightPass}
use Rattle.session_check.proofs.sessions.check_sessions.Given as goal

abbrev pub invariant-loop-place : goal.invariant-loop-place
invariant-loop-place l = (lesser : ℕ) → lesser < l.place → IsRightPass l.book l.parts l.records l.passes lesser
