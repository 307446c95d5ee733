use Rattle.session_check.proofs.Replayed.{left_of}
use Rattle.session_check.proofs.Serving.{IsServing}
use Rattle.session_check.proofs.alone.serve.Given as goal

abbrev pub invariant-requests : goal.invariant-requests
invariant-requests g l = IsServing l.book l.fn.books l.session l.books

abbrev pub decreases-requests : goal.decreases-requests
decreases-requests g l = left_of l.session
