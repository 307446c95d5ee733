use Rattle.std.proofs.Common.{◌≡◌, ℕ, false, length, true}
use Rattle.std.specs.Prelude.{slice_index_or}
use Rattle.alert_book.specs.SessionSteps.{cells_found}
use Rattle.alert_book.proofs.session.request.marks_of.Given as goal

abbrev pub invariant-found : goal.invariant-found
invariant-found l =
    (version : ℕ) → slice_index_or l.marks version true ≡ false → cells_found version l.found ≡ cells_found version
    l.left

abbrev pub decreases-found : goal.decreases-found
decreases-found l = length l.left
