use Rattle.std.proofs.Common.{◌≡◌, length}
use Rattle.alert_book.specs.NetworkSteps.{pages_kept}
use Rattle.alert_book.proofs.network.pages_kept.Given as goal

abbrev pub invariant-loop-paged : goal.invariant-loop-paged
invariant-loop-paged l =
    (l.place ≡ length l.yielded) × (l.kept.items ≡ pages_kept l.fn.orders l.yielded)
