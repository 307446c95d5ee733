use Rattle.std.proofs.Common.{◌≡◌, true, take, All}
use Rattle.alert_book.specs.VersionSteps.{has_place, KeepsVersions}
use Rattle.alert_book.proofs.session.make_places.Given as goal

abbrev pub invariant-loop-place : goal.invariant-loop-place
invariant-loop-place l =
    KeepsVersions l.initial.versions l.versions
    × All (λ cell. has_place l.versions l.request.number cell ≡ true) (take l.place l.cell-items)
