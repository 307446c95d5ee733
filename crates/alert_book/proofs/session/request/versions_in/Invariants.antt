use Rattle.std.proofs.Common.{◌≡◌, map, take}
use Rattle.alert_book.specs.SessionSteps.{cell_version, live_by}
use Rattle.alert_book.proofs.session.request.versions_in.Given as goal

abbrev pub invariant-loop-place : goal.invariant-loop-place
invariant-loop-place l = l.found.items ≡ map (cell_version (live_by l.live) l.number) (take l.place l.cells)
