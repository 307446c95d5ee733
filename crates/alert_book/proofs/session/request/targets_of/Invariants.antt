use Rattle.std.proofs.Common.{◌≡◌, filter, map}
use Rattle.std.specs.List.{range_with_len}
use Rattle.alert_book.specs.Session.{has_cells, target_of}
use Rattle.alert_book.specs.SessionSteps.{live_by}
use Rattle.alert_book.proofs.session.request.targets_of.Given as goal

abbrev pub invariant-loop-version : goal.invariant-loop-version
invariant-loop-version l =
    l.targets.items ≡ filter has_cells (map (target_of (live_by l.live) l.number l.cells) (range_with_len 0 l.version))
