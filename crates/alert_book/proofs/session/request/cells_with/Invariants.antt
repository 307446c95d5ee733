use Rattle.std.proofs.Common.{◌≡◌, take}
use Rattle.alert_book.specs.SessionSteps.{cells_found}
use Rattle.alert_book.proofs.session.request.cells_with.Given as goal

abbrev pub invariant-loop-one : goal.invariant-loop-one
invariant-loop-one l = l.list.items ≡ cells_found l.version (take l.one-index l.found)
