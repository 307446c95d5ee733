use Rattle.std.proofs.Common.{◌+◌, ◌-◌, length}
use Rattle.alert_book.specs.VersionSteps.{HasSameLists}
use Rattle.alert_book.proofs.session.versions.Versions.make_list.Given as goal

abbrev pub invariant-loop-self : goal.invariant-loop-self
invariant-loop-self l = HasSameLists l.initial.self-inside.by_alert.items l.self-inside.by_alert.items

abbrev pub decreases-loop-self : goal.decreases-loop-self
decreases-loop-self l = (l.number + 1) - length l.self-inside.by_alert.items
