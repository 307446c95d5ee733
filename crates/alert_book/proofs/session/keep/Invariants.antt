use Rattle.std.proofs.Common.{◌≡◌, ℕ, take}
use Rattle.cbsp_wire.specs.declared.message.Cell.{Cell}
use Rattle.alert_book.specs.Session.{version_after}
use Rattle.alert_book.specs.VersionSteps.{has_place, kept_version}
use Rattle.alert_book.proofs.session.keep.Given as goal

abbrev pub invariant-loop-place : goal.invariant-loop-place
invariant-loop-place l =
    ((n : ℕ) (c : Cell) → kept_version l.versions n c
    ≡ version_after l.request l.outcome (take l.place l.cell-items) n c (kept_version l.initial.versions n c))
    × ((n : ℕ) (c : Cell) → has_place l.versions n c ≡ has_place l.initial.versions n c)
