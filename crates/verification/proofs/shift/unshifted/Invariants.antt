use Rattle.std.proofs.Common.{◌≡◌, take}
use Rattle.std.specs.List.{flat_map}
use Rattle.verification.specs.Shift.{unshifted_page}
use Rattle.verification.proofs.shift.unshifted.Given as goal

abbrev pub invariant-loop-page : goal.invariant-loop-page
invariant-loop-page l = l.pages.items ≡ flat_map (unshifted_page l.shift) (take l.page-index l.sent)
