use Rattle.std.proofs.Common.{◌≡◌, [], drop, take}
use Rattle.verification.specs.Difference.{again_after}
use Rattle.verification.proofs.asked.Asked.first_again.Given as goal

abbrev pub invariant-loop-place : goal.invariant-loop-place
invariant-loop-place l =
    again_after l.self.stop (take l.place l.pages) (drop l.place l.pages) ≡ again_after l.self.stop [] l.pages
