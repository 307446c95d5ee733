use Rattle.std.proofs.Common.{◌≡◌, length}
use Rattle.gsmtap.specs.Blocks.{option_in}
use Rattle.gsmtap.proofs.options.option_in.Given as goal

abbrev pub invariant-options : goal.invariant-options
invariant-options l = option_in l.order l.code l.left ≡ option_in l.order l.code l.octets

abbrev pub decreases-options : goal.decreases-options
decreases-options l = length l.left
