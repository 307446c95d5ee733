use Rattle.std.proofs.Common.{◌<◌, All}
use Rattle.page_tests.proofs.codes.septets_of.Given as goal

abbrev pub invariant-loop-octet : goal.invariant-loop-octet
invariant-loop-octet l = All (λ septet. septet < 128) l.septets.items
