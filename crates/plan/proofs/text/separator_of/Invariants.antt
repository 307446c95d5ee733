use Rattle.std.proofs.Common.{◌≡◌, drop}
use Rattle.plan.specs.PlanText.{separator_from, separator_of}
use Rattle.plan.proofs.text.separator_of.Given as goal

abbrev pub invariant-loop-octet : goal.invariant-loop-octet
invariant-loop-octet l = separator_of l.text ≡ separator_from l.at (drop l.octet-index l.text)
