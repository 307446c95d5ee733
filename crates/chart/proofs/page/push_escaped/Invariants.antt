use Rattle.std.proofs.Common.{◌≡◌, ◌++◌, drop}
use Rattle.chart.specs.Escape.{escaped}
use Rattle.chart.proofs.page.push_escaped.Given as goal

abbrev pub invariant-loop-octet : goal.invariant-loop-octet
invariant-loop-octet l = l.page.items ++ escaped (drop l.octet-index l.text) ≡ l.fn.page.items ++ escaped l.text
