use Rattle.std.proofs.Common.{◌≡◌, ◌≤◌, All, drop}
use Rattle.std.specs.Prelude.{fold, max}
use Rattle.admission.specs.declared.measure.TheConstants.{SCALE}
use Rattle.chart.proofs.facts.most_of.Given as goal

abbrev pub invariant-loop-load : goal.invariant-loop-load
invariant-loop-load l = record {
  greatest : fold max l.most (drop l.load-index l.loads) ≡ fold max 0 l.loads;
  within : All (λ load. load ≤ SCALE) l.loads → l.most ≤ SCALE;
}
