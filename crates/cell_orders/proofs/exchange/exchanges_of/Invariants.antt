use Rattle.std.proofs.Common.{◌≡◌, [], take}
use Rattle.std.specs.List.{fold}
use Rattle.cell_orders.specs.Exchange.{after_heard}
use Rattle.cell_orders.specs.Steps.{IsConsistent, standing_of}
use Rattle.cell_orders.proofs.exchange.exchanges_of.Given as goal

abbrev pub invariant-loop-one : goal.invariant-loop-one
invariant-loop-one l = record {
  consistent : IsConsistent l.all;
  standing : standing_of l.all ≡ fold (after_heard l.cell) [] (take l.one-index l.heard);
}
