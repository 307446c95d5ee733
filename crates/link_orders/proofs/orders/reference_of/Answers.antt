use Rattle.link_orders.proofs.Medians.{reference_of_some}
use Rattle.link_orders.proofs.orders.reference_of.Goals as goal

pub returns-in-Some : goal.returns-in-Some
returns-in-Some c =
    reference_of_some c.args.cell c.args.calls.now c.args.begins.items c.in-Some.mark c.in-Some.ensures.median
