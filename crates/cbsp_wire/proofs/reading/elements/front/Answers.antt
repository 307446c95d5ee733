use Rattle.std.proofs.Common.{rules}
use Rattle.cbsp_wire.proofs.Places.{number_low}
use Rattle.cbsp_wire.proofs.Walks.{front_sized}
use Rattle.cbsp_wire.proofs.reading.elements.front.Goals as goal

pub returns-clause-sized : goal.returns-clause-sized
returns-clause-sized c = front_sized _ _ _ _ c.size-size.ensures c.if-after-size.false c.split_at.ensures.front

pub returns-clause-low : goal.returns-clause-low
returns-clause-low c = number_low c.args.message_type _ (λ absent. search rules)
