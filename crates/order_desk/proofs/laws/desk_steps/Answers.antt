use Rattle.order_desk.proofs.Steps.{orders, plays, plays_of_orders, statuses}
use Rattle.order_desk.proofs.laws.desk_steps.Goals as goal

pub returns-clause-orders : goal.returns-clause-orders
returns-clause-orders c = orders

pub returns-clause-plays_of_orders : goal.returns-clause-plays_of_orders
returns-clause-plays_of_orders c = plays_of_orders

pub returns-clause-plays : goal.returns-clause-plays
returns-clause-plays c = plays

pub returns-clause-statuses : goal.returns-clause-statuses
returns-clause-statuses c = statuses
