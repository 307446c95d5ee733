use Rattle.cell_orders.proofs.ExchangeLaws.{all_have_theirs, each_has_one}
use Rattle.cell_orders.proofs.InOrder.{are_in_order}
use Rattle.cell_orders.proofs.laws.exchange_laws.Goals as goal

pub returns : goal.returns
returns c = record { each_has_one = each_has_one; all_have_theirs = all_have_theirs; in_order = are_in_order }
