use Rattle.alert_book.proofs.Writable.{requests_are_writable}
use Rattle.alert_book.proofs.TurnsAsk.{asks_once_per_order}
use Rattle.alert_book.proofs.TurnsComeOf.{requests_come_of_orders}
use Rattle.alert_book.proofs.TurnsEnd.{sessions_end}
use Rattle.alert_book.proofs.TurnsReplace.{last_accepted_is_replaced}
use Rattle.alert_book.proofs.laws.session_laws.Goals as goal

pub returns-clause-end : goal.returns-clause-end
returns-clause-end c = sessions_end

pub returns-clause-once_per_order : goal.returns-clause-once_per_order
returns-clause-once_per_order c = asks_once_per_order

pub returns-clause-come_of_orders : goal.returns-clause-come_of_orders
returns-clause-come_of_orders c = requests_come_of_orders

pub returns-clause-writable : goal.returns-clause-writable
returns-clause-writable c = requests_are_writable

pub returns-clause-last_accepted : goal.returns-clause-last_accepted
returns-clause-last_accepted c = last_accepted_is_replaced
