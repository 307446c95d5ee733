use Rattle.alert_book.proofs.OneBook.{books_are_right, faults_are_one}
use Rattle.alert_book.proofs.FewRows.{rows_are_few}
use Rattle.alert_book.proofs.GroupOrders.{all_books_are_one, all_cells_are_valid, all_orders_are_few}
use Rattle.alert_book.specs.Row.{row_of}
use Rattle.alert_book.proofs.OneAnswer.{one_meaning, right_or_wrong}
use Rattle.alert_book.proofs.laws.book_laws.Goals as goal

pub returns-clause-one : goal.returns-clause-one
returns-clause-one c = one_meaning row_of

pub returns-clause-right_or_wrong : goal.returns-clause-right_or_wrong
returns-clause-right_or_wrong c = right_or_wrong row_of

pub returns-clause-few : goal.returns-clause-few
returns-clause-few c = rows_are_few

pub returns-clause-cells : goal.returns-clause-cells
returns-clause-cells c = all_cells_are_valid

pub returns-clause-orders : goal.returns-clause-orders
returns-clause-orders c = all_orders_are_few

pub returns-clause-one_book : goal.returns-clause-one_book
returns-clause-one_book c = all_books_are_one

pub returns-clause-book_or_fault : goal.returns-clause-book_or_fault
returns-clause-book_or_fault c = books_are_right

pub returns-clause-one_fault : goal.returns-clause-one_fault
returns-clause-one_fault c = faults_are_one
