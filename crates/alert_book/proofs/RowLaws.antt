-- A row that updates an alert, once its fields are read.
use Rattle.std.proofs.Common.{◌≡◌, ℕ, List, count_by, Ok, refl}
use Rattle.alert_book.specs.declared.book.order.Order.{Order}
use Rattle.alert_book.specs.declared.book.order.Sending.{Sending}
use Rattle.alert_book.specs.Fields.{column, known_name, number, sending_by}
use Rattle.alert_book.specs.Row.{is_update_of, update_row_by, update_with, FieldCells}

-- a row whose fields mean so much updates its alert
pub update_is : (row : ℕ) (cells_of : FieldCells) (orders : List Order) (fields : List (List ℕ)) (at : ℕ)
    (first : Order) (sending : Sending) (name : List ℕ) (earlier : ℕ) →
    name ≡ column fields 2 → earlier ≡ count_by (is_update_of name) orders →
    number 0 65535 (column fields 1) ≡ Ok at → known_name orders name ≡ Ok first →
    sending_by cells_of fields 3 ≡ Ok sending →
    update_row_by row cells_of orders fields ≡ update_with row at name first earlier sending
update_is row cells_of orders fields at first sending name earlier n e a f s = rw (e, n, a, rw n at f, s) refl
