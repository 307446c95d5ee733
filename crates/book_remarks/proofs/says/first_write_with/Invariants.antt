use Rattle.std.proofs.Common.{◌≡◌, drop, find}
use Rattle.book_remarks.specs.Remarks.{is_write_with}
use Rattle.book_remarks.proofs.says.first_write_with.Given as goal

abbrev pub invariant-loop-order : goal.invariant-loop-order
invariant-loop-order l =
    find (is_write_with l.alert) (drop l.order-index l.earlier) ≡ find (is_write_with l.alert) l.earlier
