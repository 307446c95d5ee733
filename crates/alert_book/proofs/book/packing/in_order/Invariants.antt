use Rattle.std.proofs.Common.{◌≡◌, Ok, map}
use Rattle.alert_book.proofs.book.packing.in_order.Given as goal

abbrev pub invariant-loop-packed : goal.invariant-loop-packed
invariant-loop-packed l = l.yielded ≡ map Ok l.pages.items
