use Rattle.std.proofs.Common.{◌≡◌, length}
use denote.Shadow.{shadow}
use denote.Text.{Utf8}
use Rattle.alert_book.specs.Cells.{cells_listed}
use Rattle.alert_book.proofs.PartLaws.{after_cells}
use Rattle.alert_book.proofs.book.cells.cells_listed.Given as goal

abbrev pub invariant-loop-part : goal.invariant-loop-part
invariant-loop-part l =
    (cells_listed l.fn.text ≡ after_cells l.cells.items (cells_listed l.left)) × shadow (Utf8 l.left)

abbrev pub decreases-loop-part : goal.decreases-loop-part
decreases-loop-part l = length l.left
