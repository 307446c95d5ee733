use Rattle.std.proofs.Common.{ℕ, List, ◌++◌, take}
use Rattle.book_texts.specs.TextsOutput.{header_line, AreLinesOf}
use Rattle.book_texts.specs.TextsSteps.{IsTable}
use Rattle.book_texts.proofs.texts.table_of.Given as goal

abbrev pub invariant-loop-order : goal.invariant-loop-order
invariant-loop-order l =
    (lines : List ℕ) × AreLinesOf l.pages (take l.order-index l.orders) lines
    × IsTable l.table (header_line l.pages ++ lines)
