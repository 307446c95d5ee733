-- The table of differences, as CSV. Own.
use Rattle.std.specs.Prelude.{ℕ, List, ◌++◌, codes}
use Rattle.std.specs.Fmt.{decimal}
use Rattle.std.specs.List.{flat_map}
use Rattle.cbsp_wire.specs.declared.message.Cell.{Cell}
use Rattle.verification.specs.RowText.{header_text, kind_text, serial_text}
use Rattle.order_verdict.specs.declared.difference.OrderKind.{OrderKind}
use Rattle.order_verdict.specs.declared.difference.OrderKind.TheVariants as order_kinds
use Rattle.order_verdict.specs.declared.difference.OrderDifference.{OrderDifference}

-- what a kind of difference is called; a name with a comma stands in quotation marks
abbrev pub order_kind_text : OrderKind → List ℕ
order_kind_text (order_kinds.Air kind) = kind_text kind
order_kind_text order_kinds.MoreThanOrdered = codes "more than ordered"
order_kind_text (order_kinds.Answer told air) =
    codes "\"answer " ++ (decimal told ++ (codes ", air " ++ (decimal air ++ codes "\"")))
order_kind_text order_kinds.NoAnswer = codes "no answer"

abbrev pub difference_line : Cell → OrderDifference → List ℕ
difference_line cell d =
    decimal cell.lac ++ (codes "," ++ (decimal cell.ci ++ (codes "," ++ (decimal d.id ++ (codes ","
    ++ (serial_text d.serial ++ (codes "," ++ (decimal d.slot ++ (codes "," ++ (order_kind_text d.kind
    ++ codes "\n"))))))))))

-- the table of differences, that of a cell without a tape, and that of one whose tape has another number of slots
abbrev pub differences_text : Cell → List OrderDifference → List ℕ
differences_text cell found = header_text ++ flat_map (difference_line cell) found

abbrev pub no_tape_line : Cell → List ℕ
no_tape_line cell = decimal cell.lac ++ (codes "," ++ (decimal cell.ci ++ codes ",,,,no tape\n"))

abbrev pub no_tape_text : Cell → List ℕ
no_tape_text cell = header_text ++ no_tape_line cell

abbrev pub other_slots_line : Cell → List ℕ
other_slots_line cell = decimal cell.lac ++ (codes "," ++ (decimal cell.ci ++ codes ",,,,other slots\n"))

abbrev pub other_slots_text : Cell → List ℕ
other_slots_text cell = header_text ++ other_slots_line cell
