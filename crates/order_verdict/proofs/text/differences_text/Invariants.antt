use Rattle.std.proofs.Common.{◌≡◌, ◌++◌, take, string_bytes}
use Rattle.std.specs.List.{flat_map}
use Rattle.verification.specs.RowText.{header_text}
use Rattle.order_verdict.specs.Text.{difference_line}
use Rattle.order_verdict.proofs.text.differences_text.Given as goal

abbrev pub invariant-loop-difference : goal.invariant-loop-difference
invariant-loop-difference l =
    string_bytes l.text ≡ header_text ++ flat_map (difference_line l.cell) (take l.difference-index l.found)
