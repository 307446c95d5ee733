use Rattle.std.proofs.Common.{◌≡◌, ◌++◌, take, string_bytes}
use Rattle.std.specs.List.{flat_map}
use Rattle.verification.specs.RowText.{header_text, row_text}
use Rattle.verification.proofs.text.text_of.Given as goal

abbrev pub invariant-loop-row : goal.invariant-loop-row
invariant-loop-row l = string_bytes l.text ≡ header_text ++ flat_map row_text (take l.row-index l.rows)
