use Rattle.std.proofs.Common.{◌≡◌, ◌+◌, drop}
use Rattle.csv.specs.Records.{fields_of}
use Rattle.alert_book.specs.Judging.{no_text_column, no_text_from}
use Rattle.alert_book.proofs.judging.no_text_column.Given as goal

abbrev pub invariant-loop-place : goal.invariant-loop-place
invariant-loop-place l =
    no_text_column (fields_of l.fields) ≡ no_text_from (l.place + 1) (drop l.place (fields_of l.fields))
