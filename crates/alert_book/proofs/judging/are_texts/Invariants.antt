use Rattle.std.proofs.Common.{◌≡◌, drop}
use Rattle.std.specs.List.{list_all}
use Rattle.std.specs.Str.{is_utf8}
use Rattle.csv.specs.Records.{fields_of}
use Rattle.alert_book.specs.Fields.{are_texts}
use Rattle.alert_book.proofs.judging.are_texts.Given as goal

abbrev pub invariant-loop-place : goal.invariant-loop-place
invariant-loop-place l = are_texts (fields_of l.fields) ≡ list_all is_utf8 (drop l.place (fields_of l.fields))
