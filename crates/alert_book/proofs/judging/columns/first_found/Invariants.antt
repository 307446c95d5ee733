use Rattle.std.proofs.Common.{◌≡◌, ◌+◌, drop}
use Rattle.csv.specs.Records.{fields_of}
use Rattle.alert_book.specs.Fields.{column}
use Rattle.alert_book.specs.Judging.{columns_after, first_found, update_found}
use Rattle.alert_book.proofs.judging.columns.first_found.Given as goal

abbrev pub invariant-loop-index : goal.invariant-loop-index
invariant-loop-index l =
    first_found l.declared.bounds l.verb l.declared.cells l.orders (fields_of l.fields)
    (update_found l.verb l.orders (column (fields_of l.fields) 2)) 1 (columns_after l.verb)
    ≡ first_found l.declared.bounds l.verb l.declared.cells l.orders (fields_of l.fields)
    (update_found l.verb l.orders (column (fields_of l.fields) 2)) (l.index + 1) (drop l.index l.columns)
