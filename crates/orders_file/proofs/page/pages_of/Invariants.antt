use Rattle.std.proofs.Common.{◌≡◌, ◌+◌, length, drop}
use Rattle.std.specs.Prelude.{All}
use Rattle.csv.specs.Records.{fields_of}
use Rattle.orders_file.specs.Page.{IsPage, pages_after, pages_of}
use Rattle.orders_file.proofs.page.pages_of.Given as goal

abbrev pub invariant-loop-place : goal.invariant-loop-place
invariant-loop-place l = record {
  so : pages_of (drop 11 (fields_of l.fields)) ≡ pages_after l.contents.items (drop l.place (fields_of l.fields));
  count : length l.contents.items + 11 ≡ l.place;
  each : All IsPage l.contents.items;
}
