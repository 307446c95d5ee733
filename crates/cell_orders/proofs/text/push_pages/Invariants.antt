use Rattle.std.proofs.Common.{◌≡◌, ◌++◌, [], map, take}
use Rattle.csv.specs.Records.{fields_of, partial_of}
use Rattle.cell_orders.specs.Text.{page_text}
use Rattle.cell_orders.proofs.text.push_pages.Given as goal

abbrev pub invariant-loop-content : goal.invariant-loop-content
invariant-loop-content l = record {
  whole : partial_of l.line ≡ [];
  fields : fields_of l.line ≡ fields_of l.fn.line ++ map page_text (take l.content-index l.contents);
}
