use Rattle.std.proofs.Common.{[]}
use Rattle.book_texts.proofs.table.Table.with_names.Goals as goal

pub returns : goal.returns
returns c = c.in_ok-push_line.ensures [] c.empty-table.ensures
