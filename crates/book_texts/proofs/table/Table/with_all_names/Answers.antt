use Rattle.std.proofs.Common.{[]}
use Rattle.book_texts.proofs.table.Table.with_all_names.Goals as goal

pub returns : goal.returns
returns c = λ pages. c.in_ok-push_line.ensures [] c.empty-table.ensures
