use Rattle.std.proofs.Common.{[]}
use Rattle.book_remarks.proofs.table.Table.of_groups.Goals as goal

pub returns : goal.returns
returns c = c.in_ok-push_group_names.ensures [] c.empty-table.ensures
