use Rattle.std.proofs.Common.{[]}
use Rattle.warnc_inspect.proofs.pages.page_columns.Goals as goal

pub returns : goal.returns
returns c = c.in_ok-push_row.ensures [] c.in_ok-table.ensures
