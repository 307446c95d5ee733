use Rattle.std.proofs.Common.{◌∙◌}
use Rattle.std.specs.Str.{chars}
use Rattle.cbs_page.specs.Text.{alphabet_for}
use Rattle.book_texts.proofs.PageCounts.{pages_counted}
use Rattle.book_texts.proofs.cost.pages_needed.Goals as goal

pub returns : goal.returns
returns c =
    let cost = c.cost_of_text.ensures in
    cost.pages ∙ pages_counted (alphabet_for (chars c.args.text.now)) (chars c.args.text.now) cost.pieces cost.paging
