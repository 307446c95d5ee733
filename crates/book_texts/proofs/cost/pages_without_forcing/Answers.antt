use Rattle.std.proofs.Common.{◌∙◌}
use Rattle.std.specs.Str.{chars}
use Rattle.cbs_page.specs.declared.coding.Alphabet.TheVariants.{Gsm}
use Rattle.book_texts.proofs.PageCounts.{pages_counted}
use Rattle.book_texts.proofs.cost.pages_without_forcing.Goals as goal

pub returns : goal.returns
returns c =
    let filled = c.filling_of.ensures.filled in
    filled.pages ∙ pages_counted Gsm (chars c.args.text.now) filled.pieces filled.paging
