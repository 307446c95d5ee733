-- How many pages a text takes is how many pieces it is cut into.
use Rattle.book_check.specs.Laws.{PagesAreCounted}
use Rattle.book_texts.proofs.PageCounts as counts
use Rattle.cbs_page.specs.Text.{alphabet_for}

-- a text's pages are as many as are counted
pub pages_counted : PagesAreCounted
pages_counted text pieces paging = counts.pages_counted (alphabet_for text) text pieces paging
