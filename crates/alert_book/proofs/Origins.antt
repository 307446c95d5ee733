-- What a book, and a group's, have in common by their definitions.
use Rattle.std.proofs.Common.{ℕ, List}
use Rattle.alert_book.specs.declared.network.Origin.{Origin}
use Rattle.alert_book.specs.declared.network.Origin.TheVariants as origin
use Rattle.alert_book.specs.Book.{Contents, HavePages}
use Rattle.alert_book.specs.Origin.{IsBookFrom}

-- the orders have the pages of their texts
pub paged_from : (from : Origin) (input : List ℕ) (book : Contents) → IsBookFrom from input book →
    HavePages book.orders book.pages
paged_from origin.Book input book is = is.paged
paged_from (origin.Group group) input book is = is.paged
