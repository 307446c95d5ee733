-- What the check of a book, or of a network book, says of it. Own.
use Rattle.std.specs.Prelude.{◌≡◌, ℕ, ◌+◌, List, [], ◌∷◌, Option, Some, None, count_by, length}
use Rattle.std.specs.Option.{option_or}
use Rattle.book_texts.specs.Cost.{pages_needed}
use Rattle.cbs_page.specs.Text.{IsPagingOf}
use Rattle.alert_book.specs.Book.{Contents, fault_at, kind_of, IsBook, IsWrong, Rows}
use Rattle.alert_book.specs.Network.{IsNetwork, IsWrongNetwork}
use Rattle.alert_book.specs.declared.judging.bounds.Bounds.{Bounds}
use Rattle.alert_book.specs.declared.judging.bounds.Bounds.TheVariants as bounds
use Rattle.alert_book.specs.declared.fault.BookFault.{BookFault}
use Rattle.alert_book.specs.declared.fault.BookFaultKind.TheVariants as kind
use Rattle.alert_book.specs.declared.judging.Verdict.{Verdict}
use Rattle.alert_book.specs.declared.judging.Verdict.TheVariants as verdict
use Rattle.book_check.specs.Checked.{IsChecked, IsCheckedBy, IsClean, IsCleanBy}
use Rattle.book_check.specs.Told.{is_told}

-- the first fault of a row's own, where the first of the rows has this number
abbrev pub first_wrong : (row : ℕ) → List Verdict → Option BookFault
first_wrong row [] = None
first_wrong row (verdict.Right ∷ more) = first_wrong (row + 1) more
first_wrong row (verdict.Wrong found ∷ more) = Some (fault_at row (kind_of found.fault))
first_wrong row (verdict.Unsendable why ∷ more) = first_wrong (row + 1) more

-- the first of a text
abbrev pub first_unsendable : (row : ℕ) → List Verdict → Option BookFault
first_unsendable row [] = None
first_unsendable row (verdict.Right ∷ more) = first_unsendable (row + 1) more
first_unsendable row (verdict.Wrong found ∷ more) = first_unsendable (row + 1) more
first_unsendable row (verdict.Unsendable why ∷ more) = Some (fault_at row (kind.Text why))

-- the fault of a book by its verdicts: faults of rows come before those of texts
abbrev pub first_fault : List Verdict → Option BookFault
first_fault verdicts = option_or (first_wrong 1 verdicts) (first_unsendable 1 verdicts)

-- octets in which nothing is found are a book
abbrev pub CleanAreBooks : Type 0
CleanAreBooks = (input output : List ℕ) → IsClean input output → (book : Contents) × IsBook input book

-- and in a book nothing is found
abbrev pub BooksAreClean : Type 0
BooksAreClean = (input output : List ℕ) (count : ℕ) (book : Contents)
    → IsBook input book → IsChecked input count output → count ≡ 0

-- where something is found, the fault of the first row that has its own, or else of the first text, is that for which
-- the octets are no book
abbrev pub FirstIsTheBooks : Type 0
FirstIsTheBooks = (input output : List ℕ) (count : ℕ) (checked : IsChecked input count output) (f : BookFault)
    → first_fault checked.verdicts ≡ Some f → IsWrong input f

-- octets in which nothing is found are a network book, whichever group reads it
abbrev pub CleanAreNetworks : Type 0
CleanAreNetworks = (group : ℕ) (input output : List ℕ) → IsCleanBy bounds.Network input output
    → (rows : Rows) × IsNetwork group input rows

-- and in a network book nothing is found
abbrev pub NetworksAreClean : Type 0
NetworksAreClean = (group : ℕ) (input output : List ℕ) (count : ℕ) (rows : Rows)
    → IsNetwork group input rows → IsCheckedBy bounds.Network input count output → count ≡ 0

-- where something is found, the first is the fault for which the octets are no network book, whichever group reads it
abbrev pub FirstIsTheNetworks : Type 0
FirstIsTheNetworks = (group : ℕ) (input output : List ℕ) (count : ℕ)
    (checked : IsCheckedBy bounds.Network input count output) (f : BookFault)
    → first_fault checked.verdicts ≡ Some f → IsWrongNetwork group input f

abbrev pub FaultsHaveAFirst : Type 0
FaultsHaveAFirst = (verdicts : List Verdict) → first_fault verdicts ≡ None
    → count_by is_told verdicts ≡ 0

-- the check of octets as a book is one, and that as a network book: the number of faults, and the table
abbrev pub ChecksAreOne : Type 0
ChecksAreOne = (bound : Bounds) (input output another : List ℕ) (count other : ℕ)
    → IsCheckedBy bound input count output → IsCheckedBy bound input other another
    → (count ≡ other) × (output ≡ another)

-- the number of pages that is told of a text is that of the pieces into which it is cut
abbrev pub PagesAreCounted : Type 0
PagesAreCounted = (text : List ℕ) (pieces : List (List ℕ)) → IsPagingOf text pieces
    → length pieces ≡ pages_needed text
