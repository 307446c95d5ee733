-- What calls from C answer that run a book, in one thread and with one session. The numbers are those of
-- include/warnc.h, with 13 no book, 15 no slots; and 14 a run that ended early, which no call answers. Own.
use Rattle.std.specs.Prelude.{◌≡◌, ◌≢◌, ◌⊎◌, ℕ, ◌<◌, Bool, None, if◌then◌else◌, List}
use Rattle.alert_book.specs.Book.{RefusesOctets}
use Rattle.alert_book.specs.declared.fault.BookFault.{BookFault}
use Rattle.alert_book.specs.declared.fault.BookFaultKind.{BookFaultKind}
use Rattle.alert_book.specs.declared.fault.BookFaultKind.TheVariants as kind
use Rattle.alert_book.specs.declared.network.Origin.TheVariants as origin
use Rattle.chart.specs.declared.view.View.{View}
use Rattle.chart.specs.declared.word.Language.TheVariants as language
use Rattle.order_desk.specs.declared.fault.DeskFault.TheVariants as desk
use Rattle.order_desk.specs.declared.settle.SettleFault.TheVariants as settle
use Rattle.report.specs.declared.row.Columns.TheVariants as columns
use Rattle.report.specs.declared.row.Layout.{Layout}
use Rattle.warnc_run.specs.Engine.{IsProductOf}
use Rattle.warnc_run.specs.declared.fault.RunFault.{RunFault}
use Rattle.warnc_run.specs.declared.fault.RunFault.TheVariants as run
use Rattle.warnc_run.specs.declared.product.Product.{Product}
use Rattle.warnc_run.specs.declared.run.Books.TheVariants as books
use Rattle.warnc_c.specs.Calls.{Gives}

-- how a report is laid out, without times
abbrev pub layout_of : Bool → Layout
layout_of full = record { columns = if full then columns.Full else columns.Plain; start = None }

-- the chart of all cells and the whole run, in English and without times
abbrev pub english_chart : View
english_chart = record {
  cell = None;
  part = None;
  wording = record { language = language.English; start = None };
}

-- the number of a fault of a book that is in memory
abbrev pub number_of_book_fault : BookFaultKind → ℕ
number_of_book_fault kind.ReadFailed = 5
number_of_book_fault kind.Refused = 5
number_of_book_fault other = 13

-- the number of a fault of a run. Those of octets that are run alone are of the book or of memory: none of them has 14
abbrev pub number_of_run_fault : RunFault → ℕ
number_of_run_fault (run.Book f) = number_of_book_fault f.kind
number_of_run_fault (run.Desk (desk.Memory done)) = 5
number_of_run_fault (run.Desk other) = 14
number_of_run_fault (run.Settle settle.Refused) = 5
number_of_run_fault (run.Settle other) = 14
number_of_run_fault (run.Compile f) = 5
number_of_run_fault run.Refused = 5
number_of_run_fault (run.NoGroup groups) = 14
number_of_run_fault (run.Write failed) = 14

-- the row of a fault of a book
abbrev pub TellsRow : RunFault → (row : ℕ) → Type 0
TellsRow (run.Book f) row = row ≡ f.row
TellsRow other row = ⊥

-- what is made of a book's run is given
pub record GivesMade (made : Product) (slots : ℕ) (book : List ℕ) (number : ℕ) (old new : List ℕ) (written : ℕ)
    : Type 0 where
  pub output : List ℕ
  pub is : IsProductOf made (books.One origin.Book) slots 1 book output
  pub given : Gives output number old new written

-- octets are no book, by the fault of this row
pub record IsNoBookAt (book : List ℕ) (row : ℕ) : Type 0 where
  pub fault : BookFault
  pub is : RefusesOctets book fault
  pub not_memory : fault.kind ≢ kind.Refused
  pub at : row ≡ fault.row

-- what is made of the run of a book, or why nothing is
abbrev pub AnswersRun : Product → (slots : ℕ) (book : List ℕ) → (number : ℕ) → (old new : List ℕ) → (written row : ℕ)
    → Type 0
AnswersRun made slots book number old new written row =
    ((slots ≡ 0) × (number ≡ 15))
    ⊎ ((0 < slots) × GivesMade made slots book number old new written)
    ⊎ ((0 < slots) × IsNoBookAt book row × (number ≡ 13))
    ⊎ (number ≡ 5)
