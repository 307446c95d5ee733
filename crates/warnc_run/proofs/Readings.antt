-- What handsets read of the tapes of records, one after the other.
use Rattle.std.proofs.Common.{◌≡◌, ◌≢◌, ℕ, ◌≤◌, ◌∙◌, List, [], ◌∷◌, map}
use Rattle.std.proofs.Common.{All, Option, ap, sym, subst, refl}
use Rattle.std.specs.Io.KnownBytes.{Keeps}
use Rattle.alert_book.specs.declared.book.order.Order.{Order}
use Rattle.alert_book.specs.declared.network.Origin.{Origin}
use Rattle.alert_book.specs.Book.{Contents}
use Rattle.alert_book.specs.Origin.{IsBookFrom}
use Rattle.book_runs.specs.LiveLaws.{LiveRunsAcceptWhatWasOrdered, LiveRunsShowTheBook}
use Rattle.book_runs.specs.Meant.{IsMeantIn}
use Rattle.asked_orders.specs.Asked.{orders_of_run}
use Rattle.bsc_table.specs.Promised.{LegalHistoriesAreServed}
use Rattle.bsc_table.specs.Record.{Record}
use Rattle.cbch_blocks.specs.RecordBlocks.{tape_of_record}
use Rattle.cbsp_wire.specs.declared.message.Cell.{Cell}
use Rattle.handset.specs.Tape.{IsTape, TapeReading}
use Rattle.report.specs.Rows.{AreOfOneCells}
use Rattle.report.specs.declared.fault.ReportFault.{ReportFault}
use Rattle.report.specs.declared.fault.ReportFault.TheVariants as report
use Rattle.warnc_run.specs.declared.fault.RunFault.{RunFault}
use Rattle.warnc_run.specs.declared.run.Books.TheVariants as books
use Rattle.warnc_run.specs.declared.product.Product.{Product}
use Rattle.warnc_run.specs.declared.product.ProductFault.TheVariants as product_fault
use Rattle.warnc_run.specs.declared.text.Text.{Text}
use Rattle.warnc_run.specs.Engine.{IsOutputFault}
use Rattle.warnc_run.specs.Faults.{HasReadFrom, IsOfBook}
use Rattle.warnc_run.specs.Products.{octets_of, reading_of_record, IsOutput}
use Rattle.warnc_run.specs.RunSteps.{octets_of_text, HasNoBookToRun, HaveRunLive, IsTextOf}
use Rattle.warnc_run.proofs.Written.{fault_of_reading, fault_of_run, of_any_product, of_no_product, run_of_book}

-- the records of a run give tapes
pub run_has_tapes : LiveRunsShowTheBook → (from : Origin) (input : List ℕ) (book : Contents) (slots parts : ℕ)
    (records shown : List Record)
    → slots ≤ 65535
    → IsBookFrom from input book
    → HaveRunLive book slots parts records
    → shown ≡ records
    → All (λ r. IsTape (tape_of_record r) (reading_of_record r)) shown
run_has_tapes law from input book slots parts records shown few is_book live is =
    let meant : All (IsMeantIn book) records =
    law from input book slots live.sessions records is_book few live.run in
    subst (All (λ (r : Record). IsTape (tape_of_record r) (reading_of_record r))) (sym is)
    (λ k d within. (meant k d within).tape)

-- of their readings the report can fail for memory alone
pub only_memory : (fault : ReportFault) (records shown : List Record) (readings given : List TapeReading)
    → shown ≡ records
    → readings ≡ map reading_of_record records
    → given ≡ readings
    → (fault ≡ report.Cells → ¬ AreOfOneCells shown given)
    → fault ≢ report.WriteFailed
    → fault ≡ report.Refused
only_memory report.Cells records shown readings given is read are differ not_written =
    absurd (differ refl (ap (map (λ (r : Record). r.cell)) is ∙ of_one records
    ∙ ap (map (λ (x : TapeReading). x.cell)) (sym (are ∙ read))))
  where
    of_one : (all : List Record)
        → map (λ (r : Record). r.cell) all ≡ map (λ (x : TapeReading). x.cell) (map reading_of_record all)
    of_one [] = refl
    of_one (r ∷ rest) = ap (λ (cells : List Cell). r.cell ∷ cells) (of_one rest)
only_memory report.WriteFailed records shown readings given is read are differ not_written = absurd (not_written refl)
only_memory report.Refused records shown readings given is read are differ not_written = refl

-- the text of a run of the book whose octets were read is what is made of it
pub text_made : LiveRunsShowTheBook → LiveRunsAcceptWhatWasOrdered → LegalHistoriesAreServed
    → (made : Product) (text : Text) (from : Origin) (input : List ℕ) (book : Contents) (slots parts : ℕ)
    (octets : List ℕ)
    → slots ≤ 65535
    → IsBookFrom from input book
    → ((slots : ℕ) (orders : List Order) (records : List Record)
    → octets_of_text text slots (orders_of_run orders records) records ≡ octets_of made from slots orders records)
    → IsTextOf text book slots parts octets
    → IsOutput made from slots parts input octets
unfolding run_of_book
text_made law orders keeps made text from input book slots parts octets few is_book same is = record {
  records = is.records;
  run = run_of_book law orders keeps from input book slots parts is.records few is_book is.live;
  written = is.made_of ∙ same slots book.orders is.records;
}

-- a fault of a run under way, before its text was written
pub fault_of_text : (made : Product) (from : Origin) (slots parts : ℕ) (first last old new : Option (List ℕ))
    (book : Contents) (fault : RunFault)
    → (read : HasReadFrom from first last)
    → read.book ≡ book
    → IsOfBook book slots parts fault
    → Keeps old new
    → IsOutputFault made (books.One from) slots parts first last old new (product_fault.Run fault)
fault_of_text made from slots parts first last old new book fault read is of_book kept =
    let other = of_any_product book slots parts made fault of_book in (
      other.0,
      fault_of_run from slots parts (IsOutput made from slots parts) first last old new book fault read is other.1 kept,
    )

-- and of the book that was to be read
pub fault_of_no_book : (made : Product) (from : Origin) (slots parts : ℕ) (first last old new : Option (List ℕ))
    (fault : RunFault)
    → HasNoBookToRun from first last fault
    → Keeps old new
    → IsOutputFault made (books.One from) slots parts first last old new (product_fault.Run fault)
fault_of_no_book made from slots parts first last old new fault is kept = (
  of_no_product from first last made fault is,
  fault_of_reading from slots parts (IsOutput made from slots parts) first last old new fault is kept,
)
