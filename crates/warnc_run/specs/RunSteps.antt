-- Steps of a run (own). The contracts of private functions alone speak of them.
use Rattle.std.specs.Prelude.{◌≡◌, ◌≢◌, ⊤, ℕ, ◌<◌, ◌≤◌, List, [], ◌∷◌, ◌++◌, length, map, take, slice_index_or, All}
use Rattle.std.specs.Prelude.{Option, Result, Err, IsOk}
use Rattle.std.specs.Io.KnownBytes.{Appends}
use Rattle.std.specs.List.{flat_map}
use Rattle.alert_book.specs.declared.network.Origin.{Origin}
use Rattle.alert_book.specs.Book.{Contents}
use Rattle.alert_book.specs.Origin.{IsBookFrom, LacksGroup, RefusesFrom}
use Rattle.asked_orders.specs.Asked.{orders_of_run}
use Rattle.bsc_table.specs.Record.{Record}
use Rattle.cbch_blocks.specs.RecordBlocks.{tape_of_record}
use Rattle.book_runs.specs.Live.{IsLiveRun}
use Rattle.book_runs.specs.Run.{Exchange}
use Rattle.cell_loads.specs.LoadsText.{loads_text}
use Rattle.chart.specs.ChartText.{chart_part, chart_text}
use Rattle.parallel_compile.specs.declared.fault.CompileFault.TheVariants as compile
use Rattle.record_link.specs.Sent.{run_link}
use Rattle.record_orders.specs.Ordered.{orders_in}
use Rattle.report.specs.ReportText.{text_with}
use Rattle.report.specs.Sources.{Orders}
use Rattle.warnc_run.specs.Faults.{IsOfBook}
use Rattle.warnc_run.specs.Made.{tape_size}
use Rattle.warnc_run.specs.Products.{own_rows, reading_of_record, tables_text}
use Rattle.warnc_run.specs.declared.fault.RunFault.{RunFault}
use Rattle.warnc_run.specs.declared.fault.RunFault.TheVariants as fault
use Rattle.warnc_run.specs.declared.text.Text.{Text}
use Rattle.warnc_run.specs.declared.text.Text.TheVariants as text

-- a book, or a group's
abbrev pub IsSomeBook : Contents → Type 0
IsSomeBook book = (from : Origin) × (input : List ℕ) × IsBookFrom from input book

-- why there is no book to run: the book is refused, or the network has no such group
abbrev pub HasNoBookToRun : (from : Origin) (old new : Option (List ℕ)) → RunFault → Type 0
HasNoBookToRun from old new (fault.Book f) = RefusesFrom from old new f
HasNoBookToRun from old new (fault.NoGroup groups) = LacksGroup from old new groups
HasNoBookToRun from old new other = ⊥

-- a fault of the tapes of such a run: of the run, or of the workers, but for their number
abbrev pub IsOfTapes : (book : Contents) (slots parts : ℕ) → RunFault → Type 0
IsOfTapes book slots parts (fault.Compile f) = f ≢ compile.Workers
IsOfTapes book slots parts other = IsOfBook book slots parts other

-- a thread has ended with this fault, and all before it had none
pub record IsFirstUserFault (dones : List (Result ⊤ RunFault)) (fault : RunFault) : Type 0 where
  pub before : List (Result ⊤ RunFault)
  pub after : List (Result ⊤ RunFault)
  pub split : dones ≡ before ++ Err fault ∷ after
  pub none : All IsOk before

-- the tape of a record has the octets that its slots say
abbrev pub HasItsSize : Record → Type 0
HasItsSize r = length (tape_of_record r) ≡ tape_size r.slots

-- the writer took the first of these tapes whole, and of the one at this place the first `written` octets, and no more
pub record TakesFront (tapes : List (List ℕ)) (written : ℕ) (old new : Option (List ℕ)) : Type 0 where
  pub place : ℕ
  pub within : 0 < length tapes → place < length tapes
  pub less : place < length tapes → written < length (slice_index_or tapes place [])
  pub none : length tapes ≤ place → written ≡ 0
  pub appended : Appends old new
      (flat_map (λ (tape : List ℕ). tape) (take place tapes) ++ take written (slice_index_or tapes place []))

-- the records of a run of a book with a session for each part
pub record HaveRunLive (book : Contents) (slots parts : ℕ) (records : List Record) : Type 0 where
  pub sessions : List (List Exchange)
  pub parted : length sessions ≡ parts
  pub run : IsLiveRun book slots sessions records

-- these are the tapes of such a run
pub record AreTapesOf (book : Contents) (slots parts : ℕ) (tapes : List (List ℕ)) : Type 0 where
  pub records : List Record
  pub live : HaveRunLive book slots parts records
  pub made : tapes ≡ map tape_of_record records

-- a writer took the tapes of such a run, one after the other
pub record HasWritten (book : Contents) (slots parts : ℕ) (old new : Option (List ℕ)) : Type 0 where
  pub tapes : List (List ℕ)
  pub are : AreTapesOf book slots parts tapes
  pub taken : Appends old new (flat_map (λ (tape : List ℕ). tape) tapes)

-- or it failed with a front of them
pub record HasWrittenFront (book : Contents) (slots parts written : ℕ) (old new : Option (List ℕ)) : Type 0 where
  pub tapes : List (List ℕ)
  pub are : AreTapesOf book slots parts tapes
  pub taken : TakesFront tapes written old new

-- why the tapes of such a run aren't all written: the writer failed, or there are none
abbrev pub StopsAtTape : (book : Contents) (slots parts : ℕ) (old new : Option (List ℕ)) → RunFault → Type 0
StopsAtTape book slots parts old new (fault.Write failed) = HasWrittenFront book slots parts failed.written old new
StopsAtTape book slots parts old new other = IsOfTapes book slots parts other

-- the octets of a text that is made of the orders and the records of a run
abbrev pub octets_of_text : Text → (slots : ℕ) → Orders → List Record → List ℕ
octets_of_text (text.Report layout headed) slots orders records = text_with layout headed orders (own_rows records)
octets_of_text (text.Chart view) slots orders records =
    chart_text slots view orders records (map reading_of_record records)
octets_of_text (text.ChartPart group last view) slots orders records =
    chart_part slots group last view orders records (map reading_of_record records)
octets_of_text (text.Orders cell) slots orders records = orders_in cell records
octets_of_text (text.Link start) slots orders records = run_link start records
octets_of_text (text.Loads start headed) slots orders records = loads_text start headed records
octets_of_text (text.Tables view headed) slots orders records = tables_text slots view headed orders records

-- this is such a text of such a run
pub record IsTextOf (made : Text) (book : Contents) (slots parts : ℕ) (octets : List ℕ) : Type 0 where
  pub records : List Record
  pub live : HaveRunLive book slots parts records
  pub made_of : octets ≡ octets_of_text made slots (orders_of_run book.orders records) records
