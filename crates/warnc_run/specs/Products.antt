-- What is made of the octets that are read: of the run of a book, or of a group's, its tapes, the report of them, their
-- chart, the orders file of one of its cells, its link, or its loads; or the report, the loads and the chart. Own.
use Rattle.std.specs.Prelude.{◌≡◌, ◌==◌, ℕ, Bool, true, List, ◌∷◌, ◌++◌, All, None, Option, Some, codes, length, map}
use Rattle.std.specs.Fmt.{decimal}
use Rattle.std.specs.List.{flat_map}
use Rattle.alert_book.specs.declared.book.order.Order.{Order}
use Rattle.alert_book.specs.declared.network.Origin.{Origin}
use Rattle.alert_book.specs.declared.network.Origin.TheVariants as origin
use Rattle.alert_book.specs.Book.{Contents}
use Rattle.alert_book.specs.Origin.{IsBookFrom}
use Rattle.asked_orders.specs.Asked.{orders_of_run}
use Rattle.book_runs.specs.Live.{IsLiveRun}
use Rattle.book_runs.specs.Meant.{IsMeantIn}
use Rattle.book_runs.specs.Ordered.{AreThoseStarted}
use Rattle.book_runs.specs.Run.{Exchange}
use Rattle.bsc_table.specs.Promised.{IsServed}
use Rattle.bsc_table.specs.Record.{Record}
use Rattle.cbch_blocks.specs.RecordBlocks.{blocks_of, tape_of_record}
use Rattle.cbsp_wire.specs.declared.message.Cell.{Cell}
use Rattle.cell_loads.specs.LoadsText.{loads_text}
use Rattle.chart.specs.ChartText.{chart_text}
use Rattle.chart.specs.declared.view.View.{View}
use Rattle.gsmtap.specs.declared.packet.Start.{Start as LinkStart}
use Rattle.handset.specs.Reception.{shown_in}
use Rattle.handset.specs.Tape.{TapeReading}
use Rattle.record_link.specs.Sent.{run_link}
use Rattle.record_orders.specs.Ordered.{orders_in}
use Rattle.report.specs.ReportText.{text_with}
use Rattle.report.specs.Rows.{report_rows}
use Rattle.report.specs.Sources.{Orders}
use Rattle.report.specs.declared.row.Columns.{Columns}
use Rattle.report.specs.declared.row.Columns.TheVariants as columns
use Rattle.report.specs.declared.row.Layout.{Layout}
use Rattle.report.specs.declared.row.Row.{Row}
use Rattle.slot_times.specs.declared.start.Start.{Start}
use Rattle.warnc_run.specs.declared.product.Product.{Product}
use Rattle.warnc_run.specs.declared.product.Product.TheVariants as product

-- the octets are a book, or a network book whose group has one; a run of as many sessions as there are parts gives each
-- cell one of these records, in the order of the book, and each shows what the book means; each message that a cell
-- accepted is one that an order of the book had it start, with that order's text, and no other order started one; each
-- requested broadcast of such a message is sent whole within its own period, unless the message is background, or its
-- stop or the end of the run cuts the broadcast short
pub record RunOf (from : Origin) (slots parts : ℕ) (input : List ℕ) (records : List Record) : Type 0 where
  pub book : Contents
  pub is_book : IsBookFrom from input book
  pub sessions : List (List Exchange)
  pub parted : length sessions ≡ parts
  pub run : IsLiveRun book slots sessions records
  pub meant : All (IsMeantIn book) records
  pub accepted : All (AreThoseStarted book (flat_map (λ (exchanges : List Exchange). exchanges) sessions)) records
  pub served : All IsServed records

-- what a handset shows that reads the blocks of a record, with the record's cell and slots
abbrev pub reading_of_record : Record → TapeReading
reading_of_record r = record { cell = r.cell; slots = r.slots; shown = shown_in (blocks_of r) }

-- the rows of records by what handsets read of their blocks
abbrev pub own_rows : List Record → List Row
own_rows records = report_rows records (map reading_of_record records)

-- the line of the columns' names stands over the report of a book, and over that of a network's first group, so that
-- the reports of its groups can be joined
abbrev pub is_headed : Origin → Bool
is_headed origin.Book = true
is_headed (origin.Group group) = group == 0

-- a text after a line with its name and the number of its octets, by which texts are told apart that come one after
-- the other
abbrev pub text_named : (name text : List ℕ) → List ℕ
text_named name text = name ++ codes " " ++ decimal (length text) ++ 10 ∷ text

-- how a report is laid out that has all columns, and the times of a chart
abbrev pub full_layout : View → Layout
full_layout view = record { columns = columns.Full; start = view.wording.start }

-- the full report, the loads and the chart of records, whose cells were asked by these orders
abbrev pub tables_text : (slots : ℕ) → View → (headed : Bool) → Orders → List Record → List ℕ
tables_text slots view headed orders records =
    text_named (codes "report") (text_with (full_layout view) headed orders (own_rows records))
    ++ text_named (codes "load") (loads_text view.wording.start headed records)
    ++ text_named (codes "chart") (chart_text slots view orders records (map reading_of_record records))

-- what is made of the orders and the records of the run of a book, or of a group by itself
abbrev pub octets_of : Product → (from : Origin) (slots : ℕ) → List Order → List Record → List ℕ
octets_of product.Tapes from slots orders records = flat_map tape_of_record records
octets_of (product.Report layout) from slots orders records =
    text_with layout (is_headed from) (orders_of_run orders records) (own_rows records)
octets_of (product.Chart view) from slots orders records =
    chart_text slots view (orders_of_run orders records) records (map reading_of_record records)
octets_of (product.Orders cell) from slots orders records = orders_in cell records
octets_of (product.Link start) from slots orders records = run_link start records
octets_of (product.Loads start) from slots orders records = loads_text start (is_headed from) records
octets_of (product.Tables view) from slots orders records =
    tables_text slots view (is_headed from) (orders_of_run orders records) records

-- what is written for the octets that were read: they are a book, or a network book whose group has one, and this is
-- what is made of its run, and nothing else
pub record IsOutput (made : Product) (from : Origin) (slots parts : ℕ) (input output : List ℕ) : Type 0 where
  pub records : List Record
  pub run : RunOf from slots parts input records
  pub written : output ≡ octets_of made from slots run.book.orders records

-- what `warnc live` writes: the tapes of the cells, whose orders came of several sessions side by side
abbrev pub IsLiveFrom : (from : Origin) (slots parts : ℕ) (input output : List ℕ) → Type 0
IsLiveFrom from slots parts = IsOutput product.Tapes from slots parts

abbrev pub IsLive : (slots parts : ℕ) (input output : List ℕ) → Type 0
IsLive slots parts = IsLiveFrom origin.Book slots parts

-- what `warnc compile` writes: the same with one session
abbrev pub IsCompiledFrom : (from : Origin) (slots : ℕ) (input output : List ℕ) → Type 0
IsCompiledFrom from slots = IsLiveFrom from slots 1

abbrev pub IsCompiled : (slots : ℕ) (input output : List ℕ) → Type 0
IsCompiled slots = IsCompiledFrom origin.Book slots

-- how a report with these columns is laid out without times, and with times where slot 0 begins at this one
abbrev pub untimed : Columns → Layout
untimed columns = record { columns = columns; start = None }

abbrev pub timed : Columns → Start → Layout
timed columns start = record { columns = columns; start = Some start }

-- what `warnc report` writes, laid out so
abbrev pub IsReportedFrom : (from : Origin) (slots : ℕ) → Layout → (input output : List ℕ) → Type 0
IsReportedFrom from slots layout = IsOutput (product.Report layout) from slots 1

-- what `warnc chart` writes: of all cells or one, the whole run or a part of it
abbrev pub IsChartedFrom : (from : Origin) (slots : ℕ) → View → (input output : List ℕ) → Type 0
IsChartedFrom from slots view = IsOutput (product.Chart view) from slots 1

-- what `warnc orders` writes of a run: what one cell was ordered and answered
abbrev pub IsOrderedFrom : (from : Origin) (slots : ℕ) → Cell → (input output : List ℕ) → Type 0
IsOrderedFrom from slots cell = IsOutput (product.Orders cell) from slots 1

-- what `warnc link` writes, where slot 0 begins at this time
abbrev pub IsLinkedFrom : (from : Origin) (slots : ℕ) → LinkStart → (input output : List ℕ) → Type 0
IsLinkedFrom from slots start = IsOutput (product.Link start) from slots 1

-- what `warnc load` writes, with times where slot 0 begins at this one
abbrev pub IsLoadTableFrom : (from : Origin) (slots : ℕ) → Option Start → (input output : List ℕ) → Type 0
IsLoadTableFrom from slots start = IsOutput (product.Loads start) from slots 1

-- what `warnc chart --tables` writes
abbrev pub AreTablesFrom : (from : Origin) (slots : ℕ) → View → (input output : List ℕ) → Type 0
AreTablesFrom from slots view = IsOutput (product.Tables view) from slots 1
