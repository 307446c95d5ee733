-- What is found of a cell's own tape, by what its own record says that it was ordered and answered: nothing (own).
use Rattle.std.specs.Prelude.{◌≡◌, ◌≤◌, ℕ, List, [], length, All, IfSome}
use Rattle.handset.specs.Tape.{max_slots}
use Rattle.alert_book.specs.Book.{Contents}
use Rattle.bsc_table.specs.declared.entry.Entry.{Entry}
use Rattle.bsc_table.specs.Record.{Record, start_of}
use Rattle.bsc_table.specs.Legal.{IsLegal}
use Rattle.cbch_blocks.specs.RecordBlocks.{blocks_of}
use Rattle.book_runs.specs.Live.{IsLiveRun}
use Rattle.book_runs.specs.Run.{Exchange, IsRun}
use Rattle.cell_orders.specs.Text.{orders_text}
use Rattle.record_orders.specs.Ordered.{rows_of_record}
use Rattle.orders_file.specs.File.{IsOrdersFile, max_orders_file}
use Rattle.orders_file.specs.Laws.{Fits}
use Rattle.order_verdict.specs.declared.difference.OrderDifference.{OrderDifference}
use Rattle.order_verdict.specs.Air.{pages_on_air}
use Rattle.order_verdict.specs.Verdict.{AreOrderDifferences, all_order_differences}

-- a message that is accepted stands from the slot of its answer on: it doesn't wait for the one that it replaces
abbrev pub StandsAtOnce : Entry → Type 0
StandsAtOnce e = IfSome (start_of e.answer) (λ start. start ≡ e.slot)

-- the history of a cell whose run is over, and in which no replacement waits. An orders file has no place for the slot
-- from which one that waits stands
pub record IsPlain (r : Record) : Type 0 where
  pub legal : IsLegal r
  pub over : r.clock ≡ r.slots
  pub few : r.slots ≤ max_slots
  pub at_once : All StandsAtOnce r.log

-- its blocks differ nowhere from its orders and answers, with a delay of no slot
abbrev pub OwnOrdersDifferNowhere : Type 0
OwnOrdersDifferNowhere = (r : Record)
    → IsPlain r
    → all_order_differences r.slots 0 (rows_of_record r) (pages_on_air (blocks_of r)) ≡ []

-- so nothing is what is found of them, and nothing else is
abbrev pub OwnOrdersAreKept : Type 0
OwnOrdersAreKept = (r : Record) → IsPlain r → AreOrderDifferences r.slots 0 (rows_of_record r) (blocks_of r) []

abbrev pub NothingIsFoundOfOrders : Type 0
NothingIsFoundOfOrders = (r : Record) (found : List OrderDifference)
    → IsPlain r
    → AreOrderDifferences r.slots 0 (rows_of_record r) (blocks_of r) found
    → found ≡ []

-- so it is of each cell of a book's run, by one session or by several side by side
abbrev pub KeepsItsOrders : (slots : ℕ) → Record → Type 0
KeepsItsOrders slots r =
    All StandsAtOnce r.log → AreOrderDifferences slots 0 (rows_of_record r) (blocks_of r) []

abbrev pub RunsKeepTheirOrders : Type 0
RunsKeepTheirOrders = (book : Contents) (slots : ℕ) (exchanges : List Exchange) (records : List Record)
    → IsRun book slots exchanges records
    → slots ≤ max_slots
    → All (KeepsItsOrders slots) records

abbrev pub LiveRunsKeepTheirOrders : Type 0
LiveRunsKeepTheirOrders = (book : Contents) (slots : ℕ) (sessions : List (List Exchange)) (records : List Record)
    → IsLiveRun book slots sessions records
    → slots ≤ max_slots
    → All (KeepsItsOrders slots) records

-- and the orders file of such a history, whose numbers fit their types, says these rows
abbrev pub OwnOrdersAreReadBack : Type 0
OwnOrdersAreReadBack = (r : Record)
    → IsPlain r
    → All Fits (rows_of_record r)
    → length (orders_text (rows_of_record r)) ≤ max_orders_file
    → IsOrdersFile (orders_text (rows_of_record r)) (rows_of_record r)
