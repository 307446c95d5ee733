-- What the crates below promise, as clauses of their public laws: all that the proofs here know of them, but that
-- OneAnswer stands on lemmas of scheduler and bsc_table, too.
use Rattle.cbs_page.specs.Laws.{PagedTextsComeBack}
use Rattle.scheduler.specs.AirLaws.{FrontsAreByTheRule, OneAirList}
use Rattle.alert_book.specs.Laws.{BooksAreOne, CellsAreValid, OrdersAreFew}
use Rattle.alert_book.specs.Texts.{TextsAreUtf8}
use Rattle.alert_book.specs.TurnLaws.{AsksOncePerOrder, RequestsAreWritable, RequestsComeOfOrders}
use Rattle.bsc_table.specs.Written.{AcceptedAreWrites}
use Rattle.composition.specs.Composition.{CompletedIsWholeInBlocks, ShownAreTheBroadcast}
use Rattle.composition.specs.Meaning.{AcceptedAreMeant, NoneAfterTheStop, RecordsAreTapes, ReportedIsWholeInBlocks}
use Rattle.composition.specs.Meaning.{TextsAreThoseOfContents}

-- the laws of the crates below on which those of runs stand
pub record Laws : Type 0 where
  pub texts_come_back : PagedTextsComeBack
  pub texts_are_utf8 : TextsAreUtf8
  pub come_of_orders : RequestsComeOfOrders
  pub accepted_are_writes : AcceptedAreWrites
  pub shown_are_the_broadcast : ShownAreTheBroadcast
  pub completed_is_whole : CompletedIsWholeInBlocks
  pub accepted_are_meant : AcceptedAreMeant
  pub reported_is_whole : ReportedIsWholeInBlocks
  pub none_after_the_stop : NoneAfterTheStop
  pub records_are_tapes : RecordsAreTapes
  pub texts_are_those_of_contents : TextsAreThoseOfContents

-- those that say how often the sessions of a book can ask its cells
pub record BookLaws : Type 0 where
  pub orders_are_few : OrdersAreFew
  pub cells_are_valid : CellsAreValid
  pub writable : RequestsAreWritable
  pub once_per_order : AsksOncePerOrder

-- and those by which a book has one run
pub record OneRunLaws : Type 0 where
  pub books_are_one : BooksAreOne
  pub one_air : OneAirList
  pub fronts : FrontsAreByTheRule
