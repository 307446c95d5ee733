-- A book has one run with one session, so its two reports have the same rows.
use Rattle.std.proofs.Common.{◌≡◌, ◌∙◌, List, ap}
use Rattle.alert_book.specs.declared.book.order.Order.{Order}
use Rattle.alert_book.specs.Laws.{BooksAreOne}
use Rattle.asked_orders.specs.Asked.{orders_of_run}
use Rattle.bsc_table.specs.Record.{Record}
use Rattle.book_runs.specs.LiveLaws.{OneSessionIsARun}
use Rattle.book_runs.specs.OneRun.{RunsAreOne}
use Rattle.report.specs.Laws.{PlainIsFullCut, UntimedIsTimedCut, full_table, timed_table}
use Rattle.report.specs.ReportText.{part_text, untimed_part_text}
use Rattle.warnc_run.specs.Products.{is_headed, own_rows}
use Rattle.warnc_run.specs.ReportColumns.{PlainReportIsCut, UntimedReportIsCut}
use Rattle.report.specs.Sources.{Orders}
use Rattle.warnc_run.proofs.OneOutput.{orders_are_one, records_are_one}

-- one is what is left of the other
pub plain_is_cut : RunsAreOne → OneSessionIsARun → PlainIsFullCut → PlainReportIsCut
plain_is_cut runs law cut from slots input full plain is_full is_plain =
    let orders : Orders = orders_of_run is_full.run.book.orders is_full.records in
    let of_table = cut (is_headed from) orders (own_rows is_full.records) in
    let same : is_plain.records ≡ is_full.records =
    records_are_one runs law from slots input is_plain.records is_full.records is_plain.run is_full.run in
    record {
      table = full_table (is_headed from) orders (own_rows is_full.records);
      full_is = is_full.written ∙ of_table.full;
      plain_is = is_plain.written
          ∙ ap (λ (records : List Record). part_text (is_headed from) (own_rows records)) same
          ∙ of_table.plain;
    }

-- and so of one with times and one without
pub untimed_is_cut : BooksAreOne → RunsAreOne → OneSessionIsARun → UntimedIsTimedCut → UntimedReportIsCut
untimed_is_cut books_one runs law cut from slots wanted start input with_times without is_timed is_untimed =
    let orders : Orders = orders_of_run is_timed.run.book.orders is_timed.records in
    let of_table = cut wanted start (is_headed from) orders (own_rows is_timed.records) in
    let same : is_untimed.records ≡ is_timed.records =
    records_are_one runs law from slots input is_untimed.records is_timed.records is_untimed.run is_timed.run in
    let ordered : is_untimed.run.book.orders ≡ is_timed.run.book.orders =
    orders_are_one books_one from slots 1 input is_untimed.records is_timed.records is_untimed.run is_timed.run in
    record {
      table = timed_table wanted start (is_headed from) orders (own_rows is_timed.records);
      with_is = is_timed.written ∙ of_table.timed;
      without_is = is_untimed.written
          ∙ ap (λ (given : List Order). untimed_part_text wanted (is_headed from)
          (orders_of_run given is_untimed.records) (own_rows is_untimed.records)) ordered
          ∙ ap (λ (records : List Record). untimed_part_text wanted (is_headed from)
          (orders_of_run is_timed.run.book.orders records) (own_rows records)) same
          ∙ of_table.untimed;
    }
