-- A book has one run, and so one table of remarks; and so have a group of a network, and all of them.
use Rattle.std.proofs.Common.{◌≡◌, ℕ, ◌+◌, List, [], ◌∷◌, Option, arith, ap, ap₂, length, refl, sym, ◌∙◌}
use Rattle.alert_book.specs.declared.judging.bounds.Extent.TheVariants as extent
use Rattle.alert_book.specs.declared.network.Origin.{Origin}
use Rattle.alert_book.specs.declared.network.Origin.TheVariants as origin
use Rattle.alert_book.specs.declared.book.order.Order.{Order}
use Rattle.alert_book.specs.Laws.{BooksAreOne}
use Rattle.alert_book.specs.NetworkLaws.{CountsAreOne}
use Rattle.book_check.specs.Laws.{BooksAreClean, NetworksAreClean}
use Rattle.book_runs.specs.LiveLaws.{OneSessionIsARun}
use Rattle.book_runs.specs.OneRun.{RunsAreOne}
use Rattle.bsc_table.specs.Record.{Record}
use Rattle.warnc_run.proofs.OneOutput.{orders_are_one, records_are_one}
use Rattle.book_remarks.specs.Laws.{RemarkedAreClean, RemarksAreOne}
use Rattle.book_remarks.specs.Remarked.{AreRemarkedGroups, IsRemarkedRun, remarks_count}
use Rattle.book_remarks.specs.Remarks.{remarks_in}
use Rattle.book_remarks.specs.RemarksText.{RemarkedGroup, checked_network_text, checked_run_text, remarked_group}
use Rattle.book_remarks.specs.declared.remarks.Remark.{Remark}
use Rattle.slot_times.specs.declared.start.Start.{Start}

-- one list of records, and one of remarks
run_is_one : BooksAreOne → RunsAreOne → OneSessionIsARun → (from : Origin) (slots : ℕ) (input : List ℕ)
    (all others : List Remark) (records rest : List Record)
    → IsRemarkedRun from slots input all records
    → IsRemarkedRun from slots input others rest
    → (all ≡ others) × (records ≡ rest)
run_is_one books_one runs law from slots input all others records rest one two =
    let same : records ≡ rest = records_are_one runs law from slots input records rest one.run two.run in
    let orders : one.run.book.orders ≡ two.run.book.orders =
    orders_are_one books_one from slots 1 input records rest one.run two.run in (
      one.remarked ∙ ap (λ (own : List Order). remarks_in own records) orders
          ∙ ap (remarks_in two.run.book.orders) same ∙ sym two.remarked,
      same,
    )

-- as many groups from one on are the same
groups_are_one : BooksAreOne → RunsAreOne → OneSessionIsARun → (slots : ℕ) (input : List ℕ) (group : ℕ)
    (each others : List RemarkedGroup)
    → length each ≡ length others
    → AreRemarkedGroups slots input group each
    → AreRemarkedGroups slots input group others
    → each ≡ others
groups_are_one books_one runs law slots input group [] [] as_many one two = refl
groups_are_one books_one runs law slots input group [] (other ∷ others) as_many one two = absurd
    (omega (arith, as_many))
groups_are_one books_one runs law slots input group (own ∷ each) [] as_many one two = absurd (omega (arith, as_many))
groups_are_one books_one runs law slots input group (own ∷ each) (other ∷ others) as_many one two =
    let here = run_is_one books_one runs law (origin.Group group) slots input own.remarks other.remarks own.records
    other.records one.0 two.0 in
    let later : each ≡ others = groups_are_one books_one runs law slots input (group + 1) each others
    (omega (arith, as_many)) one.1 two.1 in
    ap₂ (λ (first : RemarkedGroup) (more : List RemarkedGroup). first ∷ more) (ap₂ remarked_group here.0 here.1) later

-- one table, of as many remarks
pub remarks_are_one : BooksAreOne → RunsAreOne → OneSessionIsARun → CountsAreOne → RemarksAreOne
remarks_are_one books_one runs law counts extent.Book slots start begun input output another count other one two =
    let same = run_is_one books_one runs law origin.Book slots input one.all two.all one.records two.records
    one.remarked
    two.remarked in (
      sym one.counted ∙ ap length same.0 ∙ two.counted,
      λ begins. one.written ∙ ap (λ (s : Option Start). checked_run_text s one.all one.records) begins
          ∙ ap₂ (checked_run_text begun) same.0 same.1 ∙ sym two.written,
    )
remarks_are_one books_one runs law counts (extent.Group group) slots start begun input output another count other one
    two =
    let same = run_is_one books_one runs law (origin.Group group) slots input one.all two.all one.records two.records
    one.remarked two.remarked in (
      sym one.counted ∙ ap length same.0 ∙ two.counted,
      λ begins. one.written ∙ ap (λ (s : Option Start). checked_run_text s one.all one.records) begins
          ∙ ap₂ (checked_run_text begun) same.0 same.1 ∙ sym two.written,
    )
remarks_are_one books_one runs law counts extent.Network slots start begun input output another count other one two =
    let as_many : length one.each ≡ length two.each =
    counts 0 0 input (length one.each) (length two.each) one.groups two.groups in
    let same : one.each ≡ two.each =
    groups_are_one books_one runs law slots input 0 one.each two.each as_many one.remarked two.remarked in (
      sym one.counted ∙ ap remarks_count same ∙ two.counted,
      λ begins. one.written ∙ ap (λ (s : Option Start). checked_network_text s one.each) begins
          ∙ ap (checked_network_text begun) same ∙ sym two.written,
    )

-- and none of the faults of rows
pub remarked_are_clean : BooksAreClean → NetworksAreClean → RemarkedAreClean
remarked_are_clean clean networks extent.Book slots start input output told count faults remarked checked =
    clean input told faults remarked.remarked.run.book remarked.remarked.run.is_book checked
remarked_are_clean clean networks (extent.Group group) slots start input output told count faults remarked checked =
    let is = remarked.remarked.run.is_book in
    networks group input told faults is.rows is.network checked
remarked_are_clean clean networks extent.Network slots start input output told count faults remarked checked =
    networks 0 input told faults remarked.groups.rows remarked.groups.network checked
