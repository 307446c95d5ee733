-- A book has one run with one session, so one output is written for it, and one for each group of a network.
use Rattle.std.proofs.Common.{◌≡◌, ℕ, ◌+◌, List, [], ◌∷◌, length, ap, arith, refl, subst, sym, ◌∙◌}
use Rattle.bsc_table.specs.Record.{Record}
use Rattle.alert_book.specs.declared.network.Origin.{Origin}
use Rattle.alert_book.specs.declared.network.Origin.TheVariants as origin
use Rattle.alert_book.specs.declared.book.order.Order.{Order}
use Rattle.alert_book.specs.Laws.{BooksAreOne}
use Rattle.alert_book.specs.NetworkLaws.{CountsAreOne}
use Rattle.book_runs.specs.Live.{IsLiveRun}
use Rattle.book_runs.specs.LiveLaws.{OneSessionIsARun}
use Rattle.book_runs.specs.OneRun.{RunsAreOne}
use Rattle.book_runs.specs.Run.{Exchange, IsRun}
use Rattle.warnc_run.specs.Network.{joined_parts, octets_of_group, ArePartsFrom, IsPartOf}
use Rattle.warnc_run.specs.OneOutput.{OutputIsOne}
use Rattle.warnc_run.specs.Products.{octets_of, RunOf}
use Rattle.warnc_run.specs.declared.run.Books.TheVariants as books
use Rattle.warnc_run.specs.declared.product.Product.{Product}
use Rattle.warnc_run.proofs.Written.{only}

-- a run of one session is a run of the book
pub run_of_one : OneSessionIsARun → (from : Origin) (slots : ℕ) (input : List ℕ) (records : List Record)
    → (made : RunOf from slots 1 input records)
    → (exchanges : List Exchange) × IsRun made.book slots exchanges records
run_of_one law from slots input records made =
    let session = only made.sessions made.parted in (
      session.0,
      law made.book slots session.0 records
          (subst (λ (sessions : List (List Exchange)). IsLiveRun made.book slots sessions records) session.1 made.run),
    )

-- so a book has one list of records
pub records_are_one : RunsAreOne → OneSessionIsARun → (from : Origin) (slots : ℕ) (input : List ℕ)
    (records others : List Record)
    → RunOf from slots 1 input records
    → RunOf from slots 1 input others
    → records ≡ others
records_are_one runs law from slots input records others one two =
    let first = run_of_one law from slots input records one in
    let second = run_of_one law from slots input others two in
    (runs from input one.book two.book slots first.0 second.0 records others one.is_book two.is_book first.1 second.1).1

-- and one list of orders
pub orders_are_one : BooksAreOne → (from : Origin) (slots parts : ℕ) (input : List ℕ) (records others : List Record)
    → (one : RunOf from slots parts input records)
    → (two : RunOf from slots parts input others)
    → one.book.orders ≡ two.book.orders
orders_are_one law from slots parts input records others one two =
    (law from input one.book two.book one.is_book two.is_book).1

-- and a group one part
part_is_one : BooksAreOne → RunsAreOne → OneSessionIsARun → (made : Product) (slots groups group : ℕ)
    (input output other : List ℕ)
    → IsPartOf (record { made = made; slots = slots; parts = 1; groups = groups }) group input output
    → IsPartOf (record { made = made; slots = slots; parts = 1; groups = groups }) group input other
    → output ≡ other
part_is_one books_one runs law made slots groups group input output other one two =
    one.written
    ∙ ap (λ (orders : List Order). octets_of_group made slots groups group orders one.records)
    (orders_are_one books_one (origin.Group group) slots 1 input one.records two.records one.run two.run)
    ∙ ap (octets_of_group made slots groups group two.run.book.orders)
    (records_are_one runs law (origin.Group group) slots input one.records two.records one.run two.run)
    ∙ sym two.written

-- and as many groups from one on have one list of parts
parts_are_one : BooksAreOne → RunsAreOne → OneSessionIsARun → (made : Product) (slots groups : ℕ) (input : List ℕ)
    (group : ℕ) (parts others : List (List ℕ))
    → length parts ≡ length others
    → ArePartsFrom (record { made = made; slots = slots; parts = 1; groups = groups }) input group parts
    → ArePartsFrom (record { made = made; slots = slots; parts = 1; groups = groups }) input group others
    → parts ≡ others
parts_are_one books_one runs law made slots groups input group [] [] as_many each all = refl
parts_are_one books_one runs law made slots groups input group [] (other ∷ others) as_many each all =
    absurd (omega (arith, as_many))
parts_are_one books_one runs law made slots groups input group (part ∷ parts) [] as_many each all =
    absurd (omega (arith, as_many))
parts_are_one books_one runs law made slots groups input group (part ∷ parts) (other ∷ others) as_many each all =
    let here = part_is_one books_one runs law made slots groups group input part other each.0 all.0 in
    let later = parts_are_one books_one runs law made slots groups input (group + 1) parts others
    (omega (arith, as_many)) each.1 all.1 in
    ap (λ (p : List ℕ). p ∷ parts) here ∙ ap (λ (ps : List (List ℕ)). other ∷ ps) later

-- a network has one number of groups, so one output
pub output_is_one : BooksAreOne → RunsAreOne → OneSessionIsARun → CountsAreOne → OutputIsOne
output_is_one books_one runs law counts made (books.One from) slots input output other one two =
    one.written
    ∙ ap (λ (orders : List Order). octets_of made from slots orders one.records)
    (orders_are_one books_one from slots 1 input one.records two.records one.run two.run)
    ∙ ap (octets_of made from slots two.run.book.orders)
    (records_are_one runs law from slots input one.records two.records one.run two.run)
    ∙ sym two.written
output_is_one books_one runs law counts made books.EachGroup slots input output other one two =
    let same = counts 0 0 input one.groups two.groups one.counted two.counted in
    let others = subst
    (λ (n : ℕ). ArePartsFrom (record { made = made; slots = slots; parts = 1; groups = n }) input 0 two.parts)
    (sym same) two.each in
    one.written
    ∙ ap joined_parts (parts_are_one books_one runs law made slots one.groups input 0 one.parts two.parts
    (one.as_many ∙ same ∙ sym two.as_many) one.each others)
    ∙ sym two.written
