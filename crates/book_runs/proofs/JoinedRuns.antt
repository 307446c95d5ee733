-- Runs of the book of some cells and of the book of the others are one of the whole book.
use Rattle.std.proofs.Common.{◌≡◌, ℕ, ◌+◌, true, List, [], ◌∷◌, length, get_or, map, filter, ap, sym, subst}
use Rattle.std.proofs.Common.{◌∙◌, arith}
use Rattle.std.specs.List.{All}
use Rattle.std.proofs.lemmas.List.Elements.{All-cons, All-head, All-nil, All-tail, filter_passes}
use Rattle.cbsp_wire.specs.declared.message.Cell.{Cell}
use Rattle.alert_book.specs.declared.book.order.Order.{Order}
use Rattle.alert_book.specs.declared.network.Origin.{Origin}
use Rattle.alert_book.specs.declared.network.Origin.TheVariants as origin
use Rattle.alert_book.specs.Book.{Contents}
use Rattle.alert_book.specs.Network.{IsGroupBook, has_cells}
use Rattle.alert_book.specs.NetworkLaws.{BooksAreNetworks}
use Rattle.alert_book.specs.Origin.{IsBookFrom}
use Rattle.alert_book.specs.Turns.{begun}
use Rattle.bsc_table.specs.Record.{Record}
use Rattle.book_runs.specs.CellParts.{PartsMakeTheWhole, kept_exchanges, leave, merged}
use Rattle.alert_book.specs.Restricted.{Keep, restricted}
use Rattle.book_runs.specs.Run.{Exchange, IsExchange, IsRun, IsRunOfBook, asked_of, entries_for}
use Rattle.book_runs.proofs.Asks.{begun_asks}
use Rattle.book_runs.proofs.Joined.{Joined, joined}
use Rattle.book_runs.proofs.KeptRuns.{asked_same}
use Rattle.book_runs.proofs.KeptSessions.{begun_share}
use Rattle.book_runs.proofs.Merged.{all_merged, is_merge}

-- each order of a book is for some cells
abbrev pub IsForCells : Order → Type 0
IsForCells o = has_cells o ≡ true

orders_of_group : (group : ℕ) (input : List ℕ) (book : Contents) → IsGroupBook group input book
    → All IsForCells book.orders
orders_of_group group input book is =
    subst (All IsForCells) (sym is.orders) (filter_passes has_cells is.rows.orders)

-- the orders of a book that was read are each for some cell
pub orders_for_cells : BooksAreNetworks → (from : Origin) (input : List ℕ) (book : Contents)
    → IsBookFrom from input book → All IsForCells book.orders
orders_for_cells networks origin.Book input book is = orders_of_group 0 input book (networks input book is).0
orders_for_cells networks (origin.Group group) input book is = orders_of_group group input book is

-- what is so of all that is made of things is so of what is made of each
pub all_unmapped : {X Y : Type 0} (P : Y → Type 0) (f : X → Y) (xs : List X) → All P (map f xs) → All (λ x. P (f x)) xs
all_unmapped P f [] each = All-nil (λ x. P (f x))
all_unmapped P f (x ∷ xs) each =
    All-cons (λ x. P (f x)) x xs (All-head P (f x) (map f xs) each)
    (all_unmapped P f xs (All-tail P (f x) (map f xs) each))

-- the records of some cells are records of the whole run
whole_records : (keep : Keep) (slots : ℕ) (cells : List Cell) (all xs : List Exchange) (records : List Record)
    → All (IsExchange cells) all → kept_exchanges keep all ≡ xs → map (λ r. r.cell) records ≡ filter keep cells
    → All (IsRunOfBook slots xs) records → All (IsRunOfBook slots all) records
whole_records keep slots cells all xs records exchanged share named each = λ k d within.
    let r : Record = get_or records k d in
    let own : keep r.cell ≡ true =
    all_unmapped (λ (c : Cell). keep c ≡ true) (λ (r : Record). r.cell) records
    (subst (All (λ (c : Cell). keep c ≡ true)) (sym named) (filter_passes keep cells)) k d within in
    let run = each k d within in record {
      run = run.run;
      over = run.over;
      legal = run.legal;
      entries = run.entries
          ∙ ap (λ (l : List Exchange). entries_for slots 0 (asked_of r.cell l)) (sym share)
          ∙ ap (entries_for slots 0) (asked_same keep r.cell own cells all exchanged);
    }

-- runs of some cells' book and of the others' make a run of a book each of whose orders is for some cell
pub whole_run : (keep : Keep) (book : Contents) (slots : ℕ) (xs ys : List Exchange) (records rest : List Record)
    → All IsForCells book.orders → IsRun (restricted keep book) slots xs records
    → IsRun (restricted (leave keep) book) slots ys rest
    → (all : List Exchange) × IsRun book slots all (merged keep book.cells records rest)
whole_run keep book slots xs ys records rest orders one two =
    let j : Joined keep book.cells (begun book 0 1) xs ys =
    joined (length xs + length ys) keep book.cells (begun book 0 1) (begun (restricted keep book) 0 1)
    (begun (restricted (leave keep) book) 0 1) xs ys (omega arith) (begun_share keep book 0 1)
    (begun_share (leave keep) book 0 1)
    (record { reached = one.session.reached; gone = one.session.gone; over = one.session.over })
    (record { reached = two.session.reached; gone = two.session.gone; over = two.session.over })
    one.exchanged two.exchanged (begun_asks book 0 1 orders) in (
      j.all,
      record {
        session = record { reached = j.goes.reached; gone = j.goes.gone; over = j.goes.over };
        cells = (is_merge (λ (r : Record). r.cell) keep book.cells records rest one.cells two.cells).all;
        exchanged = j.exchanged;
        each = all_merged (IsRunOfBook slots j.all) keep book.cells records rest
            (whole_records keep slots book.cells j.all xs records j.exchanged j.one one.cells one.each)
            (whole_records (leave keep) slots book.cells j.all ys rest j.exchanged j.two two.cells two.each);
      },
    )

-- so it is with a book that was read
pub parts_make_the_whole : BooksAreNetworks → PartsMakeTheWhole
parts_make_the_whole networks from input keep book slots exchanges others records rest is one two =
    whole_run keep book slots exchanges others records rest (orders_for_cells networks from input book is) one two
