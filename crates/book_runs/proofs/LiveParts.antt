-- Sessions of some of a book's cells go by the shares of the whole book's sessions, and make them up.
use Rattle.std.proofs.Common.{◌≡◌, ℕ, ◌+◌, ◌<◌, zero, suc, true, List, [], ◌∷◌, length, get_or, map, filter}
use Rattle.std.proofs.Common.{refl, ap, sym, subst, ◌∙◌, arith}
use Rattle.std.specs.List.{All}
use Rattle.std.proofs.lemmas.List.{length-map}
use Rattle.std.proofs.lemmas.List.Elements.{All-cons, All-filter, All-head, All-map, All-nil, All-tail, All-weaker}
use Rattle.std.proofs.lemmas.List.Elements.{filter_passes}
use Rattle.cbsp_wire.specs.declared.message.Cell.{Cell}
use Rattle.alert_book.specs.Book.{Contents}
use Rattle.alert_book.specs.NetworkLaws.{BooksAreNetworks}
use Rattle.alert_book.specs.Turns.{AreTurnsOf, begun}
use Rattle.bsc_table.specs.Record.{Record}
use Rattle.book_runs.specs.CellParts.{is_of_some, kept_exchange, kept_exchanges, kept_records, leave}
use Rattle.alert_book.specs.Restricted.{Keep, restricted}
use Rattle.book_runs.specs.Live.{IsRunBy}
use Rattle.book_runs.specs.LiveParts.{CellsLiveApart, LivePartsMakeTheWhole}
use Rattle.book_runs.specs.Run.{Exchange, IsExchange, asked_of}
use Rattle.book_runs.proofs.Asks.{begun_asks}
use Rattle.book_runs.proofs.CellLists.{filter_mapped}
use Rattle.book_runs.proofs.Joined.{Joined, joined}
use Rattle.book_runs.proofs.JoinedRuns.{IsForCells, all_unmapped, orders_for_cells}
use Rattle.book_runs.proofs.KeptRuns.{asked_same}
use Rattle.book_runs.proofs.KeptSessions.{begun_share, is_kept_exchange, turns_in, turns_kept}
use Rattle.book_runs.proofs.Merged.{all_merged, is_merge}

-- the session at a place
abbrev at_place : List (List Exchange) → ℕ → List Exchange
at_place sessions place = get_or sessions place []

at_mapped : (keep : Keep) (sessions : List (List Exchange)) (place : ℕ)
    → at_place (map (kept_exchanges keep) sessions) place ≡ kept_exchanges keep (at_place sessions place)
at_mapped keep [] place = refl
at_mapped keep (xs ∷ sessions) zero = refl
at_mapped keep (xs ∷ sessions) (suc place) = at_mapped keep sessions place

all_at : (P : Exchange → Type 0) (sessions : List (List Exchange)) → All (All P) sessions → (place : ℕ)
    → All P (at_place sessions place)
all_at P [] each place = All-nil P
all_at P (xs ∷ sessions) each zero = All-head (All P) xs sessions each
all_at P (xs ∷ sessions) each (suc place) = all_at P sessions (All-tail (All P) xs sessions each) place

kept_exchanged : (keep : Keep) (cells : List Cell) (exchanges : List Exchange) → All (IsExchange cells) exchanges
    → All (IsExchange (filter keep cells)) (kept_exchanges keep exchanges)
kept_exchanged keep cells exchanges each =
    All-filter is_of_some (IsExchange (filter keep cells)) (map (kept_exchange keep) exchanges)
    (All-map (IsExchange (filter keep cells)) (kept_exchange keep) exchanges
    (All-weaker (IsExchange cells) (λ (x : Exchange). IsExchange (filter keep cells) (kept_exchange keep x))
    (λ x is. is_kept_exchange keep cells x is) exchanges each))

-- what concerns some cells of a run with sessions is a run of their book with as many
pub cells_live_apart : CellsLiveApart
cells_live_apart keep book slots sessions records run = record {
  turns = λ part within.
      let long = length-map sessions (kept_exchanges keep) in
      let turns = turns_kept keep book.cells book part (length sessions) (at_place sessions part)
      (all_at (IsExchange book.cells) sessions run.exchanged part) (run.turns part (omega (arith, long, within))) in
      subst (λ (l : List Exchange). AreTurnsOf (restricted keep book) part (length (map (kept_exchanges keep) sessions))
      (turns_in l)) (sym (at_mapped keep sessions part))
      (subst (λ (n : ℕ). AreTurnsOf (restricted keep book) part n
      (turns_in (kept_exchanges keep (at_place sessions part)))) (sym long) turns);
  cells = sym (filter_mapped keep (λ (r : Record). r.cell) records) ∙ ap (filter keep) run.cells;
  exchanged = All-map (All (IsExchange (filter keep book.cells))) (kept_exchanges keep) sessions
      (All-weaker (All (IsExchange book.cells))
      (λ (xs : List Exchange). All (IsExchange (filter keep book.cells)) (kept_exchanges keep xs))
      (λ xs each. kept_exchanged keep book.cells xs each) sessions run.exchanged);
  each = λ k d within.
      let r : Record = get_or (kept_records keep records) k d in
      let own : keep r.cell ≡ true = filter_passes (λ (r : Record). keep r.cell) records k d within in
      let by : IsRunBy slots sessions r =
      All-filter (λ (r : Record). keep r.cell) (IsRunBy slots sessions) records run.each k d within in record {
        run = by.run;
        over = by.over;
        legal = by.legal;
        order = by.order;
        own = λ part. by.own part
            ∙ sym (asked_same keep r.cell own book.cells (at_place sessions part)
            (all_at (IsExchange book.cells) sessions run.exchanged part))
            ∙ ap (asked_of r.cell) (sym (at_mapped keep sessions part));
        entries = by.entries;
      };
}

-- sessions of the whole book that have these shares
record AreJoined (keep : Keep) (book : Contents) (from parts : ℕ) (sessions others : List (List Exchange)) : Type 0
  where
    pub all : List (List Exchange)
    pub long : length all ≡ length sessions
    pub turns : (place part : ℕ) → place < length all → part ≡ from + place
        → AreTurnsOf book part parts (turns_in (at_place all place))
    pub exchanged : All (All (IsExchange book.cells)) all
    pub one : (place : ℕ) → kept_exchanges keep (at_place all place) ≡ at_place sessions place
    pub two : (place : ℕ) → kept_exchanges (leave keep) (at_place all place) ≡ at_place others place

abbrev HaveTurns : Contents → (from parts : ℕ) → List (List Exchange) → Type 0
HaveTurns book from parts sessions = (place part : ℕ) → place < length sessions → part ≡ from + place
    → AreTurnsOf book part parts (turns_in (at_place sessions place))

later_turns : (book : Contents) (from parts : ℕ) (xs : List Exchange) (sessions : List (List Exchange))
    → HaveTurns book from parts (xs ∷ sessions) → HaveTurns book (suc from) parts sessions
later_turns book from parts xs sessions have =
    λ place part within is. have (suc place) part (omega (arith, within)) (omega (arith, is))

are_joined : (keep : Keep) (book : Contents) (from parts : ℕ) (sessions others : List (List Exchange))
    → All IsForCells book.orders → length others ≡ length sessions
    → HaveTurns (restricted keep book) from parts sessions
    → HaveTurns (restricted (leave keep) book) from parts others
    → All (All (IsExchange (filter keep book.cells))) sessions
    → All (All (IsExchange (filter (leave keep) book.cells))) others
    → AreJoined keep book from parts sessions others
are_joined keep book from parts [] [] orders long have also each other = record {
  all = [];
  long = refl;
  turns = λ place part within is. absurd (omega (arith, within));
  exchanged = All-nil (All (IsExchange book.cells));
  one = λ place. refl;
  two = λ place. refl;
}
are_joined keep book from parts [] (ys ∷ others) orders long have also each other = absurd (omega (arith, long))
are_joined keep book from parts (xs ∷ sessions) [] orders long have also each other = absurd (omega (arith, long))
are_joined keep book from parts (xs ∷ sessions) (ys ∷ others) orders long have also each other =
    let one = have 0 from (omega arith) (omega arith) in
    let two = also 0 from (omega arith) (omega arith) in
    let j : Joined keep book.cells (begun book from parts) xs ys =
    joined (length xs + length ys) keep book.cells (begun book from parts) (begun (restricted keep book) from parts)
    (begun (restricted (leave keep) book) from parts) xs ys (omega arith) (begun_share keep book from parts)
    (begun_share (leave keep) book from parts)
    (record { reached = one.reached; gone = one.gone; over = one.over })
    (record { reached = two.reached; gone = two.gone; over = two.over })
    (All-head (All (IsExchange (filter keep book.cells))) xs sessions each)
    (All-head (All (IsExchange (filter (leave keep) book.cells))) ys others other)
    (begun_asks book from parts orders) in
    let rest = are_joined keep book (suc from) parts sessions others orders (omega (arith, long))
    (later_turns (restricted keep book) from parts xs sessions have)
    (later_turns (restricted (leave keep) book) from parts ys others also)
    (All-tail (All (IsExchange (filter keep book.cells))) xs sessions each)
    (All-tail (All (IsExchange (filter (leave keep) book.cells))) ys others other) in record {
      all = j.all ∷ rest.all;
      long = omega (arith, rest.long);
      turns = λ place part within is. first j rest place part within is;
      exchanged = All-cons (All (IsExchange book.cells)) j.all rest.all j.exchanged rest.exchanged;
      one = λ place. share_one j rest place;
      two = λ place. share_two j rest place;
    }
  where
    first : (j : Joined keep book.cells (begun book from parts) xs ys)
        → (rest : AreJoined keep book (suc from) parts sessions others)
        → (place part : ℕ) → place < length (j.all ∷ rest.all) → part ≡ from + place
        → AreTurnsOf book part parts (turns_in (at_place (j.all ∷ rest.all) place))
    first j rest zero part within is =
        subst (λ (n : ℕ). AreTurnsOf book n parts (turns_in j.all)) (let same : from ≡ part = omega (arith, is) in same)
        (record { reached = j.goes.reached; gone = j.goes.gone; over = j.goes.over })
    first j rest (suc place) part within is = rest.turns place part (omega (arith, within)) (omega (arith, is))

    share_one : (j : Joined keep book.cells (begun book from parts) xs ys)
        → (rest : AreJoined keep book (suc from) parts sessions others) → (place : ℕ)
        → kept_exchanges keep (at_place (j.all ∷ rest.all) place) ≡ at_place (xs ∷ sessions) place
    share_one j rest zero = j.one
    share_one j rest (suc place) = rest.one place

    share_two : (j : Joined keep book.cells (begun book from parts) xs ys)
        → (rest : AreJoined keep book (suc from) parts sessions others) → (place : ℕ)
        → kept_exchanges (leave keep) (at_place (j.all ∷ rest.all) place) ≡ at_place (ys ∷ others) place
    share_two j rest zero = j.two
    share_two j rest (suc place) = rest.two place

-- a cell's record is one of the whole sessions
whole_records : (keep : Keep) (slots : ℕ) (cells : List Cell) (all sessions : List (List Exchange))
    (records : List Record) → All (All (IsExchange cells)) all
    → ((place : ℕ) → kept_exchanges keep (at_place all place) ≡ at_place sessions place)
    → map (λ r. r.cell) records ≡ filter keep cells
    → All (IsRunBy slots sessions) records → All (IsRunBy slots all) records
whole_records keep slots cells all sessions records exchanged share named each = λ k d within.
    let r : Record = get_or records k d in
    let own : keep r.cell ≡ true =
    all_unmapped (λ (c : Cell). keep c ≡ true) (λ (r : Record). r.cell) records
    (subst (All (λ (c : Cell). keep c ≡ true)) (sym named) (filter_passes keep cells)) k d within in
    let by : IsRunBy slots sessions r = each k d within in record {
      run = by.run;
      over = by.over;
      legal = by.legal;
      order = by.order;
      own = λ part. by.own part
          ∙ ap (asked_of r.cell) (sym (share part))
          ∙ asked_same keep r.cell own cells (at_place all part)
          (all_at (IsExchange cells) all exchanged part);
      entries = by.entries;
    }

-- runs of some cells' book and of the others' make a run of the whole book, with as many sessions
pub live_parts_make_the_whole : BooksAreNetworks → LivePartsMakeTheWhole
live_parts_make_the_whole networks from input keep book slots sessions others records rest is long one two =
    let parts : ℕ = length sessions in
    let j : AreJoined keep book 0 parts sessions others =
    are_joined keep book 0 parts sessions others (orders_for_cells networks from input book is) long
    (λ place part within same. subst (λ (n : ℕ). AreTurnsOf (restricted keep book) n parts
    (turns_in (at_place sessions place))) (let is : place ≡ part = omega (arith, same) in is) (one.turns place within))
    (λ place part within same. subst (λ (n : ℕ). AreTurnsOf (restricted (leave keep) book) n parts
    (turns_in (at_place others place))) (let is : place ≡ part = omega (arith, same) in is)
    (subst (λ (n : ℕ). AreTurnsOf (restricted (leave keep) book) place n (turns_in (at_place others place))) long
    (two.turns place within)))
    one.exchanged two.exchanged in (
      j.all,
      j.long,
      record {
        turns = λ part within. subst (λ (n : ℕ). AreTurnsOf book part n (turns_in (at_place j.all part))) (sym j.long)
            (j.turns part part within (omega arith));
        cells = (is_merge (λ (r : Record). r.cell) keep book.cells records rest one.cells two.cells).all;
        exchanged = j.exchanged;
        each = all_merged (IsRunBy slots j.all) keep book.cells records rest
            (whole_records keep slots book.cells j.all sessions records j.exchanged j.one one.cells one.each)
            (whole_records (leave keep) slots book.cells j.all others rest j.exchanged j.two two.cells two.each);
      },
    )
