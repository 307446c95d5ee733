-- A desk of a book's cells that is settled with the passes of the book's sessions has a run of the book.
use Rattle.std.proofs.Common.{◌≡◌, ℕ, zero, suc, ◌<◌, true, List, [], ◌∷◌, length, map, filter}
use Rattle.std.proofs.Common.{get_or, refl, ap, subst, sym, ◌∙◌, arith, inl, inr}
use Rattle.std.specs.Prelude.{nat_le}
use Rattle.std.specs.List.{All, AllZip}
use Rattle.std.proofs.lemmas.Bool.{and_parts, cases_lt}
use Rattle.std.proofs.lemmas.List.{get_or-map, get_or_past, length-map}
use Rattle.std.proofs.lemmas.List.Elements.{All-cons, All-nil, AllZip-get_or, length_all_zip}
use Rattle.std.proofs.lemmas.List.Folds.{list_any_at}
use Rattle.cbsp_wire.specs.declared.message.Cell.{Cell}
use Rattle.cbsp_wire.specs.Range.{are_distinct, is_cell}
use Rattle.alert_book.proofs.Origins.{paged_from}
use Rattle.alert_book.specs.Book.{Contents}
use Rattle.alert_book.specs.Turns.{AreTurnsOf}
use Rattle.bsc_table.specs.declared.entry.Entry.{Entry}
use Rattle.bsc_table.specs.Record.{Record}
use Rattle.order_desk.specs.declared.note.Note.{Note}
use Rattle.order_desk.specs.Agreement.{Agrees, IsRightNumber}
use Rattle.order_desk.specs.Settled.{IsBookOf, IsPlayedOut}
use Rattle.book_runs.specs.Live.{IsLiveRun, IsRunBy}
use Rattle.alert_book.specs.TurnLaws.{AsksOncePerOrder}
use Rattle.alert_book.specs.declared.network.Origin.{Origin}
use Rattle.alert_book.specs.Origin.{IsBookFrom}
use Rattle.book_runs.specs.Fit.{IsFit, SettledFitBooksAreRuns}
use Rattle.book_runs.specs.LiveLaws.{SettledSessionsAreRuns}
use Rattle.book_runs.specs.Run.{Exchange, entries_for, is_among}
use Rattle.book_runs.specs.Sessions.{AreSessions, IsNoteOf, IsSessionOf, asks_of, is_of_command}
use Rattle.book_runs.proofs.Asking.{asked_few}
use Rattle.cbsp_wire.proofs.CellLists.{is_itself}
use Rattle.book_runs.proofs.Cells.{have_slots}
use Rattle.book_runs.proofs.InOrder.{asked_in_order}
use Rattle.book_runs.proofs.Laws.{BookLaws}
use Rattle.book_runs.proofs.Parts.{Service}

-- a list of what there is for each number below a bound
listed : {X : Type 0} (P : ℕ → X → Type 0) (n : ℕ) → ((k : ℕ) → k < n → (x : X) × P k x)
    → (xs : List X) × (length xs ≡ n) × ((k : ℕ) (d : X) → k < n → P k (get_or xs k d))
listed P zero each = ([], refl, λ k d within. absurd (nothing k within))
  where
    nothing : (k : ℕ) → k < 0 → ⊥
    nothing k within = omega arith
listed {X = X} P (suc n) each =
    let first = each 0 (omega arith) in
    let later = listed (λ k. P (suc k)) n (λ k within. each (suc k) (omega arith)) in
    (first.0 ∷ later.0, ap suc later.1, at first.0 first.1 later.0 later.2)
  where
    at : (x : X) → P 0 x → (xs : List X) → ((k : ℕ) (d : X) → k < n → P (suc k) (get_or xs k d))
        → (k : ℕ) (d : X) → k < suc n → P k (get_or (x ∷ xs) k d)
    at x here xs there zero d within = here
    at x here xs there (suc k) d within = there k d (omega arith)

-- the cells of a desk's books, and of what they become
cells_of_books : (slots : ℕ) (cells : List Cell) (books : List Record) → AllZip (IsBookOf slots) cells books
    → map (λ r. r.cell) books ≡ cells
cells_of_books slots [] [] are = refl
cells_of_books slots [] (r ∷ books) are = absurd are
cells_of_books slots (cell ∷ cells) [] are = absurd are
cells_of_books slots (cell ∷ cells) (r ∷ books) are =
    ap (λ (c : Cell). c ∷ map (λ (s : Record). s.cell) books) are.0.0
    ∙ ap (λ (later : List Cell). cell ∷ later) (cells_of_books slots cells books are.1)

slots_of_books : (slots : ℕ) (cells : List Cell) (books : List Record) → AllZip (IsBookOf slots) cells books
    → All (λ r. r.slots ≡ slots) books
slots_of_books slots [] [] are = All-nil (λ (r : Record). r.slots ≡ slots)
slots_of_books slots [] (r ∷ books) are = absurd are
slots_of_books slots (cell ∷ cells) [] are = absurd are
slots_of_books slots (cell ∷ cells) (r ∷ books) are =
    All-cons (λ (s : Record). s.slots ≡ slots) r books are.0.1 (slots_of_books slots cells books are.1)

cells_stay : (books records : List Record) → AllZip IsPlayedOut books records
    → map (λ r. r.cell) records ≡ map (λ r. r.cell) books
cells_stay [] [] played = refl
cells_stay [] (r ∷ records) played = absurd played
cells_stay (b ∷ books) [] played = absurd played
cells_stay (b ∷ books) (r ∷ records) played =
    ap (λ (c : Cell). c ∷ map (λ (s : Record). s.cell) records) played.0.played.same_cell
    ∙ ap (λ (later : List Cell). b.cell ∷ later) (cells_stay books records played.1)

-- the cell of a record is one of them
among : (records : List Record) (k : ℕ) (d : Record) → k < length records
    → is_among (map (λ r. r.cell) records) (get_or records k d).cell ≡ true
among records k d within =
    let cell : Cell = (get_or records k d).cell in
    list_any_at (is_cell cell) (map (λ (r : Record). r.cell) records) k d.cell
    (subst (λ n. k < n) (sym (length-map records (λ (r : Record). r.cell))) within)
    (subst (λ (c : Cell). is_cell cell c ≡ true)
    (sym (get_or-map (λ (r : Record). r.cell) records k d d.cell within)) (is_itself cell))

-- what a session's pass notes of commands, and that past the last part there is none
are_noted : (book : Contents) (parts : ℕ) (records : List Record) (passes : List (List Note))
    (sessions : List (List Exchange)) → AreSessions book parts records passes → length sessions ≡ parts
    → ((q : ℕ) (d : List Exchange) → q < parts
    → IsSessionOf book q parts records (get_or passes q []) (get_or sessions q d))
    → (q : ℕ) → AllZip (IsNoteOf records) (asks_of book.cells (get_or sessions q []))
    (filter is_of_command (get_or passes q []))
are_noted book parts records passes sessions are long is q = elim (cases_lt q parts) [
  | inl within ↦ (is q [] within).noted
  | inr past ↦
      subst (λ (exchanges : List Exchange). AllZip (IsNoteOf records) (asks_of book.cells exchanges)
      (filter is_of_command (get_or passes q []))) (sym (get_or_past sessions q [] (omega (arith, long, past))))
      (subst (λ (list : List Note). AllZip (IsNoteOf records) [] list) (sym ((are q).later past)) tt)
]

-- the numbers of a book are right of what it becomes
right_after : (passes : List (List Note)) (before after : Record) → Agrees passes before → IsPlayedOut before after
    → (k : ℕ) → IsRightNumber after.cell after.log passes k
right_after passes before after agrees out k =
    subst (λ (c : Cell). IsRightNumber c after.log passes k) (sym out.played.same_cell)
    (subst (λ (log : List Entry). IsRightNumber before.cell log passes k) (sym out.played.same_log) (agrees.numbers k))

-- sessions whose desk is settled, and whose notes are those of their turns, are a run of the book
pub settled_fit_books_are_runs : AsksOncePerOrder → SettledFitBooksAreRuns
settled_fit_books_are_runs once book slots parts desk passes records fit some same_cells same_slots settled
    are =
    let made = listed (λ k. IsSessionOf book k parts records (get_or passes k [])) parts
    (λ k within. (are k).own within) in
    (made.0, made.1, live made.0 made.1 made.2)
  where
    service : List (List Exchange) → Service
    service sessions =
        record { book = book; parts = parts; records = records; passes = passes; sessions = sessions }

    cells : map (λ r. r.cell) records ≡ book.cells
    cells = cells_stay desk.books records settled.played ∙ cells_of_books desk.slots desk.cells desk.books settled.right
        ∙ same_cells

    distinct : are_distinct (map (λ (r : Record). r.cell) records) ≡ true
    distinct = subst (λ (list : List Cell). are_distinct list ≡ true) (sym cells)
        (and_parts (nat_le (length book.cells) 64) (are_distinct book.cells)
        fit.cells).1

    long : length desk.books ≡ length records
    long = length_all_zip IsPlayedOut desk.books records settled.played

    each : (sessions : List (List Exchange)) → length sessions ≡ parts
        → ((q : ℕ) (d : List Exchange) → q < parts
        → IsSessionOf book q parts records (get_or passes q []) (get_or sessions q d))
        → All (IsRunBy slots sessions) records
    each sessions count sess k d within =
        let in_books : k < length desk.books = subst (λ n. k < n) (sym long) within in
        let out : IsPlayedOut (get_or desk.books k d) (get_or records k d) =
        AllZip-get_or IsPlayedOut desk.books records k d d settled.played in_books in
        let run : (get_or desk.books k d).slots ≡ slots =
        slots_of_books desk.slots desk.cells desk.books settled.right k d in_books ∙ same_slots in
        let own : is_among book.cells (get_or records k d).cell ≡ true =
        subst (λ (list : List Cell). is_among list (get_or records k d).cell ≡ true) cells (among records k d within) in
        let asked = asked_in_order (service sessions) (get_or records k d) (record {
          noted = are_noted book parts records passes sessions are count sess;
          right = right_after passes (get_or desk.books k d) (get_or records k d)
              (settled.agree k d in_books) out;
          slots = have_slots records distinct k d within;
          among = own;
          past = λ q past. get_or_past sessions q [] (omega (arith, count, past));
          few = λ q below. asked_few once book q parts (get_or records k d).cell
              (get_or sessions q []) fit (sess q [] below).turns (sess q [] below).exchanged;
          orders = fit.orders;
        }) in
        let same : (get_or records k d).slots ≡ slots = out.played.same_slots ∙ run in
        record {
          run = same;
          over = out.played.clock_at ∙ run;
          legal = out.legal;
          order = asked.order;
          own = asked.own;
          entries = asked.entries ∙ ap (λ n. entries_for n 0 (map (λ a. a.1) asked.order)) same;
        }

    live : (sessions : List (List Exchange)) → length sessions ≡ parts
        → ((q : ℕ) (d : List Exchange) → q < parts
        → IsSessionOf book q parts records (get_or passes q []) (get_or sessions q d))
        → IsLiveRun book slots sessions records
    live sessions count sess = record {
      turns = λ part within. subst (λ n. AreTurnsOf book part n (map (λ x. x.turn) (get_or sessions part [])))
          (sym count) (sess part [] (subst (λ n. part < n) count within)).turns;
      cells = cells;
      exchanged = λ k d within. (sess k d (subst (λ n. k < n) count within)).exchanged;
      each = each sessions count sess;
    }

-- so are those of a book that was read
pub books_are_fit : BookLaws → (from : Origin) (input : List ℕ) (book : Contents) → IsBookFrom from input book
    → IsFit book
books_are_fit laws from input book is = record {
  cells = laws.cells_are_valid from input book is;
  orders = laws.orders_are_few from input book is;
  paged = paged_from from input book is;
  writable = λ part parts turns reached goes. laws.writable from input book part parts turns reached is goes;
}

-- a desk of a book that was read has a run of it, too
pub settled_sessions_are_runs : BookLaws → SettledSessionsAreRuns
settled_sessions_are_runs laws from input book slots parts desk passes records is some same_cells same_slots settled
    are =
    settled_fit_books_are_runs laws.once_per_order book slots parts desk passes records
    (books_are_fit laws from input book is) some same_cells same_slots settled are
