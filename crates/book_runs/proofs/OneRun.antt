-- A book has one run of so many slots: each turn asks what the replies before it have it ask, and each cell answers
-- what the commands before it have it answer.
use Rattle.std.proofs.Common.{◌≡◌, ℕ, Bool, true, false, cond, Option, Some, None, Result, Ok, List, [], ◌∷◌, ◌++◌}
use Rattle.std.proofs.Common.{filter, inl, inr, map, refl, ap, sym, subst, ◌∙◌}
use Rattle.std.specs.List.{All, list_any}
use Rattle.std.proofs.Math.Seq.{append_snoc}
use Rattle.std.proofs.lemmas.Bool.{both_ways, cases_Bool, or_cases}
use Rattle.std.proofs.lemmas.List.{append_assoc, append-nil}
use Rattle.std.proofs.lemmas.List.Elements.{All-head, All-tail}
use Rattle.scheduler.specs.Air.{Air, IsAirOf}
use Rattle.cbsp_wire.specs.declared.cause.TheConstants.{CELL_IDENTITY_NOT_VALID}
use Rattle.cbsp_wire.specs.declared.message.Cell.{Cell}
use Rattle.cbsp_wire.specs.declared.message.Message.{Message}
use Rattle.cbsp_wire.specs.Range.{is_cell}
use Rattle.alert_book.specs.declared.session.request.Request.{Request}
use Rattle.alert_book.specs.Book.{Contents}
use Rattle.alert_book.specs.Session.{Standing, after_reply}
use Rattle.alert_book.specs.Turns.{GoesTo, Turn, begun}
use Rattle.bsc_table.specs.declared.command.Command.{Command}
use Rattle.bsc_table.specs.declared.entry.Answer.{Answer}
use Rattle.bsc_table.specs.declared.entry.Answer.TheVariants as answers
use Rattle.bsc_table.specs.declared.entry.Entry.{Entry}
use Rattle.bsc_table.specs.Legal.{IsLegal}
use Rattle.bsc_table.specs.Orders.{order_of}
use Rattle.bsc_table.specs.Record.{Record, messages_in}
use Rattle.order_desk.specs.Reply.{cells_answered, reply_message}
use Rattle.book_runs.specs.OneRun.{RunsAreOne}
use Rattle.book_runs.specs.Run.{Asked, Exchange, IsExchange, IsRun, IsRunOfBook, asked_in, asked_of, entries_for}
use Rattle.book_runs.specs.Run.{is_among}
use Rattle.book_runs.specs.Run.{given_slot}
use Rattle.cbsp_wire.proofs.CellLists.{is_itself, same_cell}
use Rattle.book_runs.proofs.Laws.{OneRunLaws}
use Rattle.book_runs.proofs.OneAnswer.{answer_after, answer_is, messages_rise}
use Rattle.book_runs.proofs.SameBook.{same_turns}

-- where a cell's clock stands after what it was asked
abbrev clock_after : (slots clock : ℕ) → List Asked → ℕ
clock_after slots clock [] = clock
clock_after slots clock (a ∷ later) = clock_after slots (given_slot slots clock a.at) later

entries-append : (slots clock : ℕ) (before later : List Asked)
    → entries_for slots clock (before ++ later)
    ≡ entries_for slots clock before ++ entries_for slots (clock_after slots clock before) later
entries-append slots clock [] later = refl
entries-append slots clock (a ∷ before) later =
    let next : ℕ = given_slot slots clock a.at in
    ap (λ (es : List Entry). record { command = a.command; slot = next; answer = a.answer } ∷ es)
    (entries-append slots next before later)

-- a legal record of a run of so many slots, whose log has the entries of this
record HasRecord (slots : ℕ) (asked : List Asked) : Type 0 where
  pub r : Record
  pub run : r.slots ≡ slots
  pub legal : IsLegal r
  pub entries : r.log ≡ entries_for slots 0 asked

-- the answer to a command that is asked from a slot on, by what was asked before it
abbrev answer_to : (slots : ℕ) → List Asked → (at : ℕ) → Command → Answer
answer_to slots before at command =
    answer_after slots (entries_for slots 0 before) (given_slot slots (clock_after slots 0 before) at) command

answer_asked : (laws : OneRunLaws) (slots : ℕ) (before later : List Asked) (a : Asked)
    → HasRecord slots (before ++ a ∷ later)
    → a.answer ≡ answer_to slots before a.at a.command
answer_asked laws slots before later a has =
    let at : ℕ = given_slot slots (clock_after slots 0 before) a.at in
    let e : Entry = record { command = a.command; slot = at; answer = a.answer } in
    answer_is laws has.r (entries_for slots 0 before) (entries_for slots at later) e has.legal
    (has.entries ∙ entries-append slots 0 before (a ∷ later))
    ∙ ap (λ (n : ℕ). answer_after n (entries_for slots 0 before) at a.command) has.run

-- what a cell is asked, of the cells that answer a command
abbrev asked_with_answer : (at : ℕ) → Command → Cell × Answer → Asked
asked_with_answer at command given = record { at = at; command = command; answer = given.1 }

abbrev asked_among : (at : ℕ) → Command → Cell → List (Cell × Answer) → List Asked
asked_among at command cell given = map (asked_with_answer at command) (filter (λ a. is_cell cell a.0) given)

-- the first of them moves over to what was asked before
seam : (at : ℕ) (command : Command) (cell : Cell) (given : Cell × Answer) (more : List (Cell × Answer))
    (done later : List Asked)
    → done ++ (asked_among at command cell (given ∷ more) ++ later)
    ≡ done ++ asked_among at command cell (given ∷ []) ++ (asked_among at command cell more ++ later)
seam at command cell given more done later = by_cell (is_cell cell given.0)
  where
    by_cell : (own : Bool)
        → done ++ (map (asked_with_answer at command) (cond own (given ∷ filter (λ a. is_cell cell a.0) more)
        (filter (λ a. is_cell cell a.0) more)) ++ later)
        ≡ done ++ map (asked_with_answer at command) (cond own (given ∷ []) [])
        ++ (asked_among at command cell more ++ later)
    by_cell true =
        sym (append_snoc done (asked_with_answer at command given) (asked_among at command cell more ++ later))
    by_cell false =
        ap (λ (l : List Asked). l ++ (asked_among at command cell more ++ later)) (sym (append-nil done))

-- a cell of the run answers what it was asked before has it answer
own_answer : (laws : OneRunLaws) (slots at : ℕ) (command : Command) (given : Cell × Answer)
    (more : List (Cell × Answer)) (done later : List Asked)
    → HasRecord slots (done ++ (asked_among at command given.0 (given ∷ more) ++ later))
    → given.1 ≡ answer_to slots done at command
own_answer laws slots at command given more done later has =
    let kept : asked_among at command given.0 (given ∷ more)
    ≡ asked_with_answer at command given ∷ asked_among at command given.0 more =
    ap (λ b. map (asked_with_answer at command) (cond b (given ∷ filter (λ a. is_cell given.0 a.0) more)
    (filter (λ a. is_cell given.0 a.0) more))) (is_itself given.0) in
    answer_asked laws slots done (asked_among at command given.0 more ++ later) (asked_with_answer at command given)
    (subst (λ (l : List Asked). HasRecord slots (done ++ (l ++ later))) kept has)

-- each cell of the run has a record, of what was asked before, of what these answers say, and of what comes later
abbrev HaveRecords : List Cell → (slots at : ℕ) → Command → List (Cell × Answer) → (done later : Cell → List Asked)
    → Type 0
HaveRecords cells slots at command given done later =
    (c : Cell) → is_among cells c ≡ true
    → HasRecord slots (done c ++ (asked_among at command c given ++ later c))

-- a cell that isn't of the run is not identified
abbrev IsForeign : List Cell → Cell × Answer → Type 0
IsForeign cells given = is_among cells given.0 ≡ false → given.1 ≡ answers.Cause CELL_IDENTITY_NOT_VALID

first_cell : (a b : Cell) (xs ys : List Cell) → a ∷ xs ≡ b ∷ ys → a ≡ b
first_cell a b xs ys same = cc

later_cells : (a b : Cell) (xs ys : List Cell) → a ∷ xs ≡ b ∷ ys → xs ≡ ys
later_cells a b xs ys same = cc

-- so the answers to a command are determined, where the commands before it are
one_given : (laws : OneRunLaws) (cells : List Cell) (slots at : ℕ) (command : Command) (a b : Cell × Answer)
    (xs ys : List (Cell × Answer)) (done one two : Cell → List Asked) → a.0 ≡ b.0 → IsForeign cells a
    → IsForeign cells b
    → HaveRecords cells slots at command (a ∷ xs) done one → HaveRecords cells slots at command (b ∷ ys) done two
    → a ≡ b
one_given laws cells slots at command a b xs ys done one two cell foreign also mine theirs =
    ap (λ (c : Cell). (c, a.1)) cell ∙ ap (λ (x : Answer). (b.0, x)) answer
  where
    answer : a.1 ≡ b.1
    answer = elim (cases_Bool (is_among cells a.0)) [
      | inl own ↦
          own_answer laws slots at command a xs (done a.0) (one a.0) (mine a.0 own)
          ∙ ap (λ (c : Cell). answer_to slots (done c) at command) cell
          ∙ sym (own_answer laws slots at command b ys (done b.0) (two b.0)
          (theirs b.0 (subst (λ (c : Cell). is_among cells c ≡ true) cell own)))
      | inr other ↦ foreign other ∙ sym (also (subst (λ (c : Cell). is_among cells c ≡ false) cell other))
    ]

same_answers : (laws : OneRunLaws) (cells : List Cell) (slots at : ℕ) (command : Command)
    (xs ys : List (Cell × Answer)) (done one two : Cell → List Asked) → cells_answered xs ≡ cells_answered ys
    → All (IsForeign cells) xs → All (IsForeign cells) ys
    → HaveRecords cells slots at command xs done one → HaveRecords cells slots at command ys done two
    → xs ≡ ys
same_answers laws cells slots at command [] [] done one two same foreign also mine theirs = refl
same_answers laws cells slots at command [] (b ∷ ys) done one two same foreign also mine theirs = absurd (cc)
same_answers laws cells slots at command (a ∷ xs) [] done one two same foreign also mine theirs = absurd (cc)
same_answers laws cells slots at command (a ∷ xs) (b ∷ ys) done one two same foreign also mine theirs =
    let cell = first_cell a.0 b.0 (cells_answered xs) (cells_answered ys) same in
    let first : a ≡ b = one_given laws cells slots at command a b xs ys done one two cell
    (All-head (IsForeign cells) a xs foreign) (All-head (IsForeign cells) b ys also) mine theirs in
    let next : Cell × Answer → Cell → List Asked = λ given c. done c ++ asked_among at command c (given ∷ []) in
    let moved : HaveRecords cells slots at command xs (next a) one = λ c own.
    subst (HasRecord slots) (seam at command c a xs (done c) (one c)) (mine c own) in
    let also_moved : HaveRecords cells slots at command ys (next b) two = λ c own.
    subst (HasRecord slots) (seam at command c b ys (done c) (two c)) (theirs c own) in
    let rest = same_answers laws cells slots at command xs ys (next a) one two
    (later_cells a.0 b.0 (cells_answered xs) (cells_answered ys) same)
    (All-tail (IsForeign cells) a xs foreign) (All-tail (IsForeign cells) b ys also) moved
    (subst (λ (given : Cell × Answer). HaveRecords cells slots at command ys (next given) two) (sym first)
    also_moved) in
    ap (λ (given : Cell × Answer). given ∷ xs) first ∙ ap (λ (l : List (Cell × Answer)). b ∷ l) rest

-- an exchange, by its parts
abbrev exchange_with : Request → Message → Command → List (Cell × Answer) → Exchange
exchange_with request reply command given =
    record { turn = record { request = request; reply = reply }; command = command; answers = given }

one_request : (sent : Option Request) (a b : Request) → sent ≡ Some a → sent ≡ Some b → a ≡ b
one_request sent a b one two = cc

none_sent : (sent : Option Request) (a : Request) → sent ≡ None → sent ≡ Some a → ⊥
none_sent sent a one two = absurd (cc)

one_order : (order : Result (List Cell × Command) ℕ) (p q : List Cell × Command) → order ≡ Ok p → order ≡ Ok q → p ≡ q
one_order order p q one two = cc

-- each cell of the run has a record of what was asked before and in these exchanges
abbrev HaveAsked : List Cell → (slots : ℕ) → (done : Cell → List Asked) → List Exchange → Type 0
HaveAsked cells slots done exchanges =
    (c : Cell) → is_among cells c ≡ true → HasRecord slots (done c ++ asked_of c exchanges)

-- the next exchange is determined by those before it
one_exchange : (laws : OneRunLaws) (cells : List Cell) (slots : ℕ) (x y : Exchange) (xs ys : List Exchange)
    (done : Cell → List Asked)
    → x.turn.request ≡ y.turn.request → IsExchange cells x → IsExchange cells y
    → HaveAsked cells slots done (x ∷ xs) → HaveAsked cells slots done (y ∷ ys) → x ≡ y
one_exchange laws cells slots x y xs ys done request mine theirs asked also =
    let order : (cells_answered x.answers, x.command) ≡ (cells_answered y.answers, y.command) =
    one_order (order_of y.turn.request.message) (cells_answered x.answers, x.command)
    (cells_answered y.answers, y.command)
    (ap (λ (r : Request). order_of r.message) (sym request) ∙ mine.asked) theirs.asked in
    let command : x.command ≡ y.command = ap (λ (p : List Cell × Command). p.1) order in
    let at : x.turn.request.at ≡ y.turn.request.at = ap (λ (r : Request). r.at) request in
    let given : x.answers ≡ y.answers =
    same_answers laws cells slots y.turn.request.at y.command x.answers y.answers done
    (λ c. asked_of c xs) (λ c. asked_of c ys) (ap (λ (p : List Cell × Command). p.0) order) mine.foreign theirs.foreign
    (subst (λ (n : ℕ). HaveRecords cells slots n y.command x.answers done (λ c. asked_of c xs)) at
    (subst (λ (k : Command). HaveRecords cells slots x.turn.request.at k x.answers done (λ c. asked_of c xs)) command
    asked)) also in
    let reply : x.turn.reply ≡ y.turn.reply =
    mine.replied ∙ ap (λ (k : Command). reply_message k x.answers) command ∙ ap (reply_message y.command) given
    ∙ sym theirs.replied in
    ap (λ (r : Request). exchange_with r x.turn.reply x.command x.answers) request
    ∙ ap (λ (m : Message). exchange_with y.turn.request m x.command x.answers) reply
    ∙ ap (λ (k : Command). exchange_with y.turn.request y.turn.reply k x.answers) command
    ∙ ap (λ (l : List (Cell × Answer)). exchange_with y.turn.request y.turn.reply y.command l) given

abbrev turns_in : List Exchange → List Turn
turns_in exchanges = map (λ (x : Exchange). x.turn) exchanges

same_exchanges : (laws : OneRunLaws) (cells : List Cell) (slots : ℕ) (from reached end : Standing)
    (xs ys : List Exchange) (done : Cell → List Asked)
    → GoesTo from (turns_in xs) reached → reached.sent ≡ None → GoesTo from (turns_in ys) end → end.sent ≡ None
    → All (IsExchange cells) xs → All (IsExchange cells) ys
    → HaveAsked cells slots done xs → HaveAsked cells slots done ys → xs ≡ ys
same_exchanges laws cells slots from reached end [] [] done goes over also ends mine theirs asked others = refl
same_exchanges laws cells slots from reached end [] (y ∷ ys) done goes over also ends mine theirs asked others =
    absurd (none_sent from.sent y.turn.request (ap (λ (s : Standing). s.sent) (sym goes) ∙ over) also.0)
same_exchanges laws cells slots from reached end (x ∷ xs) [] done goes over also ends mine theirs asked others =
    absurd (none_sent from.sent x.turn.request (ap (λ (s : Standing). s.sent) (sym also) ∙ ends) goes.0)
same_exchanges laws cells slots from reached end (x ∷ xs) (y ∷ ys) done goes over also ends mine theirs asked others =
    let first : x ≡ y = one_exchange laws cells slots x y xs ys done
    (one_request from.sent x.turn.request y.turn.request goes.0 also.0) (All-head (IsExchange cells) x xs mine)
    (All-head (IsExchange cells) y ys theirs) asked others in
    let next : Exchange → Cell → List Asked = λ z c. done c ++ asked_in c z in
    let moved : HaveAsked cells slots (next x) xs = λ c own.
    subst (HasRecord slots) (sym (append_assoc (done c) (asked_in c x) (asked_of c xs))) (asked c own) in
    let also_moved : HaveAsked cells slots (next y) ys = λ c own.
    subst (HasRecord slots) (sym (append_assoc (done c) (asked_in c y) (asked_of c ys))) (others c own) in
    let rest = same_exchanges laws cells slots (after_reply (Some x.turn.reply) from) reached end xs ys (next x)
    goes.1 over
    (subst (λ (z : Exchange). GoesTo (after_reply (Some z.turn.reply) from) (turns_in ys) end) (sym first) also.1) ends
    (All-tail (IsExchange cells) x xs mine) (All-tail (IsExchange cells) y ys theirs) moved
    (subst (λ (z : Exchange). HaveAsked cells slots (next z) ys) (sym first) also_moved) in
    ap (λ (z : Exchange). z ∷ xs) first ∙ ap (λ (l : List Exchange). y ∷ l) rest

-- each cell of a run has a record of what its exchanges asked it
record_of : (slots : ℕ) (exchanges : List Exchange) (records : List Record) → All (IsRunOfBook slots exchanges) records
    → (c : Cell) → is_among (map (λ r. r.cell) records) c ≡ true → HasRecord slots (asked_of c exchanges)
record_of slots exchanges [] each c own = absurd (both_ways false refl own)
record_of slots exchanges (r ∷ records) each c own =
    elim (or_cases (is_cell c r.cell) (list_any (is_cell c) (map (λ (s : Record). s.cell) records)) own) [
      | inl same ↦ of_first (same_cell c r.cell same)
      | inr later ↦
          record_of slots exchanges records (All-tail (IsRunOfBook slots exchanges) r records each) c later
    ]
  where
    of_first : c ≡ r.cell → HasRecord slots (asked_of c exchanges)
    of_first is =
        let run = All-head (IsRunOfBook slots exchanges) r records each in record {
          r = r;
          run = run.run;
          legal = run.legal;
          entries = run.entries ∙ ap (λ (k : Cell). entries_for slots 0 (asked_of k exchanges)) (sym is);
        }

-- a finished record, by its parts
abbrev record_with : Cell → (slots clock : ℕ) → List Entry → Air → Record
record_with cell slots clock log air = record { cell = cell; slots = slots; clock = clock; log = log; air = air }

-- and its record is determined by them
one_record : (laws : OneRunLaws) (slots : ℕ) (exchanges : List Exchange) (r q : Record) → r.cell ≡ q.cell
    → IsRunOfBook slots exchanges r → IsRunOfBook slots exchanges q → r ≡ q
one_record laws slots exchanges r q cell mine theirs =
    let log : r.log ≡ q.log =
    mine.entries ∙ ap (λ (c : Cell). entries_for slots 0 (asked_of c exchanges)) cell ∙ sym theirs.entries in
    let clock : r.clock ≡ q.clock = mine.over ∙ sym theirs.over in
    let air : r.air ≡ q.air = laws.one_air (messages_in q.log) r.air q.air (messages_rise q.log)
    (subst (λ (l : List Entry). IsAirOf (messages_in l) r.air) log mine.legal.aired) theirs.legal.aired
    (mine.legal.played ∙ clock ∙ sym theirs.legal.played) in
    ap (λ (c : Cell). record_with c r.slots r.clock r.log r.air) cell
    ∙ ap (λ (n : ℕ). record_with q.cell n r.clock r.log r.air) (mine.run ∙ sym theirs.run)
    ∙ ap (λ (n : ℕ). record_with q.cell q.slots n r.log r.air) clock
    ∙ ap (λ (l : List Entry). record_with q.cell q.slots q.clock l r.air) log
    ∙ ap (λ (a : Air). record_with q.cell q.slots q.clock q.log a) air

same_records : (laws : OneRunLaws) (slots : ℕ) (exchanges : List Exchange) (records rest : List Record)
    → map (λ r. r.cell) records ≡ map (λ r. r.cell) rest → All (IsRunOfBook slots exchanges) records
    → All (IsRunOfBook slots exchanges) rest → records ≡ rest
same_records laws slots exchanges [] [] cells mine theirs = refl
same_records laws slots exchanges [] (q ∷ rest) cells mine theirs = absurd (cc)
same_records laws slots exchanges (r ∷ records) [] cells mine theirs = absurd (cc)
same_records laws slots exchanges (r ∷ records) (q ∷ rest) cells mine theirs =
    let named : List Record → List Cell = λ all. map (λ (s : Record). s.cell) all in
    let first : r ≡ q = one_record laws slots exchanges r q
    (first_cell r.cell q.cell (named records) (named rest) cells)
    (All-head (IsRunOfBook slots exchanges) r records mine) (All-head (IsRunOfBook slots exchanges) q rest theirs) in
    ap (λ (s : Record). s ∷ records) first
    ∙ ap (λ (l : List Record). q ∷ l)
    (same_records laws slots exchanges records rest (later_cells r.cell q.cell (named records) (named rest) cells)
    (All-tail (IsRunOfBook slots exchanges) r records mine) (All-tail (IsRunOfBook slots exchanges) q rest theirs))

-- so a book has one run
pub one_run : (laws : OneRunLaws) (book : Contents) (slots : ℕ) (exchanges others : List Exchange)
    (records rest : List Record) → IsRun book slots exchanges records → IsRun book slots others rest
    → (exchanges ≡ others) × (records ≡ rest)
one_run laws book slots exchanges others records rest one two =
    let asked : HaveAsked book.cells slots (λ c. []) exchanges = λ c own.
    record_of slots exchanges records one.each c
    (subst (λ (cells : List Cell). is_among cells c ≡ true) (sym one.cells) own) in
    let also : HaveAsked book.cells slots (λ c. []) others = λ c own.
    record_of slots others rest two.each c
    (subst (λ (cells : List Cell). is_among cells c ≡ true) (sym two.cells) own) in
    let same : exchanges ≡ others = same_exchanges laws book.cells slots (begun book 0 1) one.session.reached
    two.session.reached exchanges others (λ c. []) one.session.gone one.session.over two.session.gone two.session.over
    one.exchanged two.exchanged asked also in (
      same,
      same_records laws slots others records rest (one.cells ∙ sym two.cells)
          (subst (λ (xs : List Exchange). All (IsRunOfBook slots xs) records) same one.each) two.each,
    )

-- a run of a book is one of each book with the same cells, orders and pages
pub runs_are_one : OneRunLaws → RunsAreOne
runs_are_one laws from input book other slots exchanges others records rest is also one two =
    let same = laws.books_are_one from input book other is also in
    one_run laws other slots exchanges others records rest (record {
      session = same_turns book other 0 1 (turns_in exchanges) same.1 same.2 one.session;
      cells = one.cells ∙ same.0;
      exchanged = subst (λ (cells : List Cell). All (IsExchange cells) exchanges) same.0 one.exchanged;
      each = one.each;
    }) two
