-- How often a session asks a cell: what a turn asks of it is one entry at most, and no more turns ask it than its part
-- of the book has orders.
use Rattle.std.proofs.Common.{◌≡◌, ℕ, ◌+◌, ◌<◌, ◌≤◌, ◌&&◌, ◌||◌, Bool, true, false, cond, not}
use Rattle.std.proofs.Common.{List, [], ◌∷◌, length, map}
use Rattle.std.proofs.Common.{filter, get_or, Option, Some, None, Result, Ok, Err, refl, sym, subst, ap, ◌∙◌, inl, inr}
use Rattle.std.proofs.Common.{suc, arith}
use Rattle.std.specs.Prelude.{nat_le}
use Rattle.std.specs.List.{All, list_all, list_any}
use Rattle.std.proofs.lemmas.Bool.{and_parts, cases_Bool, not-true, or_parts}
use Rattle.std.proofs.lemmas.List.{get_or-map, length-append, length-map}
use Rattle.std.proofs.lemmas.List.Elements.{All-head, All-tail}
use Rattle.cbsp_wire.specs.declared.message.Cell.{Cell}
use Rattle.cbsp_wire.specs.declared.message.Message.{Message}
use Rattle.cbsp_wire.specs.declared.message.Message.TheVariants as messages
use Rattle.cbsp_wire.specs.declared.message.message_type.MessageType.TheVariants as types
use Rattle.cbsp_wire.specs.Range.{all_cells_are_valid, are_distinct, cells_are_valid, cells_of_counts}
use Rattle.cbsp_wire.specs.Range.{cells_of_failures, contents_are_valid, is_cell, is_full, is_there_if, is_writable}
use Rattle.cbsp_wire.specs.Range.{numbers_are_valid, values_are_valid}
use Rattle.cbsp_wire.specs.Table.{presence_of}
use Rattle.cbsp_wire.specs.Value.{Fields, fields_of}
use Rattle.alert_book.specs.Book.{Contents}
use Rattle.reply_outcome.specs.Replies.{cells_asked}
use Rattle.alert_book.specs.TurnLaws.{AsksOncePerOrder, orders_in}
use Rattle.alert_book.specs.Session.{Standing}
use Rattle.alert_book.specs.Turns.{AreTurnsOf, GoesTo, Turn, begun, is_asked}
use Rattle.bsc_table.specs.declared.command.Category.{Category}
use Rattle.bsc_table.specs.declared.command.Command.{Command}
use Rattle.bsc_table.specs.declared.command.Command.TheVariants as commands
use Rattle.bsc_table.specs.declared.entry.Answer.{Answer}
use Rattle.bsc_table.specs.Orders.{category_of, if_basic_channel, if_category_known, is_basic, order_of}
use Rattle.order_desk.specs.Reply.{cells_answered}
use Rattle.book_runs.specs.Fit.{IsFit}
use Rattle.book_runs.specs.Run.{Exchange, IsExchange, asked_in, asked_of, asked_with}
use Rattle.cbsp_wire.proofs.CellLists.{same_cell}

-- an order is of the cells that its message asks
of_channel : (channel : Option ℕ) (cells named : List Cell) (command asked : Command)
    → if_basic_channel channel named asked ≡ Ok (cells, command)
    → named ≡ cells
of_channel channel cells named command asked order = by_channel (is_basic channel) order
  where
    by_channel : (basic : Bool)
        → (let made : Result (List Cell × Command) ℕ = cond basic (Ok (named, asked)) (Err 0x0C) in made)
        ≡ Ok (cells, command)
        → named ≡ cells
    by_channel true is =
        let same : (let pair : List Cell × Command = (named, asked) in pair) ≡ (cells, command) = cc in
        ap (λ (pair : List Cell × Command). pair.0) same
    by_channel false is = absurd (cc)

of_category : (category : Option Category) (cells named : List Cell) (channel : Option ℕ) (command : Command)
    (asked : Category → Command)
    → if_category_known category (λ c. if_basic_channel channel named (asked c)) ≡ Ok (cells, command)
    → named ≡ cells
of_category None cells named channel command asked order = absurd (cc)
of_category (Some c) cells named channel command asked order = of_channel channel cells named command (asked c) order

-- a command is given to the cells that its message names
pub order_asks : (m : Message) (cells : List Cell) (command : Command) → order_of m ≡ Ok (cells, command)
    → cells ≡ cells_asked m
order_asks (messages.Write id new old named channel category period broadcasts dcs contents) cells command order =
    sym (of_category (category_of category) cells named channel command
    (λ c. commands.Write id new old c dcs period broadcasts contents) order)
order_asks (messages.Kill id old named channel) cells command order =
    sym (of_channel channel cells named command (commands.Kill id old) order)
order_asks (messages.WriteDone a b c d e f) cells command order = absurd (cc)
order_asks (messages.WriteFailed a b c d e f g) cells command order = absurd (cc)
order_asks (messages.KillDone a b c d e) cells command order = absurd (cc)
order_asks (messages.KillFailed a b c d e f) cells command order = absurd (cc)

-- the cells of a message that can be written are distinct
first_of_four : (a b c d : Bool) → (a && b && c && d) ≡ true → a ≡ true
first_of_four a b c d all = (and_parts a b ((and_parts (a && b) c ((and_parts (a && b && c) d all).0)).0)).0

of_fields : (f : Fields) (cells failures : Bool)
    → (values_are_valid f && cells && failures && list_all is_full f.contents) ≡ true
    → are_distinct f.cells ≡ true
of_fields f cells failures writable =
    let values = first_of_four (values_are_valid f) cells failures (list_all is_full f.contents) writable in
    let numbers : Bool = contents_are_valid f.pages f.contents && numbers_are_valid f in
    let all = (and_parts numbers (all_cells_are_valid f) values).1 in
    let valid = (and_parts (cells_are_valid f.cells) (cells_are_valid (cells_of_counts f.completed))
    (and_parts (cells_are_valid f.cells && cells_are_valid (cells_of_counts f.completed))
    (cells_are_valid (cells_of_failures f.failures)) all).0).0 in
    (and_parts (nat_le (length f.cells) 64) (are_distinct f.cells) valid).1

distinct_cells : (m : Message) (cells : List Cell) (command : Command) → order_of m ≡ Ok (cells, command)
    → is_writable m ≡ true → are_distinct (cells_asked m) ≡ true
distinct_cells (messages.Write id new old named channel category period broadcasts dcs contents) cells command order
    writable =
    let f = fields_of (messages.Write id new old named channel category period broadcasts dcs contents) in
    of_fields f (is_there_if (presence_of types.Write 0x04) named)
    (is_there_if (presence_of types.Write 0x09) f.failures) writable
distinct_cells (messages.Kill id old named channel) cells command order writable =
    let f = fields_of (messages.Kill id old named channel) in
    of_fields f (is_there_if (presence_of types.Kill 0x04) named) (is_there_if (presence_of types.Kill 0x09) f.failures)
    writable
distinct_cells (messages.WriteDone a b c d e f) cells command order writable = absurd (cc)
distinct_cells (messages.WriteFailed a b c d e f g) cells command order writable = absurd (cc)
distinct_cells (messages.KillDone a b c d e) cells command order writable = absurd (cc)
distinct_cells (messages.KillFailed a b c d e f) cells command order writable = absurd (cc)

-- 1 where a test passes
abbrev once_if : Bool → ℕ
once_if b = cond b 1 0

-- a cell that isn't in a list isn't found in it
none_kept : (c : Cell) (cells : List Cell) → list_any (is_cell c) cells ≡ false → length (filter (is_cell c) cells) ≡ 0
none_kept c [] h = refl
none_kept c (d ∷ cells) h =
    let parts = or_parts (is_cell c d) (list_any (is_cell c) cells) h in
    ap (λ b. length (cond b (d ∷ filter (is_cell c) cells) (filter (is_cell c) cells))) parts.0
    ∙ none_kept c cells parts.1

-- and one of distinct cells is found once at most
kept_here : (c d : Cell) (cells : List Cell) → list_any (is_cell d) cells ≡ false → is_cell c d ≡ true
    → length (filter (is_cell c) (d ∷ cells)) ≤ once_if (list_any (is_cell c) (d ∷ cells))
kept_here c d cells apart same =
    let none : list_any (is_cell c) cells ≡ false =
    subst (λ (x : Cell). list_any (is_cell x) cells ≡ false) (sym (same_cell c d same)) apart in
    let kept = filter (is_cell c) cells in
    subst (λ b. length (cond b (d ∷ kept) kept) ≤ once_if (b || list_any (is_cell c) cells)) (sym same)
    (one (length kept) (none_kept c cells none))
  where
    one : (n : ℕ) → n ≡ 0 → suc n ≤ 1
    one n nothing = omega arith

kept_later : (c d : Cell) (cells : List Cell) → is_cell c d ≡ false
    → length (filter (is_cell c) cells) ≤ once_if (list_any (is_cell c) cells)
    → length (filter (is_cell c) (d ∷ cells)) ≤ once_if (list_any (is_cell c) (d ∷ cells))
kept_later c d cells other later =
    let kept = filter (is_cell c) cells in
    subst (λ b. length (cond b (d ∷ kept) kept) ≤ once_if (b || list_any (is_cell c) cells)) (sym other) later

kept_once : (c : Cell) (cells : List Cell) → are_distinct cells ≡ true
    → length (filter (is_cell c) cells) ≤ once_if (list_any (is_cell c) cells)
kept_once c [] h = omega arith
kept_once c (d ∷ cells) h =
    let parts = and_parts (not (list_any (is_cell d) cells)) (are_distinct cells) h in
    elim (cases_Bool (is_cell c d)) [
      | inl same ↦ kept_here c d cells (not-true (list_any (is_cell d) cells) parts.0) same
      | inr other ↦ kept_later c d cells other (kept_once c cells parts.1)
    ]

-- the answers of a cell are as many as its cells among those that answered
pub answers_kept : (c : Cell) (list : List (Cell × Answer))
    → length (filter (λ (a : Cell × Answer). is_cell c a.0) list) ≡ length (filter (is_cell c) (cells_answered list))
answers_kept c [] = refl
answers_kept c (a ∷ list) = by_test (is_cell c a.0) (answers_kept c list)
  where
    by_test : (b : Bool)
        → length (filter (λ (x : Cell × Answer). is_cell c x.0) list) ≡ length
        (filter (is_cell c) (cells_answered list))
        → length (cond b (a ∷ filter (λ (x : Cell × Answer). is_cell c x.0) list)
        (filter (λ (x : Cell × Answer). is_cell c x.0) list))
        ≡ length (cond b (a.0 ∷ filter (is_cell c) (cells_answered list)) (filter (is_cell c) (cells_answered list)))
    by_test true same = ap suc same
    by_test false same = same

-- the answers of an exchange have distinct cells
abbrev IsOfDistinct : Exchange → Type 0
IsOfDistinct x = are_distinct (cells_answered x.answers) ≡ true

-- what an exchange asks of a cell is nothing where its message doesn't, and else one entry
asked_once : (cells : List Cell) (c : Cell) (x : Exchange) → IsExchange cells x → IsOfDistinct x
    → length (asked_in c x) ≤ once_if (is_asked c x.turn)
asked_once cells c x is distinct =
    let asks = order_asks x.turn.request.message (cells_answered x.answers) x.command is.asked in
    let kept = kept_once c (cells_answered x.answers) distinct in
    let count : length (asked_in c x) ≡ length (filter (is_cell c) (cells_answered x.answers)) =
    length-map (filter (λ (a : Cell × Answer). is_cell c a.0) x.answers) (asked_with x) ∙ answers_kept c x.answers in
    subst (λ n. n ≤ once_if (is_asked c x.turn)) (sym count)
    (subst (λ (list : List Cell). length (filter (is_cell c) (cells_answered x.answers))
    ≤ once_if (list_any (is_cell c) list)) asks kept)

-- so exchanges ask no more of a cell than their turns do
asked_by_turns : (cells : List Cell) (c : Cell) (exchanges : List Exchange) → All (IsExchange cells) exchanges
    → All IsOfDistinct exchanges
    → length (asked_of c exchanges) ≤ length (filter (is_asked c) (map (λ x. x.turn) exchanges))
asked_by_turns cells c [] are distinct = omega arith
asked_by_turns cells c (x ∷ exchanges) are distinct =
    let first = asked_once cells c x (All-head (IsExchange cells) x exchanges are)
    (All-head IsOfDistinct x exchanges distinct) in
    let later = asked_by_turns cells c exchanges (All-tail (IsExchange cells) x exchanges are)
    (All-tail IsOfDistinct x exchanges distinct) in
    subst (λ n. n ≤ length (filter (is_asked c) (map (λ y. y.turn) (x ∷ exchanges))))
    (sym (length-append (asked_in c x) (asked_of c exchanges)))
    (together (is_asked c x.turn) (length (asked_in c x)) (length (asked_of c exchanges))
    (filter (is_asked c) (map (λ y. y.turn) exchanges)) first later)
  where
    together : (b : Bool) (n k : ℕ) (kept : List Turn) → n ≤ once_if b → k ≤ length kept
        → n + k ≤ length (cond b (x.turn ∷ kept) kept)
    together true n k kept first later = omega arith
    together false n k kept first later = omega arith

-- a session of a part asks a cell at most once for each of the part's orders, after any of its turns
pub asked_so_far : AsksOncePerOrder → (book : Contents) (part parts : ℕ) (cell : Cell) (exchanges : List Exchange)
    (reached : Standing)
    → IsFit book
    → GoesTo (begun book part parts) (map (λ x. x.turn) exchanges) reached → All (IsExchange book.cells) exchanges
    → length (asked_of cell exchanges) ≤ length (orders_in book part parts)
asked_so_far once book part parts cell exchanges reached fit gone exchanged =
    let turns : List Turn = map (λ x. x.turn) exchanges in
    let asked = asked_by_turns book.cells cell exchanges exchanged distinct in
    let few = once book part parts turns reached cell gone in
    omega (arith, asked, few)
  where
    distinct : All IsOfDistinct exchanges
    distinct k d within =
        let x : Exchange = get_or exchanges k d in
        let written = fit.writable part parts (map (λ (y : Exchange). y.turn) exchanges) reached gone k d.turn
        (subst (λ n. k < n) (sym (length-map exchanges (λ (y : Exchange). y.turn))) within) in
        let here : is_writable x.turn.request.message ≡ true =
        subst (λ (t : Turn). is_writable t.request.message ≡ true)
        (get_or-map (λ (y : Exchange). y.turn) exchanges k d d.turn within) written in
        let asked = (exchanged k d within).asked in
        subst (λ (list : List Cell). are_distinct list ≡ true)
        (sym (order_asks x.turn.request.message (cells_answered x.answers) x.command asked))
        (distinct_cells x.turn.request.message (cells_answered x.answers) x.command asked here)

-- and so after all of them
pub asked_few : AsksOncePerOrder → (book : Contents) (part parts : ℕ) (cell : Cell) (exchanges : List Exchange)
    → IsFit book
    → AreTurnsOf book part parts (map (λ x. x.turn) exchanges) → All (IsExchange book.cells) exchanges
    → length (asked_of cell exchanges) ≤ length (orders_in book part parts)
asked_few once book part parts cell exchanges fit session exchanged =
    asked_so_far once book part parts cell exchanges session.reached fit session.gone exchanged
