-- What a session believes of a cell after a turn, by what that cell answered alone.
use Rattle.std.proofs.Common.{◌≡◌, ℕ, Bool, true, false, cond, eqb, eq-eqb, Option, Some, None, Result, Ok, Err, List}
use Rattle.std.proofs.Common.{[]}
use Rattle.std.proofs.Common.{◌∷◌, ◌&&◌, filter, refl, ap, sym, subst, ◌∙◌}
use Rattle.std.specs.List.{cons_option, filter_map, find, list_any}
use Rattle.cbsp_wire.specs.declared.message.Cell.{Cell}
use Rattle.cbsp_wire.specs.declared.message.Count.{Count}
use Rattle.cbsp_wire.specs.declared.message.Failure.{Failure}
use Rattle.cbsp_wire.specs.declared.message.Message.{Message}
use Rattle.cbsp_wire.specs.declared.message.Message.TheVariants as messages
use Rattle.cbsp_wire.specs.CellLists.{contains}
use Rattle.cbsp_wire.specs.Range.{is_cell}
use Rattle.cbsp_wire.proofs.CellLists.{same_cell}
use Rattle.reply_outcome.specs.declared.outcome.Outcome.{Outcome}
use Rattle.alert_book.specs.declared.session.request.Request.{Request}
use Rattle.alert_book.specs.Session.{version_after}
use Rattle.reply_outcome.specs.Replies.{accepting, cells_asked, cells_counted, is_kill_of, is_write_of, outcome_of}
use Rattle.reply_outcome.specs.Replies.{outcome_with, refuses, same_serial, version_by}
use Rattle.bsc_table.specs.declared.command.Category.{Category}
use Rattle.bsc_table.specs.declared.command.Command.{Command}
use Rattle.bsc_table.specs.declared.command.Command.TheVariants as commands
use Rattle.bsc_table.specs.declared.entry.Answer.{Answer}
use Rattle.bsc_table.specs.declared.entry.Answer.TheVariants as answers
use Rattle.bsc_table.specs.Orders.{category_of, if_basic_channel, if_category_known, is_basic, order_of}
use Rattle.order_desk.specs.Reply.{accepting_cells, cell_by, cells_answered, count_by, counted_in, failure_by}
use Rattle.order_desk.specs.Reply.{kill_reply}
use Rattle.order_desk.specs.Reply.{refused_in, reply_message, write_reply}
use Rattle.book_runs.specs.CellParts.{kept_answers, kept_message, kept_request}
use Rattle.alert_book.specs.Restricted.{Keep}
use Rattle.book_runs.proofs.Asking.{order_asks}
use Rattle.book_runs.proofs.CellLists.{any_first, filter_first}
use Rattle.book_runs.proofs.Texts.{basic, written}

-- what the reply to a command says
abbrev pub said : Command → List (Cell × Answer) → Outcome
said (commands.Write id serial None category dcs period broadcasts contents) given =
    outcome_with (accepting_cells given) (refused_in given)
said (commands.Write id serial (Some old) category dcs period broadcasts contents) given =
    outcome_with (cells_counted (counted_in given)) (refused_in given)
said (commands.Kill id serial) given = outcome_with (cells_counted (counted_in given)) (refused_in given)
said (commands.Status id serial) given = outcome_with [] []

itself : (n : ℕ) → eqb n n ≡ true
itself n = eq-eqb n n refl

same_serials : (old : Option ℕ) → same_serial old old ≡ true
same_serials None = refl
same_serials (Some n) = itself n

write_said : (message : Message) (id new : ℕ) (old : Option ℕ) → is_write_of id new old message ≡ true
    → (refused : List Failure) (completed : List Count) (cells : List Cell)
    → outcome_of message (write_reply id new old refused completed cells)
    ≡ Some (outcome_with (accepting old completed cells) refused)
write_said message id new old is [] completed cells = rw is refl
write_said message id new old is (f ∷ refused) completed cells = rw is refl

kill_said : (message : Message) (id old : ℕ) → is_kill_of id old message ≡ true
    → (refused : List Failure) (completed : List Count)
    → outcome_of message (kill_reply id old refused completed) ≡ Some (outcome_with (cells_counted completed) refused)
kill_said message id old is [] completed = rw is refl
kill_said message id old is (f ∷ refused) completed = rw is refl

three : (a b c : Bool) → a ≡ true → b ≡ true → c ≡ true → (a && b && c) ≡ true
three a b c one two more = rw (one, two, more) refl

two : (a b : Bool) → a ≡ true → b ≡ true → (a && b) ≡ true
two a b one more = rw (one, more) refl

-- the reply to a message that means a command is one to it, and says what the cells answered
pub reply_says : (message : Message) (cells : List Cell) (command : Command) (given : List (Cell × Answer))
    → order_of message ≡ Ok (cells, command)
    → outcome_of message (reply_message command given) ≡ Some (said command given)
reply_says (messages.Write id new None asked channel category period broadcasts dcs contents) cells command given
    order =
    let message : Message = messages.Write id new None asked channel category period broadcasts dcs contents in
    let found = written (category_of category) (λ known. if_basic_channel channel asked
    (commands.Write id new None known dcs period broadcasts contents)) cells command order in
    let same : commands.Write id new None found.0 dcs period broadcasts contents ≡ command =
    basic channel asked cells (commands.Write id new None found.0 dcs period broadcasts contents) command found.1 in
    subst (λ (c : Command). outcome_of message (reply_message c given) ≡ Some (said c given)) same
    (write_said message id new None (three (eqb id id) (eqb new new) true (itself id) (itself new) refl)
    (refused_in given) [] (accepting_cells given))
reply_says (messages.Write id new (Some old) asked channel category period broadcasts dcs contents) cells command
    given order =
    let message : Message = messages.Write id new (Some old) asked channel category period broadcasts dcs contents in
    let found = written (category_of category) (λ known. if_basic_channel channel asked
    (commands.Write id new (Some old) known dcs period broadcasts contents)) cells command order in
    let same : commands.Write id new (Some old) found.0 dcs period broadcasts contents ≡ command =
    basic channel asked cells (commands.Write id new (Some old) found.0 dcs period broadcasts contents) command
    found.1 in
    subst (λ (c : Command). outcome_of message (reply_message c given) ≡ Some (said c given)) same
    (write_said message id new (Some old) (three (eqb id id) (eqb new new) (eqb old old) (itself id) (itself new)
    (itself old))
    (refused_in given) (counted_in given) [])
reply_says (messages.Kill id old asked channel) cells command given order =
    let message : Message = messages.Kill id old asked channel in
    let same : commands.Kill id old ≡ command = basic channel asked cells (commands.Kill id old) command order in
    subst (λ (c : Command). outcome_of message (reply_message c given) ≡ Some (said c given)) same
    (kill_said message id old (two (eqb id id) (eqb old old) (itself id) (itself old)) (refused_in given)
    (counted_in given))
reply_says (messages.WriteDone a b c d e f) cells command given order = absurd (cc)
reply_says (messages.WriteFailed a b c d e f g) cells command given order = absurd (cc)
reply_says (messages.KillDone a b c d e) cells command given order = absurd (cc)
reply_says (messages.KillFailed a b c d e f) cells command given order = absurd (cc)

-- a message means the same command to some of its cells
channel_means : (keep : Keep) (channel : Option ℕ) (asked cells : List Cell) (asks command : Command)
    → if_basic_channel channel asked asks ≡ Ok (cells, command)
    → if_basic_channel channel (filter keep asked) asks ≡ Ok (filter keep cells, command)
channel_means keep channel asked cells asks command is = by_channel (is_basic channel) is
  where
    by_channel : (test : Bool)
        → (let made : Result (List Cell × Command) ℕ = cond test (Ok (asked, asks)) (Err 0x0C) in made)
        ≡ Ok (cells, command)
        → (let made : Result (List Cell × Command) ℕ = cond test (Ok (filter keep asked, asks)) (Err 0x0C) in made)
        ≡ Ok (filter keep cells, command)
    by_channel true is =
        let same : (let pair : List Cell × Command = (asked, asks) in pair) ≡ (cells, command) = cc in
        ap (λ (pair : List Cell × Command). let made : Result (List Cell × Command) ℕ = Ok (
          filter keep pair.0,
          pair.1,
        ) in made) same
    by_channel false is = absurd (cc)

category_means : (keep : Keep) (category : Option Category) (asks : Category → Command) (channel : Option ℕ)
    (asked cells : List Cell) (command : Command)
    → if_category_known category (λ known. if_basic_channel channel asked (asks known)) ≡ Ok (cells, command)
    → if_category_known category (λ known. if_basic_channel channel (filter keep asked) (asks known))
    ≡ Ok (filter keep cells, command)
category_means keep None asks channel asked cells command order = absurd (cc)
category_means keep (Some known) asks channel asked cells command order =
    channel_means keep channel asked cells (asks known) command order

-- what a message asks of some of its cells is the same command to these
pub kept_means : (keep : Keep) (message : Message) (cells : List Cell) (command : Command)
    → order_of message ≡ Ok (cells, command) → order_of (kept_message keep message) ≡ Ok (filter keep cells, command)
kept_means keep (messages.Write id new old asked channel category period broadcasts dcs contents) cells command order =
    category_means keep (category_of category) (λ known. commands.Write id new old known dcs period broadcasts contents)
    channel asked cells command order
kept_means keep (messages.Kill id old asked channel) cells command order =
    channel_means keep channel asked cells (commands.Kill id old) command order
kept_means keep (messages.WriteDone a b c d e f) cells command order = absurd (cc)
kept_means keep (messages.WriteFailed a b c d e f g) cells command order = absurd (cc)
kept_means keep (messages.KillDone a b c d e) cells command order = absurd (cc)
kept_means keep (messages.KillFailed a b c d e f) cells command order = absurd (cc)

-- and asks those of its cells
pub kept_asks : (keep : Keep) (message : Message) (cells : List Cell) (command : Command)
    → order_of message ≡ Ok (cells, command) → cells_asked (kept_message keep message) ≡ filter keep cells
kept_asks keep message cells command order =
    sym (order_asks (kept_message keep message) (filter keep cells) command
    (kept_means keep message cells command order))

-- the answers of one cell
abbrev pub own_of : Cell → List (Cell × Answer) → List (Cell × Answer)
own_of cell given = filter (λ a. is_cell cell a.0) given

-- no other cell's answer is found
abbrev finds : {Y : Type 0} → (Y → Bool) → Option Y → Bool
finds p None = false
finds p (Some y) = p y

find_head : {Y : Type 0} (p : Y → Bool) (o : Option Y) (xs ys : List Y) → find p xs ≡ find p ys
    → find p (cons_option o xs) ≡ find p (cons_option o ys)
find_head p None xs ys rest = rest
find_head p (Some y) xs ys rest = ap (cond (p y) (Some y)) rest

find_skip : {Y : Type 0} (p : Y → Bool) (o : Option Y) (xs : List Y) → finds p o ≡ false
    → find p (cons_option o xs) ≡ find p xs
find_skip p None xs none = refl
find_skip p (Some y) xs none = rw none refl

any_head : {Y : Type 0} (p : Y → Bool) (o : Option Y) (xs ys : List Y) → list_any p xs ≡ list_any p ys
    → list_any p (cons_option o xs) ≡ list_any p (cons_option o ys)
any_head p None xs ys rest = rest
any_head p (Some y) xs ys rest = rw rest refl

any_skip : {Y : Type 0} (p : Y → Bool) (o : Option Y) (xs : List Y) → finds p o ≡ false
    → list_any p (cons_option o xs) ≡ list_any p xs
any_skip p None xs none = refl
any_skip p (Some y) xs none = rw none refl

-- of the cells that fail it nothing is found
abbrev FindsOwn : {Y : Type 0} → Cell → (Cell × Answer → Option Y) → (Y → Bool) → Type 0
FindsOwn cell h p = (a : Cell × Answer) → is_cell cell a.0 ≡ false → finds p (h a) ≡ false

find_own : {Y : Type 0} (cell : Cell) (h : Cell × Answer → Option Y) (p : Y → Bool) → FindsOwn cell h p
    → (given : List (Cell × Answer)) → find p (filter_map h given) ≡ find p (filter_map h (own_of cell given))
find_own cell h p none [] = refl
find_own cell h p none (a ∷ given) = by_own (is_cell cell a.0) (none a) (find_own cell h p none given)
  where
    by_own : (own : Bool) → (own ≡ false → finds p (h a) ≡ false)
        → find p (filter_map h given) ≡ find p (filter_map h (own_of cell given))
        → find p (cons_option (h a) (filter_map h given))
        ≡ find p (filter_map h (cond own (a ∷ own_of cell given) (own_of cell given)))
    by_own true other rest = find_head p (h a) (filter_map h given) (filter_map h (own_of cell given)) rest
    by_own false other rest = find_skip p (h a) (filter_map h given) (other refl) ∙ rest

any_own : {Y : Type 0} (cell : Cell) (h : Cell × Answer → Option Y) (p : Y → Bool) → FindsOwn cell h p
    → (given : List (Cell × Answer))
    → list_any p (filter_map h given) ≡ list_any p (filter_map h (own_of cell given))
any_own cell h p none [] = refl
any_own cell h p none (a ∷ given) = by_own (is_cell cell a.0) (none a) (any_own cell h p none given)
  where
    by_own : (own : Bool) → (own ≡ false → finds p (h a) ≡ false)
        → list_any p (filter_map h given) ≡ list_any p (filter_map h (own_of cell given))
        → list_any p (cons_option (h a) (filter_map h given))
        ≡ list_any p (filter_map h (cond own (a ∷ own_of cell given) (own_of cell given)))
    by_own true other rest = any_head p (h a) (filter_map h given) (filter_map h (own_of cell given)) rest
    by_own false other rest = any_skip p (h a) (filter_map h given) (other refl) ∙ rest

any_counted : (cell : Cell) (counts : List Count)
    → contains (cells_counted counts) cell ≡ list_any (λ c. is_cell cell c.cell) counts
any_counted cell [] = refl
any_counted cell (c ∷ counts) = rw (any_counted cell counts) refl

refused_own : (cell : Cell) → FindsOwn cell (λ a. failure_by a.0 a.1) (refuses cell)
refused_own cell a other = by_answer a.1
  where
    by_answer : (answer : Answer) → finds (refuses cell) (failure_by a.0 answer) ≡ false
    by_answer (answers.Started slot) = refl
    by_answer (answers.Replaced slot completed) = refl
    by_answer (answers.Stopped completed) = refl
    by_answer (answers.Told completed state) = refl
    by_answer answers.Unknown = refl
    by_answer (answers.Cause cause) = other
    by_answer answers.Refused = refl

accepting_own : (cell : Cell) → FindsOwn cell (λ a. cell_by a.0 a.1) (is_cell cell)
accepting_own cell a other = by_answer a.1
  where
    by_answer : (answer : Answer) → finds (is_cell cell) (cell_by a.0 answer) ≡ false
    by_answer (answers.Started slot) = other
    by_answer (answers.Replaced slot completed) = other
    by_answer (answers.Stopped completed) = other
    by_answer (answers.Told completed state) = refl
    by_answer answers.Unknown = refl
    by_answer (answers.Cause cause) = refl
    by_answer answers.Refused = refl

counted_own : (cell : Cell) → FindsOwn cell (λ a. count_by a.0 a.1) (λ c. is_cell cell c.cell)
counted_own cell a other = by_answer a.1
  where
    by_answer : (answer : Answer) → finds (λ c. is_cell cell c.cell) (count_by a.0 answer) ≡ false
    by_answer (answers.Started slot) = refl
    by_answer (answers.Replaced slot completed) = other
    by_answer (answers.Stopped completed) = other
    by_answer (answers.Told completed state) = refl
    by_answer answers.Unknown = refl
    by_answer (answers.Cause cause) = refl
    by_answer answers.Refused = refl

counted_said : (cell : Cell) (asked before : Option ℕ) (given : List (Cell × Answer))
    → version_by (find (refuses cell) (refused_in given)) (contains (cells_counted (counted_in given)) cell) asked
    before
    ≡ version_by (find (refuses cell) (refused_in (own_of cell given)))
    (contains (cells_counted (counted_in (own_of cell given))) cell) asked before
counted_said cell asked before given =
    ap (λ (f : Option Failure). version_by f (contains (cells_counted (counted_in given)) cell) asked before)
    (find_own cell (λ a. failure_by a.0 a.1) (refuses cell) (refused_own cell) given)
    ∙ ap (λ (b : Bool). version_by (find (refuses cell) (refused_in (own_of cell given))) b asked before)
    (any_counted cell (counted_in given)
    ∙ any_own cell (λ a. count_by a.0 a.1) (λ c. is_cell cell c.cell) (counted_own cell) given
    ∙ sym (any_counted cell (counted_in (own_of cell given))))

-- what a reply says of a cell is what that cell's answers say alone
abbrev version_said : Command → Cell → (asked before : Option ℕ) → List (Cell × Answer) → Option ℕ
version_said command cell asked before given =
    version_by (find (refuses cell) (said command given).refused)
    (contains (said command given).accepted cell) asked before

said_own : (command : Command) (cell : Cell) (asked before : Option ℕ) (given : List (Cell × Answer))
    → version_said command cell asked before given ≡ version_said command cell asked before (own_of cell given)
said_own (commands.Write id serial None category dcs period broadcasts contents) cell asked before given =
    ap (λ (f : Option Failure). version_by f (contains (accepting_cells given) cell) asked before)
    (find_own cell (λ a. failure_by a.0 a.1) (refuses cell) (refused_own cell) given)
    ∙ ap (λ (b : Bool). version_by (find (refuses cell) (refused_in (own_of cell given))) b asked before)
    (any_own cell (λ a. cell_by a.0 a.1) (is_cell cell) (accepting_own cell) given)
said_own (commands.Write id serial (Some old) category dcs period broadcasts contents) cell asked before given =
    counted_said cell asked before given
said_own (commands.Kill id serial) cell asked before given = counted_said cell asked before given
said_own (commands.Status id serial) cell asked before given = refl

-- of these cells, the answers of one are all its answers
pub own_kept : (keep : Keep) (cell : Cell) → keep cell ≡ true → (given : List (Cell × Answer))
    → own_of cell (kept_answers keep given) ≡ own_of cell given
own_kept keep cell own given =
    filter_first (λ a. is_cell cell a.0) (λ a. keep a.0)
    (λ a is. subst (λ (c : Cell). keep c ≡ true) (same_cell cell a.0 is) own) given

-- and these cells, of those asked, have one if all have it
pub contains_kept : (keep : Keep) (cell : Cell) → keep cell ≡ true → (cells : List Cell)
    → contains (filter keep cells) cell ≡ contains cells cell
contains_kept keep cell own cells =
    any_first (is_cell cell) keep (λ c is. subst (λ (d : Cell). keep d ≡ true) (same_cell cell c is) own) cells

-- so both sessions believe the same of it after the turn, where they did before
pub kept_version : (keep : Keep) (request : Request) (command : Command) (given : List (Cell × Answer))
    (number : ℕ) (cell : Cell) (before : Option ℕ) → keep cell ≡ true
    → order_of request.message ≡ Ok (cells_answered given, command)
    → version_after (kept_request keep request) (said command (kept_answers keep given))
    (cells_asked (kept_message keep request.message)) number cell before
    ≡ version_after request (said command given) (cells_asked request.message) number cell before
kept_version keep request command given number cell before own order =
    let named : cells_asked (kept_message keep request.message) ≡ filter keep (cells_asked request.message) =
    kept_asks keep request.message (cells_answered given) command order
    ∙ ap (filter keep) (order_asks request.message (cells_answered given) command order) in
    ap (λ (cells : List Cell). version_after (kept_request keep request) (said command (kept_answers keep given)) cells
    number cell before) named
    ∙ ap (λ (b : Bool). cond (eqb request.number number && b)
    (version_said command cell request.version before (kept_answers keep given)) before)
    (contains_kept keep cell own (cells_asked request.message))
    ∙ ap (λ (v : Option ℕ). cond (eqb request.number number && contains (cells_asked request.message) cell) v before)
    (said_own command cell request.version before (kept_answers keep given)
    ∙ ap (version_said command cell request.version before) (own_kept keep cell own given)
    ∙ sym (said_own command cell request.version before given))

-- and where none of these cells is asked, nothing changes
pub same_version : (keep : Keep) (request : Request) (command : Command) (given : List (Cell × Answer))
    (number : ℕ) (cell : Cell) (before : Option ℕ) → keep cell ≡ true
    → order_of request.message ≡ Ok (cells_answered given, command)
    → cells_asked (kept_message keep request.message) ≡ []
    → version_after request (said command given) (cells_asked request.message) number cell before ≡ before
same_version keep request command given number cell before own order none =
    sym (kept_version keep request command given number cell before own order)
    ∙ ap (λ (cells : List Cell). version_after (kept_request keep request) (said command (kept_answers keep given))
    cells
    number cell before) none
    ∙ by_number (eqb request.number number)
  where
    by_number : (b : Bool) → cond (b && false)
        (version_said command cell request.version before (kept_answers keep given)) before ≡ before
    by_number true = refl
    by_number false = refl
