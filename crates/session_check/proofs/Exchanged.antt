-- How the exchanges of a session go on: by one more turn, exactly where the notes are of that turn.
use Rattle.std.proofs.Common.{◌≡◌, ◌↔◌, ℕ, List, [], ◌∷◌, ◌++◌, map}
use Rattle.std.proofs.Common.{All, Some, None, Ok, refl, sym, subst, ap, ◌∙◌}
use Rattle.std.specs.List.{AllZip}
use Rattle.std.proofs.lemmas.List.Elements.{All-cons, All-from_recursion, All-head, All-nil, All-tail}
use Rattle.std.proofs.lemmas.List.Elements.{recursion_from_All}
use Rattle.std.proofs.lemmas.Option.{same_Some}
use Rattle.cbsp_wire.specs.declared.message.Cell.{Cell}
use Rattle.cbsp_wire.specs.declared.message.Message.{Message}
use Rattle.reply_outcome.specs.declared.outcome.Outcome.{Outcome}
use Rattle.alert_book.specs.declared.session.request.Request.{Request}
use Rattle.alert_book.specs.Book.{Contents}
use Rattle.alert_book.specs.Session.{after_reply, Standing}
use Rattle.alert_book.specs.Turns.{begun, GoesTo}
use Rattle.bsc_table.specs.declared.command.Command.{Command}
use Rattle.bsc_table.specs.Orders.{order_of}
use Rattle.bsc_table.specs.Record.{Record}
use Rattle.order_desk.specs.declared.note.Note.{Note}
use Rattle.order_desk.specs.Reply.{cells_answered, reply_message}
use Rattle.book_runs.specs.Run.{Exchange, IsExchange}
use Rattle.book_runs.specs.Sessions.{IsNoteOf, IsSessionOf, asks_in, asks_of}
use Rattle.session_check.specs.NotedSteps.{AreAnswersNoted, record_cells, commands_in}
use Rattle.session_check.specs.ReplaySteps.{GoesOnBy, IsNoTurn, IsTurnNoted}
use Rattle.session_check.proofs.Noted.{IsForeignUnknown, all_noted_one, asks_of_noted, foreign_of_noted, noted_of_asks}
use Rattle.session_check.proofs.Noted.{some_none}
use Rattle.session_check.proofs.OrderSays.{orders_are_one}

-- a fact of two lists, place by place, in two parts
zip_append : {X Y : Type 0} (R : X → Y → Type 0) (xs more : List X) (ys others : List Y)
    → AllZip R xs ys
    → AllZip R more others
    → AllZip R (xs ++ more) (ys ++ others)
zip_append R [] more [] others first then = then
zip_append R [] more (y ∷ ys) others first then = absurd first
zip_append R (x ∷ xs) more [] others first then = absurd first
zip_append R (x ∷ xs) more (y ∷ ys) others first then = (first.0, zip_append R xs more ys others first.1 then)

zip_parts : {X Y : Type 0} (R : X → Y → Type 0) (xs more : List X) (all : List Y)
    → AllZip R (xs ++ more) all
    → (ys : List Y) × (others : List Y) × (all ≡ ys ++ others) × AllZip R xs ys × AllZip R more others
zip_parts R [] more all zip = ([], all, refl, tt, zip)
zip_parts R (x ∷ xs) more [] zip = absurd zip
zip_parts R (x ∷ xs) more (y ∷ all) zip =
    let rest = zip_parts R xs more all zip.1 in
    (y ∷ rest.0, rest.1, ap (λ (ys : List _). y ∷ ys) rest.2, (zip.0, rest.3), rest.4)

-- a session that has a request goes on to its end by the exchange of that request, and then from the standing after it
pub record GoesOnByOne (records : List Record) (from : Standing) (request : Request) (given : List Note) : Type 0 where
  pub x : Exchange
  pub left : List Note
  pub same : request ≡ x.turn.request
  pub is_exchange : IsExchange (record_cells records) x
  pub noted : AreAnswersNoted records x.turn.request.at x.command x.answers given left
  pub goes_on : GoesOnBy records (after_reply (Some x.turn.reply) from) left

first_turn : (records : List Record) (from reached : Standing) (request : Request) (given : List Note)
    (exchanges : List Exchange)
    → from.sent ≡ Some request
    → GoesTo from (map (λ x. x.turn) exchanges) reached
    → reached.sent ≡ None
    → All (IsExchange (record_cells records)) exchanges
    → AllZip (IsNoteOf records) (asks_of (record_cells records) exchanges) given
    → GoesOnByOne records from request given
first_turn records from reached request given [] sent gone over exchanged noted =
    absurd (some_none request (sym sent ∙ ap (λ (s : Standing). s.sent) (sym gone) ∙ over))
first_turn records from reached request given (x ∷ later) sent gone over exchanged noted =
    let cells = record_cells records in
    let is = All-head (IsExchange cells) x later exchanged in
    let parts = zip_parts (IsNoteOf records) (asks_in cells x) (asks_of cells later) given noted in
    let unknown = recursion_from_All (IsForeignUnknown cells) x.answers is.foreign in
    let own = noted_of_asks records x.turn.request.at x.command x.answers parts.0 parts.1 unknown parts.3 in record {
      x = x;
      left = parts.1;
      same = same_Some request x.turn.request (sym sent ∙ gone.0);
      is_exchange = is;
      noted = subst (λ (n : List Note). AreAnswersNoted records x.turn.request.at x.command x.answers n parts.1)
          (sym parts.2) own;
      goes_on = record {
        exchanges = later;
        reached = reached;
        gone = gone.1;
        over = over;
        exchanged = All-tail (IsExchange cells) x later exchanged;
        noted = parts.4;
      };
    }

goes_on_by_one : (records : List Record) (from : Standing) (request : Request) (given : List Note)
    → from.sent ≡ Some request
    → GoesOnBy records from given
    → GoesOnByOne records from request given
goes_on_by_one records from request given sent by =
    first_turn records from by.reached request given by.exchanges sent by.gone by.over by.exchanged by.noted

-- what was noted of a turn that a session takes next: its order, with its answers
one_is_order : (records : List Record) (from : Standing) (request : Request) (given : List Note)
    → (one : GoesOnByOne records from request given)
    → order_of request.message ≡ Ok (cells_answered one.x.answers, one.x.command)
one_is_order records from request given one =
    ap (λ (r : Request). order_of r.message) one.same ∙ one.is_exchange.asked

one_at : (records : List Record) (from : Standing) (request : Request) (given : List Note)
    → (one : GoesOnByOne records from request given)
    → AreAnswersNoted records request.at one.x.command one.x.answers given one.left
one_at records from request given one =
    subst (λ n. AreAnswersNoted records n one.x.command one.x.answers given one.left)
    (sym (ap (λ (r : Request). r.at) one.same)) one.noted

-- where the notes are of no such turn, the session doesn't go on by them
pub goes_no_further : (records : List Record) (from : Standing) (request : Request) (before : List Note)
    → from.sent ≡ Some request
    → IsNoTurn records request before
    → GoesOnBy records from before
    → ⊥
goes_no_further records from request before sent nothing by =
    let one = goes_on_by_one records from request before sent by in
    nothing one.x.command one.x.answers one.left (one_is_order records from request before one)
    (one_at records from request before one)

-- where they are of the turn, it goes on after it by what is left
pub goes_after : (records : List Record) (from : Standing) (request : Request) (said : Outcome)
    (before left : List Note)
    → from.sent ≡ Some request
    → (turn : IsTurnNoted records request said before left)
    → GoesOnBy records from before
    → GoesOnBy records (after_reply (Some (reply_message turn.command turn.answers)) from) left
goes_after records from request said before left sent turn by =
    let one = goes_on_by_one records from request before sent by in
    let x = one.x in
    let same = orders_are_one request.message (cells_answered turn.answers) (cells_answered x.answers) turn.command
    x.command turn.order (one_is_order records from request before one) in
    let answered = all_noted_one records request.at x.command turn.answers x.answers before left one.left
    (subst (λ (c : Command). AreAnswersNoted records request.at c turn.answers before left) same.1 turn.noted)
    (one_at records from request before one) same.0 in
    let reply : x.turn.reply ≡ reply_message turn.command turn.answers =
    one.is_exchange.replied ∙ ap (λ (c : Command). reply_message c x.answers) (sym same.1)
    ∙ ap (reply_message turn.command) (sym answered.0) in
    subst (λ (n : List Note). GoesOnBy records (after_reply (Some (reply_message turn.command turn.answers)) from) n)
    (sym answered.1)
    (subst (λ (m : Message). GoesOnBy records (after_reply (Some m) from) one.left) reply one.goes_on)

-- and the other way round
pub goes_before : (records : List Record) (from : Standing) (request : Request) (said : Outcome)
    (before left : List Note)
    → from.sent ≡ Some request
    → (turn : IsTurnNoted records request said before left)
    → GoesOnBy records (after_reply (Some (reply_message turn.command turn.answers)) from) left
    → GoesOnBy records from before
goes_before records from request said before left sent turn by =
    let cells = record_cells records in
    let x : Exchange = record {
      turn = record { request = request; reply = reply_message turn.command turn.answers };
      command = turn.command;
      answers = turn.answers;
    } in
    let asks = asks_of_noted records request.at turn.command turn.answers before left turn.noted in
    let is_exchange : IsExchange cells x = record {
      asked = turn.order;
      replied = refl;
      foreign = All-from_recursion (IsForeignUnknown cells) turn.answers
          (foreign_of_noted records request.at turn.command turn.answers before left turn.noted);
    } in record {
      exchanges = x ∷ by.exchanges;
      reached = by.reached;
      gone = (sent, by.gone);
      over = by.over;
      exchanged = All-cons (IsExchange cells) x by.exchanges is_exchange by.exchanged;
      noted = subst (AllZip (IsNoteOf records) (asks_in cells x ++ asks_of cells by.exchanges)) (sym asks.1)
          (zip_append (IsNoteOf records) (asks_in cells x) (asks_of cells by.exchanges) asks.0 left asks.2 by.noted);
    }

-- where a session has no request, it goes on by no notes alone
no_asks : (records : List Record) (from reached : Standing) (given : List Note) (exchanges : List Exchange)
    → from.sent ≡ None
    → GoesTo from (map (λ x. x.turn) exchanges) reached
    → AllZip (IsNoteOf records) (asks_of (record_cells records) exchanges) given
    → given ≡ []
no_asks records from reached [] [] over gone noted = refl
no_asks records from reached (note ∷ given) [] over gone noted = absurd noted
no_asks records from reached given (x ∷ later) over gone noted =
    absurd (some_none x.turn.request (sym gone.0 ∙ over))

-- a session without a request goes on by no note
pub ends_by : (records : List Record) (from : Standing) (given : List Note)
    → from.sent ≡ None
    → (given ≡ []) ↔ GoesOnBy records from given
ends_by records from given is = (
  λ none. subst (GoesOnBy records from) (sym none) (record {
    exchanges = [];
    reached = from;
    gone = refl;
    over = is;
    exchanged = All-nil (IsExchange (record_cells records));
    noted = tt;
  }),
  λ by. no_asks records from by.reached given by.exchanges is by.gone by.noted,
)

-- a pass is a session's exactly where the session goes on by its notes of commands from its beginning
pub is_pass_of_session : (book : Contents) (part parts : ℕ) (records : List Record) (pass : List Note)
    → record_cells records ≡ book.cells
    → GoesOnBy records (begun book part parts) (commands_in pass)
    ↔ ((exchanges : List Exchange) × IsSessionOf book part parts records pass exchanges)
is_pass_of_session book part parts records pass cells = (
  λ by. (
    by.exchanges,
    record {
      turns = record { reached = by.reached; gone = by.gone; over = by.over };
      exchanged = subst (λ (c : List Cell). All (IsExchange c) by.exchanges) cells by.exchanged;
      noted = subst (λ (c : List Cell). AllZip (IsNoteOf records) (asks_of c by.exchanges) (commands_in pass)) cells
          by.noted;
    },
  ),
  λ is. record {
    exchanges = is.0;
    reached = is.1.turns.reached;
    gone = is.1.turns.gone;
    over = is.1.turns.over;
    exchanged = subst (λ (c : List Cell). All (IsExchange c) is.0) (sym cells) is.1.exchanged;
    noted = subst (λ (c : List Cell). AllZip (IsNoteOf records) (asks_of c is.0) (commands_in pass)) (sym cells)
        is.1.noted;
  },
)
