-- How the one session of a book is served by cells at hand: what is kept from turn to turn.
use Rattle.std.specs.Prelude.{◌%◌}
use Rattle.std.proofs.Common.{◌≡◌, ℕ, ◌<◌, ◌≤◌, ◌==◌, Bool, true, false, not, List, [], ◌∷◌, ◌++◌, All, Option, Some}
use Rattle.std.proofs.Common.{None, Result, Ok, Err, map, filter, length, refl, sym, subst, ap, ◌∙◌, ◌+◌, ◌*◌, arith}
use Rattle.std.specs.List.{AllByRecursion, AllZip}
use Rattle.std.proofs.lemmas.Grind.{flat_map-append}
use Rattle.std.proofs.lemmas.List.{append-nil, length-append, length-map, map-append}
use Rattle.std.proofs.lemmas.List.Elements.{All-map, All-nil, All-push, All-weaker, recursion_from_All}
use Rattle.std.proofs.lemmas.List.Filters.{length-filter_both}
use Rattle.cbsp_wire.specs.declared.message.Cell.{Cell}
use Rattle.cbsp_wire.specs.Range.{is_cell, is_writable}
use Rattle.reply_outcome.specs.declared.outcome.Outcome.{Outcome}
use Rattle.alert_book.specs.declared.book.order.Order.{Order}
use Rattle.alert_book.specs.declared.session.request.Request.{Request}
use Rattle.alert_book.specs.Book.{Contents}
use Rattle.alert_book.specs.Session.{after_reply, outcome_in, session_of, Standing}
use Rattle.alert_book.specs.Stands.{left_in, Advances, SessionState, StandsFor}
use Rattle.alert_book.specs.TurnLaws.{AsksOncePerOrder, RequestsComeOfOrders, SessionsEnd}
use Rattle.alert_book.specs.Turns.{begun, GoesTo, Turn}
use Rattle.bsc_table.specs.declared.command.Command.{Command}
use Rattle.bsc_table.specs.declared.entry.Answer.{Answer}
use Rattle.bsc_table.specs.declared.entry.Answer.TheVariants as answers
use Rattle.bsc_table.specs.Orders.{order_of}
use Rattle.bsc_table.specs.Record.{Record}
use Rattle.order_desk.specs.Reply.{cells_answered, reply_message}
use Rattle.order_desk.specs.Settled.{IsPlayedOut}
use Rattle.book_runs.specs.Fit.{IsFit}
use Rattle.book_runs.specs.Run.{Asked, Exchange, IsExchange, IsRun, asked_in, asked_of, asked_with, is_among}
use Rattle.book_runs.proofs.Asking.{answers_kept, asked_so_far}
use Rattle.book_runs.proofs.Requests.{gone_on, request_is_order}
use Rattle.book_runs.proofs.Room.{as_many_entries}
use Rattle.session_check.specs.AloneSteps.{AreNew, HasServed, HaveServed, HaveServedSession, IsOrderWithRoom}
use Rattle.session_check.specs.AloneSteps.{IsTurnServed, asked_by_all}
use Rattle.session_check.specs.NotedSteps.{record_cells}
use Rattle.session_check.proofs.Replayed.{GoesOnAfter, left_of, left_to_serve, lessens}
use Rattle.session_check.proofs.Served.{played_all, played_cells, same_served}

-- the turns of exchanges
abbrev turns_of : List Exchange → List Turn
turns_of exchanges = map (λ x. x.turn) exchanges

-- what is kept: the exchanges so far, which are all that the cells were asked
pub record IsServing (book : Contents) (first : List Record) (session : SessionState) (books : List Record) : Type 0
  where
    pub exchanges : List Exchange
    pub reached : Standing
    pub gone : GoesTo (begun book 0 1) (turns_of exchanges) reached
    pub stands : StandsFor session reached
    pub exchanged : All (IsExchange book.cells) exchanges
    pub same : record_cells books ≡ book.cells
    pub served : (slots : ℕ) → HaveServed slots (λ cell. []) first
        → HaveServed slots (λ cell. asked_of cell exchanges) books

-- a session with its first request
pub serving_begun : (book : Contents) (first : List Record) (before session : SessionState)
    → record_cells first ≡ book.cells
    → StandsFor before (session_of book 0 1)
    → GoesOnAfter None before session
    → IsServing book first session first
serving_begun book first before session same stands goes = record {
  exchanges = [];
  reached = begun book 0 1;
  gone = refl;
  stands = goes None (ap (λ (s : Option Request). outcome_in s None) (sym stands.sent)) (session_of book 0 1) stands;
  exchanged = All-nil (IsExchange book.cells);
  same = same;
  served = λ slots had. had;
}

-- the exchange of a turn that was served
abbrev exchange_of : (cells : List Cell) (request : Request) (said : Outcome) (before after : List Record)
    → IsTurnServed cells request said before after → Exchange
exchange_of cells request said before after turn = record {
  turn = record { request = request; reply = reply_message turn.command turn.answers };
  command = turn.command;
  answers = turn.answers;
}

-- one more exchange asks each cell one list more
asked_more : (exchanges : List Exchange) (x : Exchange) (cell : Cell)
    → asked_of cell exchanges ++ asked_in cell x ≡ asked_of cell (exchanges ++ x ∷ [])
asked_more exchanges x cell =
    ap (λ (more : List Asked). asked_of cell exchanges ++ more) (sym (append-nil (asked_in cell x)))
    ∙ sym (flat_map-append (asked_in cell) exchanges (x ∷ []))

-- one more turn
pub serving_more : (book : Contents) (first : List Record) (before session : SessionState) (request : Request)
    (said : Outcome) (books after : List Record)
    → before.sent ≡ Some request
    → IsServing book first before books
    → IsTurnServed book.cells request said books after
    → GoesOnAfter (Some said) before session
    → IsServing book first session after
serving_more book first before session request said books after sent serving turn goes =
    let x = exchange_of book.cells request said books after turn in
    let reply = reply_message turn.command turn.answers in record {
      exchanges = serving.exchanges ++ x ∷ [];
      reached = after_reply (Some reply) serving.reached;
      gone = subst (λ (turns : List Turn). GoesTo (begun book 0 1) turns (after_reply (Some reply) serving.reached))
          (sym (map-append (λ (y : Exchange). y.turn) serving.exchanges (x ∷ [])))
          (gone_on (turns_of serving.exchanges) (begun book 0 1) serving.reached request reply serving.gone
          (sym serving.stands.sent ∙ sent));
      stands = goes (Some reply) (turn.told ∙ ap (λ (s : Option Request). outcome_in s (Some reply)) (sym sent))
          serving.reached serving.stands;
      exchanged = All-push (IsExchange book.cells) serving.exchanges x serving.exchanged (record {
        asked = turn.order;
        replied = refl;
        foreign = turn.answered.foreign;
      });
      same = turn.answered.same ∙ serving.same;
      served = λ slots had.
          same_served slots
          (λ cell. asked_of cell serving.exchanges ++ asked_by_all request.at turn.command turn.answers cell)
          (λ cell. asked_of cell (serving.exchanges ++ x ∷ [])) after (λ cell. asked_more serving.exchanges x cell)
          (turn.answered.served slots (λ cell. asked_of cell serving.exchanges) (serving.served slots had));
    }

-- and less is left to serve
pub serving_lessens : SessionsEnd → (book : Contents) (first : List Record) (before session : SessionState)
    (request : Request) (said : Outcome) (books after : List Record)
    → before.sent ≡ Some request
    → IsServing book first before books
    → IsTurnServed book.cells request said books after
    → GoesOnAfter (Some said) before session
    → left_of session < left_of before
serving_lessens end book first before session request said books after sent serving turn goes =
    let reply = reply_message turn.command turn.answers in
    let advances : Advances (Some reply) before session =
    goes (Some reply) (turn.told ∙ ap (λ (s : Option Request). outcome_in s (Some reply)) (sym sent)) in
    subst (λ (s : Option Request). left_of session
    < left_to_serve s (length before.due + 17 * length (left_in before))) (sym sent)
    (lessens end before session serving.reached (Some reply) request session.sent serving.stands advances refl)

-- a session without a request is served to its end
pub serving_over : (book : Contents) (first : List Record) (session : SessionState) (books : List Record)
    → session.sent ≡ None
    → IsServing book first session books
    → HaveServedSession book first books
serving_over book first session books over serving = record {
  exchanges = serving.exchanges;
  turns = record { reached = serving.reached; gone = serving.gone; over = sym serving.stands.sent ∙ over };
  exchanged = serving.exchanged;
  same = serving.same;
  served = serving.served;
}

-- what all of a list are, its last is
last_is : (P : Turn → Type 0) (turns : List Turn) (turn : Turn) → AllByRecursion P (turns ++ turn ∷ []) → P turn
last_is P [] turn all = all.0
last_is P (first ∷ turns) turn all = last_is P turns turn all.1

-- the message of a session's next request can be written
pub request_writable : (book : Contents) (first : List Record) (session : SessionState) (request : Request)
    (books : List Record)
    → IsFit book
    → session.sent ≡ Some request
    → IsServing book first session books
    → is_writable request.message ≡ true
request_writable book first session request books fit sent serving =
    let turn : Turn = record { request = request; reply = request.message } in
    let turns = turns_of serving.exchanges in
    let Writable : Turn → Type 0 = λ t. is_writable t.request.message ≡ true in
    last_is Writable turns turn (recursion_from_All Writable (turns ++ turn ∷ [])
    (fit.writable 0 1 (turns ++ turn ∷ []) (after_reply (Some request.message) serving.reached)
    (gone_on turns (begun book 0 1) serving.reached request request.message serving.gone
    (sym serving.stands.sent ∙ sent))))

-- no cell of a message is known
abbrev all_unknown : List Cell → List (Cell × Answer)
all_unknown cells = map (λ cell. (cell, answers.Cause 0x03)) cells

cells_of_unknown : (cells : List Cell) → cells_answered (all_unknown cells) ≡ cells
cells_of_unknown [] = refl
cells_of_unknown (cell ∷ cells) = ap (λ (all : List Cell). cell ∷ all) (cells_of_unknown cells)

-- a session has a request: the exchange with it, if no cell were known
abbrev next_exchange : (request : Request) (cells : List Cell) (command : Command) → Exchange
next_exchange request cells command = record {
  turn = record { request = request; reply = reply_message command (all_unknown cells) };
  command = command;
  answers = all_unknown cells;
}

-- the next request of a session asks no cell more often than its log has room
asked_next : AsksOncePerOrder → (book : Contents) (first : List Record) (session : SessionState) (request : Request)
    (books : List Record) (cells : List Cell) (command : Command) (cell : Cell)
    → IsFit book
    → session.sent ≡ Some request
    → (serving : IsServing book first session books)
    → order_of request.message ≡ Ok (cells, command)
    → length (asked_of cell serving.exchanges) + length (filter (is_cell cell) cells) ≤ 4096
asked_next once book first session request books cells command cell fit sent serving order =
    let x = next_exchange request cells command in
    let all = serving.exchanges ++ x ∷ [] in
    let gone = subst (λ (turns : List Turn). GoesTo (begun book 0 1) turns
    (after_reply (Some x.turn.reply) serving.reached))
    (sym (map-append (λ (y : Exchange). y.turn) serving.exchanges (x ∷ [])))
    (gone_on (turns_of serving.exchanges) (begun book 0 1) serving.reached request x.turn.reply serving.gone
    (sym serving.stands.sent ∙ sent)) in
    let is : IsExchange book.cells x = record {
      asked = subst (λ (named : List Cell). order_of request.message ≡ Ok (named, command))
          (sym (cells_of_unknown cells)) order;
      replied = refl;
      foreign = All-map (λ (a : Cell × Answer). is_among book.cells a.0 ≡ false → a.1 ≡ answers.Cause 0x03)
          (λ (c : Cell). (c, answers.Cause 0x03)) cells (λ k d within foreign. refl);
    } in
    let few = asked_so_far once book 0 1 cell all (after_reply (Some x.turn.reply) serving.reached) fit gone
    (All-push (IsExchange book.cells) serving.exchanges x serving.exchanged is) in
    let both : length (asked_of cell all) ≡ length (asked_of cell serving.exchanges) + length (asked_in cell x) =
    ap length (sym (asked_more serving.exchanges x cell)) ∙ length-append (asked_of cell serving.exchanges) _ in
    let last : length (asked_in cell x) ≡ length (filter (is_cell cell) cells) =
    length-map (filter (λ (a : Cell × Answer). is_cell cell a.0) x.answers) (asked_with x)
    ∙ answers_kept cell x.answers
    ∙ ap (λ (named : List Cell). length (filter (is_cell cell) named)) (cells_of_unknown cells) in
    let IsOwn : Order → Bool = λ order. order.number % 1 == 0 in
    let own = length-filter_both IsOwn (λ order. not (IsOwn order)) (λ order. refl) book.orders in
    omega (arith, few, both, last, own, fit.orders)

-- what is no failure is an order
order_there : (found : Result (List Cell × Command) ℕ) → ((cause : ℕ) → found ≡ Err cause → ⊥)
    → (cells : List Cell) × (command : Command) × (found ≡ Ok (cells, command))
order_there (Ok (cells, command)) right = (cells, command, refl)
order_there (Err cause) right = absurd (right cause refl)

-- so it is an order that the logs have room for
pub request_ordered : AsksOncePerOrder → RequestsComeOfOrders → (book : Contents) (first : List Record)
    (session : SessionState) (request : Request) (books : List Record)
    → IsFit book
    → AreNew first
    → session.sent ≡ Some request
    → IsServing book first session books
    → IsOrderWithRoom request.message books
request_ordered once come book first session request books fit new sent serving =
    let order = order_there (order_of request.message) (λ cause is. request_is_order come book 0 1
    (turns_of serving.exchanges) serving.reached request cause fit serving.gone
    (sym serving.stands.sent ∙ sent) is) in record {
      cells = order.0;
      command = order.1;
      order = order.2;
      room = All-weaker (λ (r : Record). HasServed new.0 (asked_of r.cell serving.exchanges) r)
          (λ (r : Record). length r.log + length (filter (is_cell r.cell) order.0) ≤ 4096)
          (λ r had.
          let few = asked_next once book first session request books order.0 order.1 r.cell fit sent serving
          order.2 in
          let entries : length r.log ≡ length (asked_of r.cell serving.exchanges) =
          ap length had.entries ∙ as_many_entries new.0 0 (asked_of r.cell serving.exchanges) in
          omega (arith, few, entries)) books (serving.served new.0 new.1);
    }

-- the records of books that served the session, played out, are a run of the book
pub is_run : (book : Contents) (slots : ℕ) (first books records : List Record)
    → (served : HaveServedSession book first books)
    → HaveServed slots (λ cell. []) first
    → AllZip IsPlayedOut books records
    → IsRun book slots served.exchanges records
is_run book slots first books records served new played = record {
  session = served.turns;
  cells = played_cells books records played ∙ served.same;
  exchanged = served.exchanged;
  each = played_all slots served.exchanges books records (served.served slots new) played;
}
