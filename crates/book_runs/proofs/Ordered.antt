-- The accepted messages of a run's records are those that its cells started in the exchanges, with the texts of the
-- orders of which these come.
use Rattle.std.proofs.Common.{◌≡◌, ℕ, ◌<◌, true, Option, Some, List, [], map, refl}
use Rattle.std.proofs.Common.{get_or, length, encode_utf8_all, ap, subst, sym, ◌∙◌}
use Rattle.std.specs.List.{All, Any, flat_map, slice_get}
use Rattle.std.proofs.lemmas.List.{get_or-map, get_or_default, length-map}
use Rattle.std.proofs.lemmas.List.Elements.{All-weaker}
use Rattle.std.proofs.lemmas.Option.{slice_get-get_or}
use Rattle.cbs_page.specs.Text.{text_of_page}
use Rattle.cbsp_wire.specs.declared.message.Cell.{Cell}
use Rattle.cbsp_wire.specs.Range.{is_cell}
use Rattle.alert_book.specs.declared.book.order.Order.{Order}
use Rattle.alert_book.specs.declared.network.Origin.{Origin}
use Rattle.alert_book.specs.Book.{Contents}
use Rattle.alert_book.specs.Origin.{IsBookFrom}
use Rattle.alert_book.proofs.Origins.{paged_from}
use Rattle.alert_book.specs.Texts.{HasUtf8Text}
use Rattle.alert_book.specs.TurnLaws.{ComesOf}
use Rattle.alert_book.specs.Turns.{AreTurnsOf, Turn}
use Rattle.bsc_table.specs.declared.command.Command.{Command}
use Rattle.bsc_table.specs.declared.command.Command.TheVariants as commands
use Rattle.bsc_table.specs.declared.entry.Answer.{Answer}
use Rattle.bsc_table.specs.declared.entry.Answer.TheVariants as answers
use Rattle.bsc_table.specs.declared.entry.Entry.{Entry}
use Rattle.bsc_table.specs.Record.{Accepted, Record, accepted_in, start_of}
use Rattle.bsc_table.specs.Written.{IsWriteBy}
use Rattle.cbch_blocks.specs.RecordBlocks.{pages_of_entry}
use Rattle.composition.specs.Composition.{message_accepted}
use Rattle.order_desk.specs.Reply.{cells_answered}
use Rattle.book_runs.specs.Live.{IsLiveRun, IsRunBy}
use Rattle.book_runs.specs.LiveLaws.{LiveRunsAcceptWhatWasOrdered}
use Rattle.book_runs.specs.Meant.{IsOfOrder}
use Rattle.book_runs.specs.Ordered.{AreThoseStarted, ComesOfExchange, StartIsAccepted, RunsAcceptWhatWasOrdered}
use Rattle.book_runs.specs.Ordered.{StartsMessage}
use Rattle.book_runs.specs.Run.{Exchange, IsExchange, IsRunOfBook}
use Rattle.book_runs.proofs.Accepted.{accepted_of}
use Rattle.book_runs.proofs.Entries.{IsOfExchange, log_entered, log_has}
use Rattle.book_runs.proofs.Laws.{Laws}
use Rattle.book_runs.proofs.Lists.{all_joined, any_at, any_weaker, any_with}
use Rattle.book_runs.proofs.Logged.{HasLogOf, joined, log_of_run, log_of_sessions}
use Rattle.book_runs.proofs.Texts.{sent_as}

-- an exchange of the run, whose request comes of an order of the book
abbrev pub IsOrdered : Contents → Exchange → Type 0
IsOrdered book x = IsExchange book.cells x × Any (ComesOf x.turn.request) book.orders

-- each exchange of a session is ordered by the book
pub ordered : (laws : Laws) (from : Origin) (input : List ℕ) (book : Contents) (part parts : ℕ)
    (exchanges : List Exchange) → IsBookFrom from input book → AreTurnsOf book part parts (map (λ x. x.turn) exchanges)
    → All (IsExchange book.cells) exchanges → All (IsOrdered book) exchanges
ordered laws from input book part parts exchanges is session exchanged k d within =
    let turn : Exchange → Turn = λ x. x.turn in
    let there : k < length (map turn exchanges) = subst (λ n. k < n) (sym (length-map exchanges turn)) within in
    let comes = laws.come_of_orders book part parts (map turn exchanges) session.reached
    (paged_from from input book is) session.gone k d.turn
    there in (
      exchanged k d within,
      subst (λ (t : Turn). Any (ComesOf t.request) book.orders) (get_or-map turn exchanges k d d.turn within) comes,
    )

-- and so are all exchanges of several sessions
pub all_ordered : (laws : Laws) (from : Origin) (input : List ℕ) (book : Contents) (slots : ℕ)
    (sessions : List (List Exchange)) (records : List Record) → IsBookFrom from input book
    → IsLiveRun book slots sessions records
    → All (IsOrdered book) (joined sessions)
all_ordered laws from input book slots sessions records is live =
    all_joined (IsOrdered book) (λ (exchanges : List Exchange). exchanges) sessions each
  where
    each : All (λ (exchanges : List Exchange). All (IsOrdered book) exchanges) sessions
    each k d within =
        let session : AreTurnsOf book k (length sessions) (map (λ x. x.turn) (get_or sessions k d)) =
        subst (λ (exchanges : List Exchange). AreTurnsOf book k (length sessions) (map (λ x. x.turn) exchanges))
        (get_or_default sessions k [] d within) (live.turns k within) in
        ordered laws from input book k (length sessions) (get_or sessions k d) is session (live.exchanged k d within)

-- an exchange of an entry of the log, and its command as the text of an order
comes_of : (laws : Laws) (book : Contents) (r : Record) (a : Accepted) (e : Entry) (x : Exchange)
    → All HasUtf8Text book.orders → slice_get r.log a.message.entry ≡ Some e
    → IsWriteBy a e.command (start_of e.answer) → IsOrdered book x → IsOfExchange r.cell e.command e.answer x
    → ComesOfExchange book r a x
comes_of laws book r a e x utf8 found write asked of =
    let by : IsWriteBy a x.command (start_of e.answer) =
    subst (λ (c : Command). IsWriteBy a c (start_of e.answer)) of.0 write in
    record {
      started = any_weaker (λ (given : Cell × Answer). (is_cell r.cell given.0 ≡ true) × (e.answer ≡ given.1))
          (StartsMessage r.cell a x) x.answers
          (λ given is. (is.0, subst (λ (n : Answer). IsWriteBy a x.command (start_of n)) is.1 by)) of.1;
      ordered = any_weaker (λ (order : Order). HasUtf8Text order × ComesOf x.turn.request order)
          (λ (order : Order). ComesOf x.turn.request order × IsOfOrder (message_accepted r.log a) order) book.orders
          (λ order here.
          let sent = sent_as laws a (start_of e.answer) order x.turn.request.message (cells_answered x.answers)
          x.command here.0 here.1.sent here.1.serial asked.0.asked by in (
            here.1,
            record {
              sending = sent.sending;
              sends = sent.sends;
              id = sent.id;
              serial = sent.serial;
              text =
                  ap (λ (o : Option Entry). encode_utf8_all (flat_map text_of_page (pages_of_entry o))) found
                  ∙ ap (λ (c : Command). encode_utf8_all (flat_map text_of_page
                  (pages_of_entry (Some (record e { command = c }))))) of.0
                  ∙ sent.text;
            },
          ))
          (any_with HasUtf8Text (ComesOf x.turn.request) book.orders utf8 asked.1);
    }

no_entry : Entry
no_entry = record { command = commands.Status 0 0; slot = 0; answer = answers.Unknown }

-- so each accepted message comes of an exchange
pub comes : (laws : Laws) (book : Contents) (slots : ℕ) (exchanges : List Exchange) (r : Record)
    → All HasUtf8Text book.orders → All (IsOrdered book) exchanges → HasLogOf slots exchanges r
    → All (λ a. Any (ComesOfExchange book r a) exchanges) (accepted_in r.log)
comes laws book slots exchanges r utf8 asked run k d within =
    let write = laws.accepted_are_writes r.log no_entry k d within in
    let e : Entry = get_or r.log (get_or (accepted_in r.log) k d).message.entry no_entry in
    let found : slice_get r.log (get_or (accepted_in r.log) k d).message.entry ≡ Some e =
    slice_get-get_or r.log (get_or (accepted_in r.log) k d).message.entry no_entry write.0 in
    let of = log_has slots exchanges r run (get_or (accepted_in r.log) k d).message.entry no_entry write.0 in
    any_weaker (λ (x : Exchange). IsOrdered book x × IsOfExchange r.cell e.command e.answer x)
    (ComesOfExchange book r (get_or (accepted_in r.log) k d)) exchanges
    (λ x both. comes_of laws book r (get_or (accepted_in r.log) k d) e x utf8 found write.1 both.0 both.1)
    (any_with (IsOrdered book) (IsOfExchange r.cell e.command e.answer) exchanges asked of)

-- and each answer that starts a write's message has it accepted
has_accepted : (slots : ℕ) (exchanges : List Exchange) (r : Record) → HasLogOf slots exchanges r
    → All (λ x. All (StartIsAccepted r x) x.answers) exchanges
has_accepted slots exchanges r run k d within j g there cell write start is =
    let x : Exchange = get_or exchanges k d in
    let Is : Command → Answer → Type 0 = λ command answer.
    (command ≡ (get_or exchanges k d).command) × (start_of answer ≡ Some start) in
    accepted_of start (get_or exchanges k d).command write [] 0 r.log
    (log_entered slots exchanges r run Is
    (any_at (λ (y : Exchange). Any (λ (given : Cell × Answer). (is_cell r.cell given.0 ≡ true)
    × Is y.command given.1) y.answers) exchanges k d within
    (any_at (λ (given : Cell × Answer). (is_cell r.cell given.0 ≡ true)
    × Is (get_or exchanges k d).command given.1) (get_or exchanges k d).answers j g there
    (cell, (refl, is)))))

-- so the accepted messages of such records are those that were started
are_those_started : (laws : Laws) (book : Contents) (slots : ℕ) (exchanges : List Exchange) (r : Record)
    → All HasUtf8Text book.orders → All (IsOrdered book) exchanges → HasLogOf slots exchanges r
    → AreThoseStarted book exchanges r
are_those_started laws book slots exchanges r utf8 asked has = record {
  each = comes laws book slots exchanges r utf8 asked has;
  every = has_accepted slots exchanges r has;
}

-- what the cells of a run of one session accepted, a row of the book ordered
pub runs_accept_what_was_ordered : Laws → RunsAcceptWhatWasOrdered
runs_accept_what_was_ordered laws from input book slots exchanges records is run =
    let utf8 = laws.texts_are_utf8 from input book is in
    let asked = ordered laws from input book 0 1 exchanges is run.session run.exchanged in
    All-weaker (IsRunOfBook slots exchanges) (AreThoseStarted book exchanges)
    (λ r here. are_those_started laws book slots exchanges r utf8 asked (log_of_run slots exchanges r here)) records
    run.each

-- what the cells of a live run accepted, a row of the book ordered
pub live_runs_accept_what_was_ordered : Laws → LiveRunsAcceptWhatWasOrdered
live_runs_accept_what_was_ordered laws from input book slots sessions records is live =
    let utf8 = laws.texts_are_utf8 from input book is in
    let asked = all_ordered laws from input book slots sessions records is live in
    All-weaker (IsRunBy slots sessions) (AreThoseStarted book (joined sessions))
    (λ r here. are_those_started laws book slots (joined sessions) r utf8 asked (log_of_sessions slots sessions r here))
    records live.each
