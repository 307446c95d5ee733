-- A run worked by hand: two alerts in two cells; one is updated in one cell, and the other stopped in the other. It is
-- of one session, and then of two. The octets are those of docs/from-book-to-phone.md.
use Rattle.std.proofs.Common.{◌≡◌, ℕ, Option, Some, None, List, [], ◌∷◌, ◌++◌, Ok, codes, filter, map, refl, replicate}
use Rattle.std.proofs.Common.{arith, false, suc, take, zero}
use Rattle.std.specs.List.{All, AllZip, flat_map}
use Rattle.std.proofs.lemmas.List.Elements.{All-from_recursion}
use Rattle.cbs_page.specs.declared.content.Content.{Content}
use Rattle.cbs_page.specs.declared.Dcs.{Dcs}
use Rattle.cbs_page.specs.declared.paging.Paged.{Paged}
use Rattle.cbsp_wire.specs.declared.message.Cell.{Cell}
use Rattle.cbsp_wire.specs.declared.message.Message.{Message}
use Rattle.cbsp_wire.specs.declared.message.Message.TheVariants as messages
use Rattle.cbsp_wire.specs.Written.{bodies_in, octets_of_message}
use Rattle.alert_book.specs.declared.book.order.Action.TheVariants as action
use Rattle.alert_book.specs.declared.book.order.Order.{Order}
use Rattle.alert_book.specs.declared.session.request.Request.{Request}
use Rattle.alert_book.specs.Book.{Contents}
use Rattle.alert_book.specs.Cells.{cell_with}
use Rattle.alert_book.specs.Fields.{alert_with, sending_with}
use Rattle.alert_book.specs.Row.{order_with}
use Rattle.alert_book.specs.Turns.{AreTurnsOf, Turn}
use Rattle.bsc_table.specs.declared.command.Category.TheVariants.{Normal}
use Rattle.bsc_table.specs.declared.command.Command.{Command}
use Rattle.bsc_table.specs.declared.command.Command.TheVariants as commands
use Rattle.bsc_table.specs.declared.entry.Answer.{Answer}
use Rattle.bsc_table.specs.declared.entry.Answer.TheVariants as answers
use Rattle.bsc_table.specs.declared.entry.Entry.{Entry}
use Rattle.bsc_table.specs.Orders.{order_of}
use Rattle.bsc_table.specs.Record.{Record}
use Rattle.order_desk.specs.declared.note.Note.{Note}
use Rattle.order_desk.specs.declared.note.Note.TheVariants as notes
use Rattle.order_desk.specs.Agreement.{all_notes, times_noted}
use Rattle.order_desk.specs.Reply.{cells_answered, reply_message}
use Rattle.scheduler.specs.Air.{Air}
use Rattle.handset.specs.Reception.{shown_in}
use Rattle.handset.specs.Counting.{whole_in}
use Rattle.handset.specs.Showing.{name_shown}
use Rattle.cbch_blocks.specs.RecordBlocks.{blocks_of_uses}
use Rattle.book_runs.specs.Live.{asked_by}
use Rattle.book_runs.specs.Live.{Interleaving}
use Rattle.book_runs.specs.Run.{Exchange, IsExchange, asked_of, asked_with, entries_for, is_among}
use Rattle.book_runs.specs.Sessions.{AreSessions, IsNoteOf, asks_of, is_of_command}

-- the first cell
abbrev pub one : Cell
one = cell_with 1 1

-- the second
abbrev pub other : Cell
other = cell_with 1 2

-- contents of eight septets, and CR to the end
abbrev content : List ℕ → Content
content text = record {
  used = 7;
  octets =
      text ++ flat_map (λ (n : ℕ). 0x8D ∷ 0x46 ∷ 0xA3 ∷ 0xD1 ∷ 0x68 ∷ 0x34 ∷ 0x1A ∷ []) (replicate 10 0)
      ++ 0x8D ∷ 0x46 ∷ 0xA3 ∷ 0xD1 ∷ 0x00 ∷ [];
}

abbrev stay : Content
stay = content (0x53 ∷ 0x7A ∷ 0x38 ∷ 0x0F ∷ 0x4A ∷ 0xBB ∷ 0x43 ∷ [])

abbrev bleib : Content
bleib = content (0x42 ∷ 0x76 ∷ 0x39 ∷ 0x2D ∷ 0x06 ∷ 0x91 ∷ 0xC3 ∷ [])

abbrev safe : Content
safe = content (0x41 ∷ 0x36 ∷ 0x1B ∷ 0x34 ∷ 0x0F ∷ 0x9B ∷ 0xCB ∷ [])

-- the orders of rows 3 to 6
abbrev orders : List Order
orders =
    order_with 3 0 (codes "fire-en") 0 (alert_with 4370 0 1)
    (action.Write (sending_with (codes "en") 2 4 0 (one ∷ other ∷ []) (codes "Stay in!")))
    ∷ order_with 4 0 (codes "fire-de") 1 (alert_with 4383 0 2)
    (action.Write (sending_with (codes "de") 2 4 0 (one ∷ other ∷ []) (codes "Bleib da")))
    ∷ order_with 5 4 (codes "fire-en") 0 (alert_with 4370 0 1)
    (action.Update 1 (sending_with (codes "en") 2 4 0 (one ∷ []) (codes "All safe")))
    ∷ order_with 6 6 (codes "fire-de") 1 (alert_with 4383 0 2) (action.Stop (other ∷ []))
    ∷ []

-- the book, whatever the pages of its texts
abbrev pub book : (p q r : Paged) → Contents
book p q r =
    record { cells = one ∷ other ∷ []; orders = orders; pages = Some p ∷ Some q ∷ Some r ∷ None ∷ [] }

-- the messages of the rows and the answers of the cells
abbrev pub write : (id serial : ℕ) (old : Option ℕ) (cells : List Cell) (dcs : Dcs) (contents : List Content) → Message
write id serial old cells dcs contents = messages.Write id serial old cells None (Some 2) 4 0 dcs contents

-- the command of such a message
abbrev pub asks : (id serial : ℕ) (old : Option ℕ) (dcs : Dcs) (contents : List Content) → Command
asks id serial old dcs contents = commands.Write id serial old Normal dcs 4 0 contents

-- a request
abbrev pub request : (row at number : ℕ) (version : Option ℕ) (message : Message) → Request
request row at number version message =
    record { row = row; at = at; number = number; version = version; message = message }

-- what came of a request: the command that it means, and these answers with their reply
abbrev pub exchange : Request → Command → List (Cell × Answer) → Exchange
exchange asked command given = record {
  turn = record { request = asked; reply = reply_message command given };
  command = command;
  answers = given;
}

abbrev both_started : List (Cell × Answer)
both_started = (one, answers.Started 0) ∷ (other, answers.Started 0) ∷ []

-- the exchanges of the rows 3 to 6: a write in both cells
abbrev pub row_3 : (p : Paged) → Exchange
row_3 p = exchange (request 3 0 0 (Some 0) (write 4370 16 None (one ∷ other ∷ []) p.dcs p.pages.items))
    (asks 4370 16 None p.dcs p.pages.items) both_started

-- a write of another alert in both
abbrev pub row_4 : (q : Paged) → Exchange
row_4 q = exchange (request 4 0 1 (Some 0) (write 4383 32 None (one ∷ other ∷ []) q.dcs q.pages.items))
    (asks 4383 32 None q.dcs q.pages.items) both_started

-- an update of the first in one cell
abbrev pub row_5 : (r : Paged) → Exchange
row_5 r = exchange (request 5 4 0 (Some 1) (write 4370 17 (Some 16) (one ∷ []) r.dcs r.pages.items))
    (asks 4370 17 (Some 16) r.dcs r.pages.items) ((one, answers.Replaced 4 1) ∷ [])

-- and a stop of the second in the other
abbrev pub row_6 : Exchange
row_6 = exchange (request 6 6 1 None (messages.Kill 4383 32 (other ∷ []) None)) (commands.Kill 4383 32)
    ((other, answers.Stopped 2) ∷ [])

abbrev exchanges : (p q r : Paged) → List Exchange
exchanges p q r = row_3 p ∷ row_4 q ∷ row_5 r ∷ row_6 ∷ []

abbrev turns : (p q r : Paged) → List Turn
turns p q r = map (λ (x : Exchange). x.turn) (exchanges p q r)

-- these are the turns of the book's session, and what came of them
session : (p q r : Paged) → AreTurnsOf (book p q r) 0 1 (turns p q r)
session p q r = record { reached = _; gone = (refl, (refl, (refl, (refl, refl)))); over = refl }

each_asks : (p q r : Paged) → map (λ (x : Exchange). order_of x.turn.request.message) (exchanges p q r)
    ≡ map (λ (x : Exchange). Ok (cells_answered x.answers, x.command)) (exchanges p q r)
each_asks p q r = refl

-- what the cells were asked: the entries of their logs
abbrev in_one : (a b c : Dcs) (first second third : List Content) → List Entry
in_one a b c first second third =
    record { command = asks 4370 16 None a first; slot = 0; answer = answers.Started 0 }
    ∷ record { command = asks 4383 32 None b second; slot = 0; answer = answers.Started 0 }
    ∷ record { command = asks 4370 17 (Some 16) c third; slot = 4; answer = answers.Replaced 4 1 }
    ∷ []

entries_in_one : (p q r : Paged) → entries_for 8 0 (asked_of one (exchanges p q r))
    ≡ in_one p.dcs q.dcs r.dcs p.pages.items q.pages.items r.pages.items
entries_in_one p q r = refl

slots_in_other : (p q r : Paged)
    → map (λ (e : Entry). e.slot) (entries_for 8 0 (asked_of other (exchanges p q r))) ≡ 0 ∷ 0 ∷ 6 ∷ []
slots_in_other p q r = refl

-- the book in two parts, a session for each of its alerts: cell 1-1 was asked for row 4 before row 3, cell 1-2 after it
abbrev of_fire_en : (p r : Paged) → List Exchange
of_fire_en p r = row_3 p ∷ row_5 r ∷ []

abbrev of_fire_de : (q : Paged) → List Exchange
of_fire_de q = row_4 q ∷ row_6 ∷ []

first_session : (p q r : Paged) → AreTurnsOf (book p q r) 0 2 (map (λ (x : Exchange). x.turn) (of_fire_en p r))
first_session p q r = record { reached = _; gone = (refl, (refl, refl)); over = refl }

second_session : (p q r : Paged) → AreTurnsOf (book p q r) 1 2 (map (λ (x : Exchange). x.turn) (of_fire_de q))
second_session p q r = record { reached = _; gone = (refl, (refl, refl)); over = refl }

abbrev order_in_one : (p q r : Paged) → Interleaving
order_in_one p q r =
    (1, asked_with (row_4 q) (one, answers.Started 0)) ∷ (0, asked_with (row_3 p) (one, answers.Started 0))
    ∷ (0, asked_with (row_5 r) (one, answers.Replaced 4 1)) ∷ []

order_of_first : (p q r : Paged) → asked_by 0 (order_in_one p q r) ≡ asked_of one (of_fire_en p r)
order_of_first p q r = refl

order_of_second : (p q r : Paged) → asked_by 1 (order_in_one p q r) ≡ asked_of one (of_fire_de q)
order_of_second p q r = refl

abbrev log_of_one : (p q r : Paged) → List Entry
log_of_one p q r =
    record { command = asks 4383 32 None q.dcs q.pages.items; slot = 0; answer = answers.Started 0 }
    ∷ record { command = asks 4370 16 None p.dcs p.pages.items; slot = 0; answer = answers.Started 0 }
    ∷ record { command = asks 4370 17 (Some 16) r.dcs r.pages.items; slot = 4; answer = answers.Replaced 4 1 }
    ∷ []

log_by_order : (p q r : Paged) → entries_for 8 0 (map (λ a. a.1) (order_in_one p q r)) ≡ log_of_one p q r
log_by_order p q r = refl

abbrev log_of_other : (p q : Paged) → List Entry
log_of_other p q =
    record { command = asks 4370 16 None p.dcs p.pages.items; slot = 0; answer = answers.Started 0 }
    ∷ record { command = asks 4383 32 None q.dcs q.pages.items; slot = 0; answer = answers.Started 0 }
    ∷ record { command = commands.Kill 4383 32; slot = 6; answer = answers.Stopped 2 }
    ∷ []

-- what the passes noted, each in the order of its session
abbrev first_pass : (p r : Paged) → List Note
first_pass p r =
    notes.Event one 1 (record { command = asks 4370 16 None p.dcs p.pages.items; slot = 0; answer = answers.Started 0 })
    ∷ notes.Event other 0
    (record { command = asks 4370 16 None p.dcs p.pages.items; slot = 0; answer = answers.Started 0 })
    ∷ notes.Played one 0 4
    ∷ notes.Event one 2
    (record { command = asks 4370 17 (Some 16) r.dcs r.pages.items; slot = 4; answer = answers.Replaced 4 1 })
    ∷ []

abbrev second_pass : (q : Paged) → List Note
second_pass q =
    notes.Event one 0 (record { command = asks 4383 32 None q.dcs q.pages.items; slot = 0; answer = answers.Started 0 })
    ∷ notes.Event other 1
    (record { command = asks 4383 32 None q.dcs q.pages.items; slot = 0; answer = answers.Started 0 })
    ∷ notes.Played other 0 6
    ∷ notes.Event other 2 (record { command = commands.Kill 4383 32; slot = 6; answer = answers.Stopped 2 })
    ∷ []

abbrev finished : Cell → List Entry → Record
finished cell log = record { cell = cell; slots = 8; clock = 8; log = log; air = [] }

abbrev records : (p q r : Paged) → List Record
records p q r = finished one (log_of_one p q r) ∷ finished other (log_of_other p q) ∷ []

first_noted : (p q r : Paged)
    → AllZip (IsNoteOf (records p q r)) (asks_of (one ∷ other ∷ []) (of_fire_en p r))
    (filter is_of_command (first_pass p r))
first_noted p q r = ((refl, refl), ((refl, refl), ((refl, refl), tt)))

second_noted : (p q r : Paged)
    → AllZip (IsNoteOf (records p q r)) (asks_of (one ∷ other ∷ []) (of_fire_de q))
    (filter is_of_command (second_pass q))
second_noted p q r = ((refl, refl), ((refl, refl), ((refl, refl), tt)))

-- so each pass is that of its part's session, and there are no others
abbrev cells : List Cell
cells = one ∷ other ∷ []

of_both : All (λ a. is_among cells a.0 ≡ false → a.1 ≡ answers.Cause 3) both_started
of_both = All-from_recursion
    (λ (a : Cell × Answer). is_among cells a.0 ≡ false → a.1 ≡ answers.Cause 3) both_started
    ((λ foreign. absurd (cc)), ((λ foreign. absurd (cc)), tt))

first_exchanged : (p r : Paged) → All (IsExchange cells) (of_fire_en p r)
first_exchanged p r = All-from_recursion (IsExchange cells) (of_fire_en p r) (
  record { asked = refl; replied = refl; foreign = of_both },
  (
    record {
      asked = refl;
      replied = refl;
      foreign = All-from_recursion
          (λ (a : Cell × Answer). is_among cells a.0 ≡ false → a.1 ≡ answers.Cause 3) (row_5 r).answers
          ((λ foreign. absurd (cc)), tt);
    },
    tt,
  ),
)

second_exchanged : (q : Paged) → All (IsExchange cells) (of_fire_de q)
second_exchanged q = All-from_recursion (IsExchange cells) (of_fire_de q) (
  record { asked = refl; replied = refl; foreign = of_both },
  (
    record {
      asked = refl;
      replied = refl;
      foreign = All-from_recursion
          (λ (a : Cell × Answer). is_among cells a.0 ≡ false → a.1 ≡ answers.Cause 3) row_6.answers
          ((λ foreign. absurd (cc)), tt);
    },
    tt,
  ),
)

are_sessions : (p q r : Paged) → AreSessions (book p q r) 2 (records p q r) (first_pass p r ∷ second_pass q ∷ [])
are_sessions p q r zero = record {
  own = λ within. (
    of_fire_en p r,
    record {
      turns = first_session p q r;
      exchanged = first_exchanged p r;
      noted = first_noted p q r;
    },
  );
  later = λ past. absurd (omega (arith, past));
}
are_sessions p q r (suc zero) = record {
  own = λ within. (
    of_fire_de q,
    record {
      turns = second_session p q r;
      exchanged = second_exchanged q;
      noted = second_noted p q r;
    },
  );
  later = λ past. absurd (omega (arith, past));
}
are_sessions p q r (suc (suc place)) =
    record { own = λ within. absurd (omega (arith, within)); later = λ past. refl }

-- each entry was noted once, with the notes of both
times_in_one : (p q r : Paged)
    → map (λ (k : ℕ). times_noted one k (all_notes (first_pass p r ∷ second_pass q ∷ []))) (0 ∷ 1 ∷ 2 ∷ 3 ∷ [])
    ≡ 1 ∷ 1 ∷ 1 ∷ 0 ∷ []
times_in_one p q r = refl

-- a session that notes less than it asked isn't the pass's
left_out : (p q r : Paged)
    → AllZip (IsNoteOf (records p q r)) (asks_of (one ∷ other ∷ []) (of_fire_de q))
    (filter is_of_command (take 3 (second_pass q)))
    → ⊥
left_out p q r zip = zip.1.1

-- messages and replies, in octets
message_of_row_3 : octets_of_message (write 4370 16 None (one ∷ other ∷ []) (record { 0 = 1 }) (stay ∷ []))
    ≡ 0x01 ∷ 0x00 ∷ 0x00 ∷ 0x72 ∷ 0x0E ∷ 0x11 ∷ 0x12 ∷ 0x03 ∷ 0x00 ∷ 0x10
    ∷ 0x04 ∷ 0x00 ∷ 0x09 ∷ 0x01 ∷ 0x00 ∷ 0x01 ∷ 0x00 ∷ 0x01 ∷ 0x00 ∷ 0x01 ∷ 0x00 ∷ 0x02
    ∷ 0x05 ∷ 0x02 ∷ 0x06 ∷ 0x00 ∷ 0x04 ∷ 0x07 ∷ 0x00 ∷ 0x00 ∷ 0x13 ∷ 0x01 ∷ 0x0C ∷ 0x01 ∷ 0x01 ∷ 0x07 ∷ stay.octets
unfolding octets_of_message bodies_in
message_of_row_3 = refl

message_of_row_5 : octets_of_message (write 4370 17 (Some 16) (one ∷ []) (record { 0 = 1 }) (safe ∷ []))
    ≡ 0x01 ∷ 0x00 ∷ 0x00 ∷ 0x71 ∷ 0x0E ∷ 0x11 ∷ 0x12 ∷ 0x03 ∷ 0x00 ∷ 0x11 ∷ 0x02 ∷ 0x00 ∷ 0x10
    ∷ 0x04 ∷ 0x00 ∷ 0x05 ∷ 0x01 ∷ 0x00 ∷ 0x01 ∷ 0x00 ∷ 0x01
    ∷ 0x05 ∷ 0x02 ∷ 0x06 ∷ 0x00 ∷ 0x04 ∷ 0x07 ∷ 0x00 ∷ 0x00 ∷ 0x13 ∷ 0x01 ∷ 0x0C ∷ 0x01 ∷ 0x01 ∷ 0x07 ∷ safe.octets
unfolding octets_of_message bodies_in
message_of_row_5 = refl

message_of_row_6 : octets_of_message (messages.Kill 4383 32 (other ∷ []) None)
    ≡ 0x04 ∷ 0x00 ∷ 0x00 ∷ 0x0E ∷ 0x0E ∷ 0x11 ∷ 0x1F ∷ 0x02 ∷ 0x00 ∷ 0x20
    ∷ 0x04 ∷ 0x00 ∷ 0x05 ∷ 0x01 ∷ 0x00 ∷ 0x01 ∷ 0x00 ∷ 0x02 ∷ []
unfolding octets_of_message bodies_in
message_of_row_6 = refl

reply_to_row_3 : octets_of_message (reply_message (asks 4370 16 None (record { 0 = 1 }) (stay ∷ [])) both_started)
    ≡ 0x02 ∷ 0x00 ∷ 0x00 ∷ 0x12 ∷ 0x0E ∷ 0x11 ∷ 0x12 ∷ 0x03 ∷ 0x00 ∷ 0x10
    ∷ 0x04 ∷ 0x00 ∷ 0x09 ∷ 0x01 ∷ 0x00 ∷ 0x01 ∷ 0x00 ∷ 0x01 ∷ 0x00 ∷ 0x01 ∷ 0x00 ∷ 0x02 ∷ []
unfolding octets_of_message bodies_in
reply_to_row_3 = refl

reply_to_row_5 :
    octets_of_message (reply_message (asks 4370 17 (Some 16) (record { 0 = 1 }) (safe ∷ []))
    ((one, answers.Replaced 4 1) ∷ []))
    ≡ 0x02 ∷ 0x00 ∷ 0x00 ∷ 0x14 ∷ 0x0E ∷ 0x11 ∷ 0x12 ∷ 0x03 ∷ 0x00 ∷ 0x11 ∷ 0x02 ∷ 0x00 ∷ 0x10
    ∷ 0x08 ∷ 0x00 ∷ 0x08 ∷ 0x01 ∷ 0x00 ∷ 0x01 ∷ 0x00 ∷ 0x01 ∷ 0x00 ∷ 0x01 ∷ 0x00 ∷ []
unfolding octets_of_message bodies_in
reply_to_row_5 = refl

reply_to_row_6 : octets_of_message (reply_message (commands.Kill 4383 32) ((other, answers.Stopped 2) ∷ []))
    ≡ 0x05 ∷ 0x00 ∷ 0x00 ∷ 0x11 ∷ 0x0E ∷ 0x11 ∷ 0x1F ∷ 0x02 ∷ 0x00 ∷ 0x20
    ∷ 0x08 ∷ 0x00 ∷ 0x08 ∷ 0x01 ∷ 0x00 ∷ 0x01 ∷ 0x00 ∷ 0x02 ∷ 0x00 ∷ 0x02 ∷ 0x00 ∷ []
unfolding octets_of_message bodies_in
reply_to_row_6 = refl

-- what cell 1-1 airs, and what a handset shows of it
abbrev air : Air
air = Some (0, 1) ∷ Some (1, 1) ∷ None ∷ None ∷ Some (1, 1) ∷ Some (2, 1) ∷ None ∷ None ∷ []

abbrev blocks : List (List ℕ)
blocks = blocks_of_uses (in_one (record { 0 = 1 }) (record { 0 = 0 }) (record { 0 = 1 }) (stay ∷ []) (bleib ∷ [])
    (safe ∷ [])) air

first_slot : take 4 blocks
    ≡ (0x20 ∷ 0x00 ∷ 0x10 ∷ 0x11 ∷ 0x12 ∷ 0x01 ∷ 0x11 ∷ 0x53 ∷ 0x7A ∷ 0x38 ∷ 0x0F ∷ 0x4A ∷ 0xBB ∷ 0x43
    ∷ 0x8D ∷ 0x46 ∷ 0xA3 ∷ 0xD1 ∷ 0x68 ∷ 0x34 ∷ 0x1A ∷ 0x8D ∷ 0x46 ∷ [])
    ∷ (0x21 ∷ 0xA3 ∷ 0xD1 ∷ 0x68 ∷ 0x34 ∷ 0x1A ∷ 0x8D ∷ 0x46 ∷ 0xA3 ∷ 0xD1 ∷ 0x68 ∷ 0x34 ∷ 0x1A ∷ 0x8D
    ∷ 0x46 ∷ 0xA3 ∷ 0xD1 ∷ 0x68 ∷ 0x34 ∷ 0x1A ∷ 0x8D ∷ 0x46 ∷ 0xA3 ∷ [])
    ∷ (0x22 ∷ 0xD1 ∷ 0x68 ∷ 0x34 ∷ 0x1A ∷ 0x8D ∷ 0x46 ∷ 0xA3 ∷ 0xD1 ∷ 0x68 ∷ 0x34 ∷ 0x1A ∷ 0x8D ∷ 0x46
    ∷ 0xA3 ∷ 0xD1 ∷ 0x68 ∷ 0x34 ∷ 0x1A ∷ 0x8D ∷ 0x46 ∷ 0xA3 ∷ 0xD1 ∷ [])
    ∷ (0x33 ∷ 0x68 ∷ 0x34 ∷ 0x1A ∷ 0x8D ∷ 0x46 ∷ 0xA3 ∷ 0xD1 ∷ 0x68 ∷ 0x34 ∷ 0x1A ∷ 0x8D ∷ 0x46 ∷ 0xA3
    ∷ 0xD1 ∷ 0x68 ∷ 0x34 ∷ 0x1A ∷ 0x8D ∷ 0x46 ∷ 0xA3 ∷ 0xD1 ∷ 0x00 ∷ []) ∷ []
first_slot = refl

wholes : whole_in (record { id = 4370; serial = 16 }) blocks ∷ whole_in (record { id = 4383; serial = 32 }) blocks
    ∷ whole_in (record { id = 4370; serial = 17 }) blocks ∷ []
    ≡ 1 ∷ 2 ∷ 1 ∷ []
wholes = refl

three_shown : map name_shown (shown_in blocks)
    ≡ record { id = 4370; serial = 16 } ∷ record { id = 4383; serial = 32 } ∷ record { id = 4370; serial = 17 } ∷ []
three_shown = refl
