-- What a book's calls do in steps (own): contracts of private functions alone speak of it.
use Rattle.std.specs.Prelude.{◌≡◌, ◌≢◌, ℕ, ◌+◌, ◌<◌, ⊤, true, false, find, ◌≤◌, ◌==◌, if◌then◌else◌, Option, Some, None}
use Rattle.std.specs.Prelude.{Result, Ok, Err, OnOk, IfSome, List, [], ◌∷◌, ◌++◌, length, map, filter, All, Any}
use Rattle.std.specs.Prelude.{Contains}
use Rattle.admission.specs.declared.budget.Held.{Held}
use Rattle.admission.specs.declared.budget.NoRoom.{NoRoom}
use Rattle.admission.specs.declared.budget.NoRoom.TheVariants.{Table, Load}
use Rattle.admission.specs.declared.measure.TheConstants.{SCALE}
use Rattle.admission.specs.Reservation.{end_of_stopped}
use Rattle.std.specs.Option.{option_map}
use Rattle.admission.specs.Waiting.{behind_of}
use Rattle.admission.specs.Table.{room_answer, room_answer_for, excess_over, max_reserved}
use Rattle.scheduler.specs.Message.{ScheduledMessage, stopped_if}
use Rattle.scheduler.specs.Air.{Air, IsAirOf}
use Rattle.scheduler.specs.Follows.{PlanState, Follows, next_slot}
use Rattle.cbsp_wire.specs.declared.cause.TheConstants.{BSC_CAPACITY_EXCEEDED, CELL_MEMORY_EXCEEDED}
use Rattle.std.specs.declared.alloc.AllocError.{AllocError}
use Rattle.bsc_table.specs.declared.command.Command.{Command}
use Rattle.bsc_table.specs.declared.command.Command.TheVariants as commands
use Rattle.bsc_table.specs.declared.entry.Answer.{Answer}
use Rattle.bsc_table.specs.declared.entry.Answer.TheVariants as answers
use Rattle.bsc_table.specs.declared.entry.Entry.{Entry}
use Rattle.bsc_table.specs.declared.accepted.AcceptedMessage.{AcceptedMessage}
use Rattle.bsc_table.specs.declared.accepted.Place.{Place as FoundPlace}
use Rattle.bsc_table.specs.declared.accepted.TheConstants.{LATEST_START}
use Rattle.bsc_table.specs.declared.table.Kept.{Kept}
use Rattle.bsc_table.specs.Record.{Record, Accepted, write_message, accepted_in, claims_in, rank_of, place_after}
use Rattle.bsc_table.specs.Record.{is_of_pair, is_live}
use Rattle.bsc_table.specs.Legal.{IsLegal}
use Rattle.bsc_table.specs.Begun.{IsBegun}
use Rattle.bsc_table.specs.Claim.{Claim, own_load, is_claimed_at, claimed_at, stop_claims}
use Rattle.bsc_table.specs.Handover.{Place}
use Rattle.bsc_table.specs.Orders.{IsWellFormed}
use Rattle.bsc_table.specs.Answer.{answer_at, admit_or_refuse, answer_with_room}
use Rattle.bsc_table.specs.Transitions.{entry_by, with_entry}
use Rattle.bsc_table.specs.Accepted.{accepted_of}

-- what is kept, with the message of that number stopped at the slot
abbrev pub accepted_stopped : ℕ → ℕ → AcceptedMessage → AcceptedMessage
accepted_stopped entry slot k = record k { stop = if k.entry == entry then Some slot else k.stop }

-- the message that a search by its pair finds, if it finds one
abbrev pub message_kept : Result Kept ℕ → Option Accepted
message_kept (Ok kept) = Some (accepted_of kept.message)
message_kept (Err gap) = None

-- the message of that number stopped at the slot
abbrev pub stop_numbered : ℕ → ℕ → Accepted → Accepted
stop_numbered entry slot a = record a { message = stopped_if (a.message.entry == entry) slot a.message }

-- an entry that is to come next: at the clock, with the right answer to a well-formed command, where the log has room
pub record IsNextEntry (r : Record) (e : Entry) : Type 0 where
  pub now : e.slot ≡ r.clock
  pub room : length r.log < 4096
  pub formed : IsWellFormed e.command
  pub right : e.answer ≡ answer_with_room r.slots r.log r.air r.clock e.command

-- a message was accepted, and is live
pub record IsLiveIn (r : Record) (a : Accepted) : Type 0 where
  pub there : Contains (accepted_in r.log) a
  pub live : is_live r.clock a.message ≡ true

-- an entry stops a message and no other
pub record IsStop (r : Record) (e : Entry) (old : Accepted) : Type 0 where
  pub stops : IsLiveIn r old
  pub after : accepted_in (r.log ++ e ∷ []) ≡ map (stop_numbered old.message.entry r.clock) (accepted_in r.log)

-- an entry starts a message
pub record IsStart (r : Record) (e : Entry) (new : Accepted) : Type 0 where
  pub begun : IsBegun (length r.log) r.clock None (accepted_in r.log) new
  pub after : accepted_in (r.log ++ e ∷ []) ≡ accepted_in r.log ++ new ∷ []

-- an entry stops a message and starts one in its place
pub record IsReplacement (r : Record) (e : Entry) (old new : Accepted) : Type 0 where
  pub stops : IsLiveIn r old
  pub begun : IsBegun (length r.log) r.clock (Some old)
      (map (stop_numbered old.message.entry r.clock) (accepted_in r.log)) new
  pub after : accepted_in (r.log ++ e ∷ []) ≡ map (stop_numbered old.message.entry r.clock) (accepted_in r.log) ++ new
      ∷ []

-- the right answer to a command, where the log has room
abbrev pub right_answer : Record → Command → Answer
right_answer r command = answer_with_room r.slots r.log r.air r.clock command

-- a command that may be entered: a well-formed one, where the history is legal and its log has room
pub record IsAsked (r : Record) (command : Command) : Type 0 where
  pub legal : IsLegal r
  pub room : length r.log < 4096
  pub formed : IsWellFormed command

-- a command was entered with the right answer; or nothing has changed, if out of memory
abbrev pub IsAnswered : Record → Command → Record → Result Answer AllocError → Type 0
IsAnswered before command after (Ok answer) =
    (answer ≡ right_answer before command) × (after ≡ with_entry (entry_by before command answer) before)
IsAnswered before command after (Err refused) = after ≡ before

-- a message that a write offers now: it would have the next entry's number, be accepted at the clock, and begin there,
-- so soon that the end of its broadcasts has room in 32 bits
pub record IsOffered (r : Record) (a : Accepted) : Type 0 where
  pub numbered : a.message.entry ≡ length r.log
  pub accepted : a.accepted ≡ r.clock
  pub begins : a.message.start ≡ r.clock
  pub behind : a.behind ≡ None
  pub excess : a.excess ≡ 0
  pub standing : a.message.stop ≡ None
  pub some_pages : 0 < a.message.pages
  pub some_period : 0 < a.message.period
  pub soon : a.message.start < LATEST_START

-- a write of that message, in the place of the one of this serial number or of none
abbrev pub IsWriteOf : Accepted → Option ℕ → Command → Type 0
IsWriteOf a replaced (commands.Write id serial replaces category dcs period broadcasts contents) =
    (replaces ≡ replaced)
    × (write_message a.message.entry a.accepted a.message.start a.behind a.excess id serial (length contents) period
    broadcasts (rank_of category) ≡ a)
IsWriteOf a replaced other = ⊥

-- the reservations of a budget hold the place that a load is to take behind an entry, up to its start: that one has
-- started and ends there, none waits behind it, and the load has so much over its own
pub record IsHeldFor (reservations : List Held) (load behind start excess : ℕ) : Type 0 where
  pub ends : Any (λ h. (h.entry ≡ behind) × (h.waits ≡ None) × (h.end ≡ Some start)) reservations
  pub free : All (λ h. behind_of h ≢ Some behind) reservations
  pub over : excess_over behind load reservations ≡ excess

-- the reservations of a budget have room for a claim, by the one behind which it waits: for its load where it starts by
-- the slot; else for its excess, behind that one
abbrev pub HasRoomFor : ℕ → List Held → Claim → Option ℕ → Type 0
HasRoomFor slot reservations c None = (c.message.start ≤ slot)
    × (room_answer_for reservations (own_load c.message) ≡ Ok tt)
HasRoomFor slot reservations c (Some behind) =
    (slot < c.message.start)
    × (room_answer_for reservations c.excess ≡ Ok tt)
    × IsHeldFor reservations (own_load c.message) behind c.message.start c.excess

-- no message of a pair is live, and one is
abbrev pub IsNotLive : ℕ → Option ScheduledMessage → Type 0
IsNotLive slot None = ⊤
IsNotLive slot (Some m) = is_live slot m ≡ false

pub record IsLiveAs (slot id serial : ℕ) (log : List Entry) (a : Accepted) : Type 0 where
  pub found : find (is_of_pair id serial) (accepted_in log) ≡ Some a
  pub live : is_live slot a.message ≡ true

-- a write of a message in the place of a live one
pub record IsWriteInPlaceOf (r : Record) (old new : Accepted) (command : Command) : Type 0 where
  pub replaced : ℕ
  pub live : IsLiveAs r.clock new.id replaced r.log old
  pub write : IsWriteOf new (Some replaced) command

-- the causes of a refusal for want of room
abbrev pub cause_of : NoRoom → ℕ
cause_of Table = CELL_MEMORY_EXCEEDED
cause_of Load = BSC_CAPACITY_EXCEEDED

-- the answer to a write, by whether its load has room: the one that accepts it now, that for a full table, or that
-- where its load has no room now
abbrev pub by_room : Result (Unit {0}) NoRoom → Answer → Answer → Answer
by_room (Ok done) now later = now
by_room (Err Table) now later = answers.Cause (cause_of Table)
by_room (Err Load) now later = later

-- a load has room beside claims at a slot
pub record HasRoom (claims : List Claim) (slot load : ℕ) : Type 0 where
  pub places : length (filter (is_claimed_at slot) claims) < max_reserved
  pub loads : claimed_at claims slot + load ≤ SCALE

-- whether it has, as a budget answers: a write is answered so, and accepted now only where the load has room
pub record IsRoom (claims : List Claim) (slot load : ℕ) (room : Result (Unit {0}) NoRoom) : Type 0 where
  pub says : room ≡ room_answer (length (filter (is_claimed_at slot) claims)) (claimed_at claims slot) load
  pub answered : (place : Option Place) (accepts : ℕ → Answer)
      → admit_or_refuse claims slot load place accepts ≡ by_room room (accepts slot)
      (answer_at claims slot accepts place)
  pub fits : OnOk room (HasRoom claims slot load)

-- a place as it is kept
abbrev pub place_found : FoundPlace → Place
place_found p = record { behind = p.behind; start = p.start; excess = p.excess }

-- the end of the reservation of a message that is kept, where it was stopped
abbrev pub stopped_end : AcceptedMessage → Option ℕ
stopped_end k = option_map (λ stop. end_of_stopped k.start k.period stop) k.stop

-- the claims of a record, with a message stopped now
abbrev pub left_by : Record → Accepted → List Claim
left_by r old = stop_claims old.message.entry r.clock (claims_in r.log)

-- the answer at a place, where there is one with room
abbrev pub by_place : Option FoundPlace → (ℕ → Answer) → Answer
by_place None accepts = answers.Cause BSC_CAPACITY_EXCEEDED
by_place (Some p) accepts = accepts p.start

-- the place at which a message of that load may take over from a live one, if there is one with room: so is a write
-- in its place answered, where that has no room now
pub record IsLater (r : Record) (old : Accepted) (load : ℕ) (later : Option FoundPlace) : Type 0 where
  pub answered : (accepts : ℕ → Answer)
      → answer_at (left_by r old) r.clock accepts (place_after (left_by r old) r.clock old load) ≡ by_place later
      accepts
  pub there : IfSome later (λ p. place_after (left_by r old) r.clock old load ≡ Some (place_found p))
  pub fits : IfSome later (λ p. claimed_at (left_by r old) r.clock + p.excess ≤ SCALE)
  pub soon : IfSome later (λ p. p.start < LATEST_START)

-- what a plan airs up to a slot: the air list is longer, and if the plan followed these messages and their air list by
-- the air rule, so it does once those slots are aired
pub record AreAired (slot : ℕ) (before after : PlanState) (air aired : Air) : Type 0 where
  pub more_air : (more : Air) × (aired ≡ air ++ more)
  pub asked : next_slot after ≡ slot
  pub follows : (messages : List ScheduledMessage)
      → Follows before messages air
      → Follows after messages aired
  pub by_rule : (messages : List ScheduledMessage)
      → Follows before messages air
      → IsAirOf messages air
      → IsAirOf messages aired
