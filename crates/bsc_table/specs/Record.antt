-- A cell's record, and the messages that its log accepted (own).
use Rattle.std.specs.Prelude.{ℕ, ◌+◌, ◌-◌, ◌*◌, Bool, true, false, ◌==◌, ◌&&◌, ◌||◌, not, nat_lt, if◌then◌else◌, Option}
use Rattle.std.specs.Prelude.{Some, None, is_some, List, [], ◌∷◌, ◌++◌, length, map, filter, find}
use Rattle.admission.specs.Load.{load_of}
use Rattle.cbsp_wire.specs.declared.message.Cell.{Cell}
use Rattle.scheduler.specs.declared.plan.Rank.{Rank}
use Rattle.scheduler.specs.declared.plan.Rank.TheVariants as ranks
use Rattle.scheduler.specs.Message.{ScheduledMessage}
use Rattle.scheduler.specs.Air.{Air, layer}
use Rattle.bsc_table.specs.declared.command.Category.{Category}
use Rattle.bsc_table.specs.declared.command.Category.TheVariants.{High, Normal, Background}
use Rattle.bsc_table.specs.declared.command.Command.{Command}
use Rattle.bsc_table.specs.declared.command.Command.TheVariants as commands
use Rattle.bsc_table.specs.declared.entry.Answer.{Answer}
use Rattle.bsc_table.specs.declared.entry.Answer.TheVariants as answers
use Rattle.bsc_table.specs.declared.entry.State.{State}
use Rattle.bsc_table.specs.declared.entry.State.TheVariants as states
use Rattle.bsc_table.specs.declared.entry.Entry.{Entry}
use Rattle.bsc_table.specs.Claim.{Claim, own_load, reserves}
use Rattle.bsc_table.specs.Handover.{Place, ahead_of, numbered, handover}

-- a cell's record: how many slots its run has, how many of them were played, the commands that were answered, in order,
-- and what each played slot aired
pub record Record : Type 0 where
  pub cell : Cell
  pub slots : ℕ
  pub clock : ℕ
  pub log : List Entry
  pub air : Air

-- a message that was accepted: the pair that names it, the slot at which it was accepted, the number of the message
-- behind which it waits up to its start and the load that it reserves until then (none and 0 where it starts at once),
-- and the message as the schedule sees it
pub record Accepted : Type 0 where
  pub id : ℕ
  pub serial : ℕ
  pub accepted : ℕ
  pub behind : Option ℕ
  pub excess : ℕ
  pub message : ScheduledMessage

-- what an accepted message claims of the cell's slots
abbrev pub claim_of : Accepted → Claim
claim_of a = record { message = a.message; accepted = a.accepted; behind = a.behind; excess = a.excess }

-- of some accepted messages those that aren't background
abbrev pub claims_of : List Accepted → List Claim
claims_of all = filter reserves (map claim_of all)

-- the slot from which a write's message stands, where the answer accepts it: a later one than its own where the message
-- takes over from the one that it replaces
abbrev pub start_of : Answer → Option ℕ
start_of (answers.Started slot) = Some slot
start_of (answers.Replaced slot completed) = Some slot
start_of other = None

-- the rank of a message as the schedule sees it, by its category
abbrev pub rank_of : Category → Rank
rank_of High = ranks.High
rank_of Normal = ranks.Normal
rank_of Background = ranks.Background

abbrev pub is_background_category : Category → Bool
is_background_category High = false
is_background_category Normal = false
is_background_category Background = true

-- whether an entry stopped the message of this pair: a kill of it that was answered `Stopped`, or a write in its place
-- that was answered `Replaced`
abbrev pub is_stop_by : ℕ → ℕ → Command → Answer → Bool
is_stop_by id serial (commands.Kill of_id of_serial) (answers.Stopped completed) = (id == of_id) &&
    (serial == of_serial)
is_stop_by id serial (commands.Write of_id new (Some of_serial) category dcs period broadcasts contents)
    (answers.Replaced slot completed) =
    (id == of_id) && (serial == of_serial)
is_stop_by id serial command answer = false

abbrev pub is_stop_of : ℕ → ℕ → Entry → Bool
is_stop_of id serial e = is_stop_by id serial e.command e.answer

-- the stop of a message after one more entry: at its slot, where it stops the message and nothing did before
abbrev pub stop_after : Option ℕ → Bool → ℕ → Option ℕ
stop_after (Some slot) says now = Some slot
stop_after None true now = Some now
stop_after None false now = None

-- an accepted message after one more entry
abbrev pub stopped_by : Entry → Accepted → Accepted
stopped_by e a = record a {
  message = record (a.message) {
    stop = stop_after a.message.stop
        (is_stop_of a.id a.serial e) e.slot;
  };
}

-- the message of a pair is this one
abbrev pub is_of_pair : ℕ → ℕ → Accepted → Bool
is_of_pair id serial a = (a.id == id) && (a.serial == serial)

-- the message that a write replaces, of those accepted before, if it replaces one
abbrev pub replaced_in : List Accepted → ℕ → Option ℕ → Option Accepted
replaced_in all id None = None
replaced_in all id (Some serial) = find (is_of_pair id serial) all

-- behind which message one waits that was accepted at the slot with that start: none where it starts at once; else the
-- one that it replaces where that has started, or the one behind which that waits
abbrev pub predecessor_of : ℕ → ℕ → Option Accepted → Option ℕ
predecessor_of slot start None = None
predecessor_of slot start (Some old) = if start == slot then None else ahead_of slot (claim_of old)

-- the place that a replacement of the old message may take over at the slot, in claims in which the old one is stopped:
-- none where that is background, behind which nothing waits
abbrev pub place_after : List Claim → ℕ → Accepted → ℕ → Option Place
place_after claims slot old load = if layer old.message == 0 then handover claims slot (claim_of old) load else None

-- what a load has over that of the message behind which it waits; 0 where there is none, or where it has less
abbrev pub excess_beyond : ℕ → Option Claim → ℕ
excess_beyond load None = 0
excess_beyond load (Some p) = load - own_load p.message

-- a write's message, which stands: its place in the log, the slots of its acceptance and of its start, behind which it
-- waits and with what excess, its pair, and what is broadcast
abbrev pub write_message : ℕ → ℕ → ℕ → Option ℕ → ℕ → ℕ → ℕ → ℕ → ℕ → ℕ → Rank → Accepted
write_message place slot start behind excess id serial pages period broadcasts rank = record {
  id = id;
  serial = serial;
  accepted = slot;
  behind = behind;
  excess = excess;
  message = record {
    entry = place;
    start = start;
    pages = pages;
    period = period;
    broadcasts = broadcasts;
    stop = None;
    rank = rank;
  };
}

-- the message that a write of the pair adds to those accepted before, by the message behind which it waits
abbrev pub written_behind : List Accepted → ℕ → ℕ → ℕ → Option ℕ → ℕ → ℕ → ℕ → ℕ → ℕ → Rank → Accepted
written_behind all place slot start behind id serial pages period broadcasts rank =
    let excess = excess_beyond (load_of pages period) (numbered behind (claims_of all)) in
    write_message place slot start behind excess id serial pages period broadcasts rank

-- the message that an entry at this place of the log and at this slot adds to those accepted before, by its start and
-- its command: a write's that was accepted
abbrev pub added_by : List Accepted → ℕ → ℕ → Option ℕ → Command → List Accepted
added_by all place slot (Some start) (commands.Write id serial replaces category dcs period broadcasts contents) =
    let behind = predecessor_of slot start (replaced_in all id replaces) in
    written_behind all place slot start behind id serial (length contents) period broadcasts (rank_of category) ∷ []
added_by all place slot start command = []

-- the accepted messages after one more entry, at this place of the log: those before it, stopped where it stops them,
-- and the one that it adds, if it does
abbrev pub accepted_after : List Accepted → ℕ → Entry → List Accepted
accepted_after all place e = map (stopped_by e) all ++ added_by all place e.slot (start_of e.answer) e.command

-- and after the entries of which the first stands at this place
abbrev pub accepted_from : List Accepted → ℕ → List Entry → List Accepted
accepted_from all place [] = all
accepted_from all place (e ∷ later) = accepted_from (accepted_after all place e) (place + 1) later

-- the accepted messages of a log, each numbered by its place, and stopped by the first later entry that stopped it
abbrev pub accepted_in : List Entry → List Accepted
accepted_in log = accepted_from [] 0 log

abbrev pub messages_in : List Entry → List ScheduledMessage
messages_in log = map (λ a. a.message) (accepted_in log)

-- the accepted message of a pair, if there is one, and its message
abbrev pub accepted_named : ℕ → ℕ → List Entry → Option Accepted
accepted_named id serial log = find (is_of_pair id serial) (accepted_in log)

abbrev pub message_found : Option Accepted → Option ScheduledMessage
message_found None = None
message_found (Some a) = Some a.message

abbrev pub message_named : ℕ → ℕ → List Entry → Option ScheduledMessage
message_named id serial log = message_found (accepted_named id serial log)

-- a message that wasn't stopped by now is live up to the end of the periods of its requested broadcasts, if they have
-- an end
abbrev pub is_live : ℕ → ScheduledMessage → Bool
is_live slot m = not (is_some m.stop) && ((m.broadcasts == 0) || nat_lt slot (m.start + m.broadcasts * m.period))

-- how an accepted message stands before a slot
abbrev pub unstopped_state : Bool → State
unstopped_state true = states.Standing
unstopped_state false = states.RanOut

abbrev pub state_by : Option ℕ → Bool → State
state_by (Some slot) live = states.Stopped slot
state_by None live = unstopped_state live

abbrev pub state_at : ℕ → ScheduledMessage → State
state_at slot m = state_by m.stop (is_live slot m)

-- what the accepted messages of a log claim of the cell's slots
abbrev pub claims_in : List Entry → List Claim
claims_in log = claims_of (accepted_in log)
