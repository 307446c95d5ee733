-- The answer to a command, by what the cell's log and air list hold: of the refusals the first that applies (own; the
-- causes are those of 3GPP TS 48.049, clause 8.2).
--
-- 1. Cause 08: the log has 4,096 entries. For any command; such an answer has no entry. 2. Cause 0A: all slots of the
-- run are played. Not for a status. 3. Cause 02: the message to replace or to stop isn't live. 4. Cause 0D: a message
-- of the same identifier and serial number was accepted before. 5. Cause 07: 64 messages are reserved, each from the
-- slot at which it was accepted up to its end. Not for a background message, which reserves nothing and isn't
-- counted.
-- 6. Cause 06: the load doesn't fit beside those that are reserved, and there is no place that it may take over, or
-- the excess over the load of that place doesn't fit either. Not for a background message.
--
-- The file has the definitions in the other direction, each below those that it asks next.
use Rattle.std.specs.Prelude.{ℕ, ◌+◌, ◌==◌, nat_le, nat_lt, if◌then◌else◌, Option, Some, None, List, length, filter}
use Rattle.admission.specs.declared.measure.TheConstants.{SCALE}
use Rattle.admission.specs.Load.{load_of}
use Rattle.admission.specs.Table.{max_reserved}
use Rattle.scheduler.specs.Message.{ScheduledMessage}
use Rattle.scheduler.specs.Air.{Air}
use Rattle.scheduler.specs.Completed.{completed}
use Rattle.cbsp_wire.specs.declared.cause.TheConstants.{BSC_CAPACITY_EXCEEDED, BSC_MEMORY_EXCEEDED}
use Rattle.cbsp_wire.specs.declared.cause.TheConstants.{CELL_BROADCAST_NOT_OPERATIONAL, CELL_MEMORY_EXCEEDED}
use Rattle.cbsp_wire.specs.declared.cause.TheConstants.{MESSAGE_REFERENCE_ALREADY_USED}
use Rattle.cbsp_wire.specs.declared.cause.TheConstants.{MESSAGE_REFERENCE_NOT_IDENTIFIED}
use Rattle.bsc_table.specs.declared.command.Category.{Category}
use Rattle.bsc_table.specs.declared.command.Command.{Command}
use Rattle.bsc_table.specs.declared.command.Command.TheVariants as commands
use Rattle.bsc_table.specs.declared.entry.Answer.{Answer}
use Rattle.bsc_table.specs.declared.entry.Answer.TheVariants as answers
use Rattle.bsc_table.specs.declared.entry.State.{State}
use Rattle.bsc_table.specs.declared.entry.Entry.{Entry}
use Rattle.bsc_table.specs.Claim.{Claim, is_claimed_at, claimed_at, stop_claims}
use Rattle.bsc_table.specs.Handover.{Place}
use Rattle.bsc_table.specs.Record.{Accepted, accepted_named, message_named, claims_in, is_background_category}
use Rattle.bsc_table.specs.Record.{place_after}
use Rattle.bsc_table.specs.Record.{is_live, state_at}

-- 6, where the load doesn't fit now: it starts later, at the place that it may take over, where its excess fits now;
-- from then on no more is reserved at any slot
abbrev pub answer_at : List Claim → ℕ → (ℕ → Answer) → Option Place → Answer
answer_at claims slot accepts None = answers.Cause BSC_CAPACITY_EXCEEDED
answer_at claims slot accepts (Some place) =
    if nat_lt SCALE (claimed_at claims slot + place.excess) then answers.Cause BSC_CAPACITY_EXCEEDED
    else accepts place.start

-- 5 and 6, else the answer that accepts, by the slot at which the message starts: at once where its load fits
abbrev pub admit_or_refuse : List Claim → ℕ → ℕ → Option Place → (ℕ → Answer) → Answer
admit_or_refuse claims slot load place accepts =
    if nat_le max_reserved (length (filter (is_claimed_at slot) claims)) then answers.Cause CELL_MEMORY_EXCEEDED
    else if nat_lt SCALE (claimed_at claims slot + load) then answer_at claims slot accepts place
    else accepts slot

-- 5 and 6 by the category: a background message is accepted at once
abbrev pub answer_for : Category → List Claim → ℕ → ℕ → Option Place → (ℕ → Answer) → Answer
answer_for category claims slot load place accepts =
    if is_background_category category then accepts slot else admit_or_refuse claims slot load place accepts

-- a write in the place of no message: there is no place that it may take over
abbrev pub answer_to_new : List Entry → ℕ → Category → ℕ → Answer
answer_to_new log slot category load =
    answer_for category (claims_in log) slot load None (λ start. answers.Started start)

-- a write in the place of an old one, whose stop counts as applied: it may take over from that one where it has
-- started, and from the one behind which that one waits where it hasn't
abbrev pub answer_to_replacement : List Entry → Air → ℕ → Category → ℕ → Accepted → Answer
answer_to_replacement log air slot category load old =
    let left = stop_claims old.message.entry slot (claims_in log) in
    answer_for category left slot load (place_after left slot old load)
    (λ start. answers.Replaced start (completed old.message air slot))

-- 4, where the pair of a write was accepted before
abbrev pub unless_accepted : Option ScheduledMessage → Answer → Answer
unless_accepted (Some m) answer = answers.Cause MESSAGE_REFERENCE_ALREADY_USED
unless_accepted None answer = answer

-- 3: what is said of a live message; cause 02 where it isn't live, or was never accepted
abbrev pub if_live : ℕ → Option Accepted → (Accepted → Answer) → Answer
if_live slot None answer = answers.Cause MESSAGE_REFERENCE_NOT_IDENTIFIED
if_live slot (Some a) answer =
    if is_live slot a.message then answer a else answers.Cause MESSAGE_REFERENCE_NOT_IDENTIFIED

abbrev pub answer_to_write : List Entry → Air → ℕ → ℕ → ℕ → Option ℕ → Category → ℕ → Answer
answer_to_write log air slot id serial None category load =
    unless_accepted (message_named id serial log) (answer_to_new log slot category load)
answer_to_write log air slot id serial (Some replaced) category load =
    if_live slot (accepted_named id replaced log) (λ old.
    unless_accepted (message_named id serial log) (answer_to_replacement log air slot category load old))

abbrev pub answer_to_kill : List Entry → Air → ℕ → ℕ → ℕ → Answer
answer_to_kill log air slot id serial =
    if_live slot (accepted_named id serial log) (λ a. answers.Stopped (completed a.message air slot))

-- how many broadcasts of a message are completed before a slot, and how it stands there, if there is a message
abbrev pub status_of : Air → ℕ → Option ScheduledMessage → Option (ℕ × State)
status_of air slot None = None
status_of air slot (Some m) = Some (completed m air slot, state_at slot m)

-- the answer to a status reports that of a message that was accepted, whether it is live or not
abbrev pub answer_with_status : Option (ℕ × State) → Answer
answer_with_status None = answers.Unknown
answer_with_status (Some status) = answers.Told status.0 status.1

abbrev pub status_answer : Air → ℕ → Option ScheduledMessage → Answer
status_answer air slot m = answer_with_status (status_of air slot m)

-- 2
abbrev pub before_end : ℕ → ℕ → Answer → Answer
before_end slots slot answer = if slot == slots then answers.Cause CELL_BROADCAST_NOT_OPERATIONAL else answer

abbrev pub answer_with_room : ℕ → List Entry → Air → ℕ → Command → Answer
answer_with_room slots log air slot (commands.Status id serial) = status_answer air slot (message_named id serial log)
answer_with_room slots log air slot (commands.Kill id serial) = before_end slots slot
    (answer_to_kill log air slot id serial)
answer_with_room slots log air slot (commands.Write id serial replaces category dcs period broadcasts contents) =
    before_end slots slot (answer_to_write log air slot id serial replaces category (load_of (length contents) period))

-- the answer to a command at a slot of a run of this many slots, by the entries before it and what is aired
abbrev pub answer_of : ℕ → List Entry → Air → ℕ → Command → Answer
answer_of slots log air slot command =
    if nat_le 4096 (length log) then answers.Cause BSC_MEMORY_EXCEEDED else answer_with_room slots log air slot command
