-- The rows of a report (own): what became of the warnings that cells were asked to broadcast.
--
-- The cells come in the order of their records, and in each cell its log's writes and kills in the order of the log. A
-- write that was accepted has a row of its message; a write or a kill that was refused has a row with the cause. Kills
-- that were accepted and statuses have none: what a kill did shows in the end of the message that it stopped.
use Rattle.std.specs.Prelude.{◌≡◌, ℕ, ◌+◌, ◌*◌, ◌==◌, ◌&&◌, Bool, true, false, if◌then◌else◌, min, List, []}
use Rattle.std.specs.Prelude.{◌∷◌, ◌++◌, map, filter, find, length, nat_le, Option, Some, None}
use Rattle.std.specs.Int.{div_ceil}
use Rattle.std.specs.List.{list_any, range_with_len}
use Rattle.std.specs.Option.{unwrap_or}
use Rattle.cbsp_wire.specs.declared.message.Cell.{Cell}
use Rattle.scheduler.specs.Message.{ScheduledMessage}
use Rattle.scheduler.specs.Completed.{completed}
use Rattle.scheduler.specs.declared.plan.Rank.{Rank}
use Rattle.scheduler.specs.declared.plan.Rank.TheVariants as ranks
use Rattle.bsc_table.specs.declared.command.Command.{Command}
use Rattle.bsc_table.specs.declared.command.Command.TheVariants as commands
use Rattle.bsc_table.specs.declared.entry.Answer.{Answer}
use Rattle.bsc_table.specs.declared.entry.Answer.TheVariants as answers
use Rattle.bsc_table.specs.declared.entry.Entry.{Entry}
use Rattle.bsc_table.specs.Record.{Record, Accepted, accepted_in, rank_of}
use Rattle.handset.specs.Reception.{ShownMessage}
use Rattle.handset.specs.Tape.{TapeReading}
use Rattle.report.specs.declared.row.Demand.{Demand}
use Rattle.report.specs.declared.row.Row.{Row}
use Rattle.report.specs.declared.row.Showing.{Showing}
use Rattle.report.specs.declared.row.Showing.TheVariants as shown_status

-- the slot at which a message that nothing stopped ends in a run of this many slots: where the periods of its requested
-- broadcasts are over, if that comes before the run's end, and else that
abbrev pub end_unstopped : (slots : ℕ) → ScheduledMessage → ℕ
end_unstopped slots m = if m.broadcasts == 0 then slots else min (m.start + m.broadcasts * m.period) slots

-- the slot at which a message ends: that before which it was stopped, if it was. It may come before its start, where
-- the message had still to wait for that
abbrev pub end_in : (slots : ℕ) → ScheduledMessage → ℕ
end_in slots m = unwrap_or m.stop (end_unstopped slots m)

-- whether a message of this identifier and serial number is among those that a handset shows
abbrev pub is_shown : List ShownMessage → (id serial : ℕ) → Bool
is_shown shown id serial = list_any (λ m. (m.id == id) && (m.serial == serial)) shown

abbrev pub showing_of : Bool → Showing
showing_of true = shown_status.Yes
showing_of false = shown_status.No

-- the slot after which a broadcast of an accepted message is completed for the first time in the run
abbrev pub first_shown : Record → Accepted → Option ℕ
first_shown r a = find (λ slot. nat_le 1 (completed a.message r.air (slot + 1))) (range_with_len 0 r.slots)

-- how many hundredths of a cell's slots a message takes that sends its pages once in each period, rounded up;
-- background messages reserve none
abbrev pub share_of : Rank → (pages period : ℕ) → ℕ
share_of ranks.High pages period = div_ceil (pages * 100) period
share_of ranks.Normal pages period = div_ceil (pages * 100) period
share_of ranks.Background pages period = 0

-- what a write asks of the channel
abbrev pub demand_of : Rank → (pages period : ℕ) → Demand
demand_of rank pages period = record { pages = pages; period = period; share = share_of rank pages period }

-- the row of an accepted message: its completed broadcasts are counted at the end of the run
abbrev pub message_row : Record → List ShownMessage → Accepted → Row
message_row r shown a = record {
  entry = a.message.entry;
  lac = r.cell.lac;
  ci = r.cell.ci;
  id = a.id;
  serial = a.serial;
  start = a.message.start;
  end = end_in r.slots a.message;
  completed = completed a.message r.air r.slots;
  shown = showing_of (is_shown shown a.id a.serial);
  first_shown = first_shown r a;
  demand = Some (demand_of a.message.rank a.message.pages a.message.period);
}

-- the row of a write or a kill that was refused: it begins and ends at the slot of the answer
abbrev pub refusal_row : Cell → (place id serial slot cause : ℕ) → Option Demand → Row
refusal_row cell place id serial slot cause demand = record {
  entry = place;
  lac = cell.lac;
  ci = cell.ci;
  id = id;
  serial = serial;
  start = slot;
  end = slot;
  completed = 0;
  shown = shown_status.Refused cause;
  first_shown = None;
  demand = demand;
}

-- the row of a command, which is the entry at a place, by its answer, where that is a refusal
abbrev pub refusal_rows : Cell → (place slot : ℕ) → Answer → Command → List Row
refusal_rows cell place slot (answers.Cause cause)
    (commands.Write id serial replaces category dcs period broadcasts contents) =
    refusal_row cell place id serial slot cause (Some (demand_of (rank_of category) (length contents) period)) ∷ []
refusal_rows cell place slot (answers.Cause cause) (commands.Kill id serial) =
    refusal_row cell place id serial slot cause None ∷ []
refusal_rows cell place slot answer command = []

-- the accepted message that the entry at this place of the log is, if it is one
abbrev pub is_at : (place : ℕ) → Accepted → Bool
is_at place a = a.message.entry == place

abbrev pub accepted_at : (place : ℕ) → List Entry → List Accepted
accepted_at place log = filter (is_at place) (accepted_in log)

-- the row of the entry at this place, if it has one
abbrev pub entry_rows : Record → List ShownMessage → (place : ℕ) → Entry → List Row
entry_rows r shown place e =
    map (message_row r shown) (accepted_at place r.log) ++ refusal_rows r.cell place e.slot e.answer e.command

-- the rows of the entries from this place on
abbrev pub rows_from : Record → List ShownMessage → (place : ℕ) → List Entry → List Row
rows_from r shown place [] = []
rows_from r shown place (e ∷ later) = entry_rows r shown place e ++ rows_from r shown (place + 1) later

-- the rows of a cell, of which a handset shows these messages
abbrev pub cell_rows : Record → List ShownMessage → List Row
cell_rows r shown = rows_from r shown 0 r.log

-- the rows of cells, each with the reading of its blocks
abbrev pub report_rows : List Record → List TapeReading → List Row
report_rows [] readings = []
report_rows (r ∷ records) [] = []
report_rows (r ∷ records) (reading ∷ readings) = cell_rows r reading.shown ++ report_rows records readings

-- the readings are of the same cells as the records, in the same order
abbrev pub AreOfOneCells : List Record → List TapeReading → Type 0
AreOfOneCells records readings = map (λ r. r.cell) records ≡ map (λ reading. reading.cell) readings
