-- Steps on the way to the rows of a cell (own). The contracts of private functions alone speak of them.
use Rattle.std.specs.Prelude.{◌≡◌, ℕ, ◌+◌, ◌*◌, ◌==◌, ◌&&◌, Bool, if◌then◌else◌, min, Option, Some, None}
use Rattle.std.specs.Prelude.{List, [], length, find, slice_index, slice_index_or, drop}
use Rattle.std.specs.List.{flat_map, list_any, range_with_len, slice_get}
use Rattle.std.specs.Option.{option_map, option_map_or, unwrap_or, option_to_list}
use Rattle.std.specs.Map.{lookup}
use Rattle.cbsp_wire.specs.declared.message.Cell.{Cell}
use Rattle.scheduler.specs.Air.{Air}
use Rattle.scheduler.specs.Pages.{times_aired}
use Rattle.bsc_table.specs.declared.command.Command.{Command}
use Rattle.bsc_table.specs.declared.command.Command.TheVariants as commands
use Rattle.bsc_table.specs.declared.entry.Answer.{Answer}
use Rattle.bsc_table.specs.declared.entry.Answer.TheVariants as answers
use Rattle.bsc_table.specs.declared.entry.Entry.{Entry}
use Rattle.bsc_table.specs.Record.{is_stop_of, rank_of}
use Rattle.handset.specs.Reception.{ShownMessage}
use Rattle.report.specs.declared.row.Row.{Row}
use Rattle.report.specs.LastPages.{pages_at}
use Rattle.report.specs.Rows.{demand_of, refusal_row, showing_of, is_shown}

-- how often the slots of an air list air the last page of the entry at a place
abbrev pub last_pages : List Entry → Air → (place : ℕ) → ℕ
last_pages log air place = times_aired place (pages_at log place) air (length air)

-- a pair of an identifier and a serial number
abbrev pub Pair : Type 0
Pair = ℕ × ℕ

abbrev pub is_pair : Pair → Pair → Bool
is_pair a b = (a.0 == b.0) && (a.1 == b.1)

-- the pair of the message that an answer stops, if it stops one
abbrev pub stopped_by_answer : Command → Answer → Option Pair
stopped_by_answer (commands.Kill id serial) (answers.Stopped completed) = Some (id, serial)
stopped_by_answer (commands.Write id new (Some serial) category dcs period broadcasts contents)
    (answers.Replaced slot completed) = Some (id, serial)
stopped_by_answer command answer = None

abbrev pub stopped_pair : Entry → Option Pair
stopped_pair e = stopped_by_answer e.command e.answer

-- the slot of the first of these entries that stops the message of a pair
abbrev pub stop_in : List Entry → Pair → Option ℕ
stop_in later pair = option_map (λ e. e.slot) (find (is_stop_of pair.0 pair.1) later)

-- a map has the first stop of each pair in these entries
abbrev pub AreStops : List (Pair × ℕ) → List Entry → Type 0
AreStops entries later = (pair : Pair) → lookup (is_pair pair) entries ≡ stop_in later pair

-- the stop of what the entry at a place accepts, by the entries after it: nothing, unless it is a write
abbrev pub stop_of_command : List Entry → Command → Option ℕ
stop_of_command later (commands.Write id serial replaces category dcs period broadcasts contents) =
    stop_in later (id, serial)
stop_of_command later (commands.Kill id serial) = None
stop_of_command later (commands.Status id serial) = None

abbrev pub stop_at : List Entry → (place : ℕ) → Option ℕ
stop_at log place =
    option_map_or (λ e. stop_of_command (drop (place + 1) log) e.command) (slice_get log place) None

-- where the message of a write ends that starts at this slot, by its stop
abbrev pub end_slot : (slots start period broadcasts : ℕ) → Option ℕ → ℕ
end_slot slots start period broadcasts stop =
    unwrap_or stop (if broadcasts == 0 then slots else min (start + broadcasts * period) slots)

-- the row of a write that was accepted, which is the entry at a place, by its start
abbrev pub started_row : Cell → (place slots : ℕ) → List ShownMessage → (stop : Option ℕ) → (completed : ℕ)
    → (first : Option ℕ) → Command → ℕ → Option Row
started_row cell place slots shown stop completed first
    (commands.Write id serial replaces category dcs period broadcasts contents) start =
    Some (record {
      entry = place;
      lac = cell.lac;
      ci = cell.ci;
      id = id;
      serial = serial;
      start = start;
      end = end_slot slots start period broadcasts stop;
      completed = completed;
      shown = showing_of (is_shown shown id serial);
      first_shown = first;
      demand = Some (demand_of (rank_of category) (length contents) period);
    })
started_row cell place slots shown stop completed first command start = None

-- the row of a refused command
abbrev pub refused_row : Cell → (place slot cause : ℕ) → Command → Option Row
refused_row cell place slot cause (commands.Write id serial replaces category dcs period broadcasts contents) =
    Some (refusal_row cell place id serial slot cause (Some (demand_of (rank_of category) (length contents) period)))
refused_row cell place slot cause (commands.Kill id serial) = Some (refusal_row cell place id serial slot cause None)
refused_row cell place slot cause (commands.Status id serial) = None

-- the row of an entry, by its answer, its message's stop, how many of its broadcasts were completed, and in which slot
-- first
abbrev pub row_by : Cell → (place slots : ℕ) → List ShownMessage → (stop : Option ℕ) → (completed : ℕ)
    → (first : Option ℕ) → (slot : ℕ) → Command → Answer → Option Row
row_by cell place slots shown stop completed first slot command (answers.Started start) =
    started_row cell place slots shown stop completed first command start
row_by cell place slots shown stop completed first slot command (answers.Replaced start others) =
    started_row cell place slots shown stop completed first command start
row_by cell place slots shown stop completed first slot command (answers.Cause cause) =
    refused_row cell place slot cause command
row_by cell place slots shown stop completed first slot command answer = None

-- the row of the entry at a place, by the stops, the completed broadcasts and the slots of the first ones at the places
abbrev pub row_at : Cell → (slots : ℕ) → List ShownMessage → (stops : List (Option ℕ)) → (completed : List ℕ)
    → (firsts : List (Option ℕ)) → (place : ℕ) → Option Entry → List Row
row_at cell slots shown stops completed firsts place None = []
row_at cell slots shown stops completed firsts place (Some e) =
    option_to_list
    (row_by cell place slots shown (slice_index_or stops place None) (slice_index completed place)
    (slice_index_or firsts place None) e.slot e.command e.answer)

-- the rows of the entries of a log before a place, and of all
abbrev pub rows_before : Cell → (slots : ℕ) → List ShownMessage → (stops : List (Option ℕ)) → (completed : List ℕ)
    → (firsts : List (Option ℕ)) → (log : List Entry) → (place : ℕ) → List Row
rows_before cell slots shown stops completed firsts log place =
    flat_map (λ at. row_at cell slots shown stops completed firsts at (slice_get log at)) (range_with_len 0 place)

abbrev pub rows_by : Cell → (slots : ℕ) → List ShownMessage → (stops : List (Option ℕ)) → (completed : List ℕ)
    → (firsts : List (Option ℕ)) → (log : List Entry) → List Row
rows_by cell slots shown stops completed firsts log =
    rows_before cell slots shown stops completed firsts log (length log)

-- a set of pairs has a pair
abbrev pub has_name : List Pair → (id serial : ℕ) → Bool
has_name pairs id serial = list_any (is_pair (id, serial)) pairs

-- it has the pairs of the messages that are shown, and no other
abbrev pub HasNames : List Pair → List ShownMessage → Type 0
HasNames pairs shown = (id serial : ℕ) → has_name pairs id serial ≡ is_shown shown id serial
