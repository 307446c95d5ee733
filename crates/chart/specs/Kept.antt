-- What is kept of an accepted message as a log is walked (own). The contracts of private functions alone speak of it.
use Rattle.std.specs.Prelude.{ℕ, ◌<◌, ◌&&◌, nat_le, nat_lt, if◌then◌else◌, Bool, true, false, List, map, All}
use Rattle.bsc_table.specs.declared.entry.Answer.{Answer}
use Rattle.bsc_table.specs.declared.entry.Answer.TheVariants as answers
use Rattle.bsc_table.specs.declared.entry.Entry.{Entry}
use Rattle.bsc_table.specs.Record.{Accepted, is_stop_of, rank_of, stop_after}
use Rattle.chart.specs.declared.kept.KeptMessage.{KeptMessage}
use Rattle.chart.specs.declared.load.Reserved.{Reserved}

-- the message that is kept so
abbrev pub accepted_kept : KeptMessage → Accepted
accepted_kept k = record {
  id = k.id;
  serial = k.serial;
  accepted = k.accepted;
  behind = k.behind;
  excess = k.excess;
  message = record {
    entry = k.entry;
    start = k.start;
    pages = k.pages;
    period = k.period;
    broadcasts = k.broadcasts;
    stop = k.stop;
    rank = rank_of k.category;
  };
}

abbrev pub all_kept : List KeptMessage → List Accepted
all_kept kept = map accepted_kept kept

-- each has a period
abbrev pub HavePeriods : List KeptMessage → Type 0
HavePeriods kept = All (λ k. 0 < k.period) kept

-- what is kept of it after one more entry
abbrev pub kept_stopped : Entry → KeptMessage → KeptMessage
kept_stopped e k = record k { stop = stop_after k.stop (is_stop_of k.id k.serial e) e.slot }

-- an answer says that a message was stopped
abbrev pub stops : Answer → Bool
stops (answers.Started slot) = false
stops (answers.Replaced slot completed) = true
stops (answers.Stopped completed) = true
stops (answers.Told completed state) = false
stops answers.Unknown = false
stops (answers.Cause cause) = false
stops answers.Refused = false

-- what a message reserves at a slot of its reservation
abbrev pub load_within : Reserved → (slot : ℕ) → ℕ
load_within reserved slot =
    if nat_le reserved.accepted slot && nat_lt slot reserved.end
    then (if nat_lt slot reserved.start then reserved.excess else reserved.load)
    else 0
