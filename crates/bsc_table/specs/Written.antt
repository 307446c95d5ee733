-- Which write of the log an accepted message is, and of which writes a cell airs pages (own).
use Rattle.std.specs.Prelude.{◌≡◌, ℕ, ◌<◌, ◌≤◌, true, Option, Some, None, is_some, List, length, slice_index_or, All}
use Rattle.std.specs.Prelude.{AllPairs}
use Rattle.bsc_table.specs.declared.command.Command.{Command}
use Rattle.bsc_table.specs.declared.command.Command.TheVariants as commands
use Rattle.bsc_table.specs.declared.entry.Entry.{Entry}
use Rattle.bsc_table.specs.Record.{Record, Accepted, start_of, accepted_in}
use Rattle.bsc_table.specs.Legal.{IsLegal}

-- the message is this write's: it has its pair and as many pages as contents, and starts where the answer says
abbrev pub IsWriteBy : Accepted → Command → Option ℕ → Type 0
IsWriteBy a (commands.Write id serial replaces category dcs period broadcasts contents) start =
    (a.id ≡ id) × (a.serial ≡ serial) × (a.message.pages ≡ length contents) × (start ≡ Some a.message.start)
IsWriteBy a (commands.Kill id serial) start = ⊥
IsWriteBy a (commands.Status id serial) start = ⊥

-- each accepted message is the write that stands in the log at its number, and was accepted at that entry's slot
abbrev pub AcceptedAreWrites : Type 0
AcceptedAreWrites = (log : List Entry) (d : Entry)
    → All (λ a. (a.message.entry < length log)
    × IsWriteBy a (slice_index_or log a.message.entry d).command
    (start_of (slice_index_or log a.message.entry d).answer)
    × (a.accepted ≡ (slice_index_or log a.message.entry d).slot)) (accepted_in log)

-- a write, with a page of this number, whose answer starts a message
abbrev pub HasPage : ℕ → Command → Option ℕ → Type 0
HasPage page (commands.Write id serial replaces category dcs period broadcasts contents) start =
    (1 ≤ page) × (page ≤ length contents) × (is_some start ≡ true)
HasPage page (commands.Kill id serial) start = ⊥
HasPage page (commands.Status id serial) start = ⊥

-- a slot that airs something airs a page of an accepted write of the log
abbrev pub UsesAreOfWrites : Type 0
UsesAreOfWrites = (r : Record) (slot entry page : ℕ) (d : Entry)
    → IsLegal r
    → slot < r.clock
    → slice_index_or r.air slot None ≡ Some (entry, page)
    → (entry < length r.log)
    × HasPage page (slice_index_or r.log entry d).command (start_of (slice_index_or r.log entry d).answer)

-- each later accepted message has a greater number
abbrev pub AcceptedRise : Type 0
AcceptedRise = (log : List Entry) → AllPairs (λ a b. a.message.entry < b.message.entry) (accepted_in log)

-- and each has a page and a period
abbrev pub AcceptedHaveLoads : Type 0
AcceptedHaveLoads = (r : Record) → IsLegal r → All (λ a. (0 < a.message.pages) × (0 < a.message.period))
    (accepted_in r.log)
