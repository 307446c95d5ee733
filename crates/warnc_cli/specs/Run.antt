-- What a run of the program writes, and what its status says, by its words. Own.
use Rattle.std.specs.Prelude.{◌≡◌, ◌≢◌, ℕ, ◌<◌, ◌⊎◌, false, true, List, length, Option, codes, slice_get, Some}
use Rattle.std.specs.Io.KnownBytes.{Appends, Keeps}
use Rattle.device_ends.specs.Sink.{sink_failed, writer_of}
use Rattle.device_ends.specs.Source.{reader_of, source_failed}
use Rattle.device_ends.specs.declared.reading.Source.{Source}
use Rattle.device_ends.specs.declared.writing.Sink.{Sink}
use Rattle.warnc_cli.specs.CommandLine.{asks_for_text, is_given}
use Rattle.warnc_cli.specs.Tasks.{IsTaskOf, KeepsUnseen, Refuses, WritesAll, WritesDifferences, WritesFirstGroups}
use Rattle.warnc_cli.specs.declared.command.Task.{Task}

-- what was written is so by what the readers of a book and of the input had left
abbrev pub ByInputs : {B R W : Type 0} → (book_left : B → Option (List ℕ)) → (left : R → Option (List ℕ))
    → (held : W → Option (List ℕ)) → ((book input old new : Option (List ℕ)) → Type 0)
    → (book : Source B) → (first : Source R) → (old new : Sink W) → Type 0
ByInputs book_left left held Wrote book first old new =
    Wrote (book_left (reader_of book)) (left (reader_of first)) (held (writer_of old)) (held (writer_of new))

-- something was written
abbrev pub WritesSome : (old new : Option (List ℕ)) → Type 0
WritesSome old new = (output : List ℕ) × (0 < length output) × Appends old new output

-- something was written, unless the words ask for `compile` or `live`, since a book without cells has no tapes, for
-- `whole`, since no tapes have none, for `plan`, since no rows come to none, for `orders`, since a cell may have got
-- none, or for the report or the loads of a group, since those of a later group have no line of the columns' names
abbrev pub WritesSomeUnlessTapes : (words : List (List ℕ)) → (old new : Option (List ℕ)) → Type 0
WritesSomeUnlessTapes words old new = slice_get words 1 ≢ Some (codes "compile")
    → slice_get words 1 ≢ Some (codes "live")
    → slice_get words 1 ≢ Some (codes "whole")
    → slice_get words 1 ≢ Some (codes "plan")
    → slice_get words 1 ≢ Some (codes "orders")
    → (slice_get words 1 ≡ Some (codes "report") → is_given words (codes "--group") ≡ false)
    → (slice_get words 1 ≡ Some (codes "load") → is_given words (codes "--group") ≡ false)
    → WritesSome old new

-- the words ask for help or for the version, and something was written
pub record WroteText (words : List (List ℕ)) (old new : Option (List ℕ)) : Type 0 where
  pub asked : asks_for_text words ≡ true
  pub wrote : WritesSome old new

-- the words ask for a task, and what was written is so of it: `book` and `input` are what the readers had left, if that
-- is known, and `old` and `new` are what the writer held before and after
pub record WroteAs (Wrote : Task → (book input old new : Option (List ℕ)) → Type 0) (words : List (List ℕ))
    (book input old new : Option (List ℕ)) : Type 0 where
  pub task : Task
  pub asked : IsTaskOf words task
  pub wrote : Wrote task book input old new

-- What status 0 says.
abbrev pub WroteWhatIsAsked : (words : List (List ℕ)) (book input old new : Option (List ℕ)) → Type 0
WroteWhatIsAsked words book input old new = WroteText words old new ⊎ WroteAs WritesAll words book input old new

-- What status 1 says: the command that the words ask for refuses the input.
pub record RefusesInput (words : List (List ℕ)) (book input : Option (List ℕ)) : Type 0 where
  pub task : Task
  pub asked : IsTaskOf words task
  pub refused : Refuses task book input

-- the words ask for no command that reads a book, orders or a table beside its input
abbrev pub IsOfOneFile : (words : List (List ℕ)) → Type 0
IsOfOneFile words = (slice_get words 1 ≢ Some (codes "verify"))
    × ((slice_get words 1 ≡ Some (codes "tape")) → is_given words (codes "--cells") ≡ false)

-- What may be written with a status.

-- something may be written with 0 and 3, with 1 by `verify` and `check`, and with 1 and 4 of a network, some groups of
-- which were written before one ended early
abbrev pub MayWrite : (words : List (List ℕ)) → (status : ℕ) → Type 0
MayWrite words status = (status ≡ 0) ⊎ ((status ≡ 3)
    ⊎ (((status ≡ 1) × ((slice_get words 1 ≡ Some (codes "verify")) ⊎ (slice_get words 1 ≡ Some (codes "check"))))
    ⊎ (((status ≡ 1) ⊎ (status ≡ 4)) × (is_given words (codes "--network") ≡ true))))

-- the words ask for a run of all groups of a network, and what was written is the parts of some first groups
abbrev pub WroteFirstGroups : (words : List (List ℕ)) (book input old new : Option (List ℕ)) → Type 0
WroteFirstGroups words = WroteAs WritesFirstGroups words

-- what was written with status 1: the differences of `verify` or the faults or remarks of `check`, and nothing only
-- where they have none to write; the first groups of a network; and nothing by all other commands
abbrev pub WroteOfRefused : (words : List (List ℕ)) (book input old new : Option (List ℕ)) → Type 0
WroteOfRefused words book input old new =
    WroteAs KeepsUnseen words book input old new
    ⊎ (WroteAs WritesDifferences words book input old new ⊎ WroteFirstGroups words book input old new)

-- and with status 4: nothing, or the first groups of a network
abbrev pub WroteWithoutMemory : (words : List (List ℕ)) (book input old new : Option (List ℕ)) → Type 0
WroteWithoutMemory words book input old new = Keeps old new ⊎ WroteFirstGroups words book input old new

-- one of the two ends has failed
abbrev pub OneHasFailed : {R W : Type 0} → Source R → Sink W → Type 0
OneHasFailed source sink = (source_failed source ≡ true) ⊎ (sink_failed sink ≡ true)

-- or the book's end has
abbrev pub AnyHasFailed : {B R W : Type 0} → (book : Source B) → Source R → Sink W → Type 0
AnyHasFailed book source sink = (source_failed book ≡ true) ⊎ OneHasFailed source sink
