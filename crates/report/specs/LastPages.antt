-- The last pages of messages on the air: a broadcast is whole with its last page (own).
use Rattle.std.specs.Prelude.{ℕ, ◌+◌, if◌then◌else◌, Option, Some, None, List, [], ◌∷◌, length}
use Rattle.std.specs.List.{slice_get}
use Rattle.std.specs.Option.{option_map_or}
use Rattle.scheduler.specs.Air.{Air}
use Rattle.scheduler.specs.Pages.{airs_page}
use Rattle.bsc_table.specs.declared.command.Command.{Command}
use Rattle.bsc_table.specs.declared.command.Command.TheVariants as commands
use Rattle.bsc_table.specs.declared.entry.Entry.{Entry}

-- how many pages a command's message has: none, unless it is a write
abbrev pub page_count_of : Command → ℕ
page_count_of (commands.Write id serial replaces category dcs period broadcasts contents) = length contents
page_count_of (commands.Kill id serial) = 0
page_count_of (commands.Status id serial) = 0

-- how many pages the entry at a place of the log has
abbrev pub pages_at : List Entry → (place : ℕ) → ℕ
pages_at log place = option_map_or (λ e. page_count_of e.command) (slice_get log place) 0

-- the first of the slots of an air list that airs a page of an entry, where they are numbered from this slot on
abbrev pub first_airing : (entry page : ℕ) → Air → (slot : ℕ) → Option ℕ
first_airing entry page [] slot = None
first_airing entry page (used ∷ air) slot =
    if airs_page entry page used then Some slot else first_airing entry page air (slot + 1)

-- the first slot that airs the last page of the entry at a place
abbrev pub first_last_page : List Entry → Air → (place : ℕ) → Option ℕ
first_last_page log air place = first_airing place (pages_at log place) air 0
