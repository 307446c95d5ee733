-- What a slot can air (own). The contracts of private functions alone speak of it.
use Rattle.std.specs.Prelude.{ℕ, ◌+◌, ◌≤◌, ⊤, Option, Some, None, List, length, vec_len, vec_capacity}
use Rattle.std.specs.Global.{Vec}
use Rattle.std.specs.List.{slice_get}
use Rattle.cbs_page.specs.Text.{max_pages}
use Rattle.bsc_table.specs.declared.command.Command.{Command}
use Rattle.bsc_table.specs.declared.command.Command.TheVariants as commands
use Rattle.bsc_table.specs.declared.entry.Entry.{Entry}
use Rattle.cbch_blocks.specs.RecordBlocks.{blocks_of_slot, octets_of_blocks, page_aired}

-- a command that can be sent has a page of this number, and 15 pages at most
abbrev pub CanSendPage : ℕ → Command → Type 0
CanSendPage page (commands.Write id serial replaces category dcs period broadcasts contents) =
    (1 ≤ page) × (page ≤ length contents) × (length contents ≤ max_pages)
CanSendPage page (commands.Kill id serial) = ⊥
CanSendPage page (commands.Status id serial) = ⊥

abbrev pub CanSendPageOf : ℕ → Option Entry → Type 0
CanSendPageOf page None = ⊥
CanSendPageOf page (Some e) = CanSendPage page e.command

-- a slot is idle, or the entry that it uses can send the page that it uses
abbrev pub CanAir : List Entry → Option (ℕ × ℕ) → Type 0
CanAir log None = ⊤
CanAir log (Some used) = CanSendPageOf used.1 (slice_get log used.0)

-- the octets of the blocks of a slot
abbrev pub octets_of_slot : List Entry → Option (ℕ × ℕ) → List ℕ
octets_of_slot log used = octets_of_blocks (blocks_of_slot (page_aired log used))

-- there is room for octets behind those that stand there
abbrev pub HasRoom : Vec ℕ → List ℕ → Type 0
HasRoom octets more = vec_len octets + length more ≤ vec_capacity octets
