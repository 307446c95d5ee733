-- What the blocks of a cell's legal history show (own): the messages that it accepted, as far as they were broadcast
-- whole.
use Rattle.std.specs.Prelude.{◌≡◌, ◌≢◌, ℕ, ◌+◌, ◌*◌, ◌<◌, ◌≤◌, Option, List, ◌++◌, take, All, AllPairs, Any, Contains}
use Rattle.std.specs.Prelude.{encode_utf8_all}
use Rattle.std.specs.Option.{option_to_list}
use Rattle.std.specs.List.{flat_map, slice_get}
use Rattle.cbs_page.specs.Text.{text_of_page}
use Rattle.scheduler.specs.Completed.{completed}
use Rattle.handset.specs.Reception.{Name, ShownMessage, shown_in}
use Rattle.handset.specs.Counting.{whole_in}
use Rattle.handset.specs.Showing.{name_shown}
use Rattle.bsc_table.specs.declared.entry.Entry.{Entry}
use Rattle.bsc_table.specs.Record.{Record, Accepted, accepted_in}
use Rattle.bsc_table.specs.Legal.{IsLegal}
use Rattle.cbch_blocks.specs.RecordBlocks.{pages_of_entry, blocks_of}

-- the pair of an accepted message, as a handset names it
abbrev pub name_accepted : Accepted → Name
name_accepted a = record { id = a.id; serial = a.serial }

-- what a handset is to show of an accepted message: its pair, and the texts of its write's pages, joined
abbrev pub message_accepted : List Entry → Accepted → ShownMessage
message_accepted log a = record {
  id = a.id;
  serial = a.serial;
  text = encode_utf8_all (flat_map text_of_page (pages_of_entry (slice_get log a.message.entry)));
}

-- the blocks of the slots before this one, four for each
abbrev pub blocks_before : ℕ → Record → List (List ℕ)
blocks_before slot r = take (4 * slot) (blocks_of r)

-- the completed number of an accepted message before a slot is the number of its whole broadcasts in the blocks
-- before it
abbrev pub CompletedIsWholeInBlocks : Type 0
CompletedIsWholeInBlocks = (r : Record)
    → IsLegal r
    → All (λ a. (slot : ℕ) → slot ≤ r.clock
    → whole_in (name_accepted a) (blocks_before slot r) ≡ completed a.message r.air slot) (accepted_in r.log)

-- what is shown before a slot: the accepted messages of which a broadcast is whole by then, each once, and nothing else
pub record AreTheBroadcast (r : Record) (slot : ℕ) (shown : List ShownMessage) : Type 0 where
  pub each : All (λ m. Any (λ a. (1 ≤ completed a.message r.air slot) × (m ≡ message_accepted r.log a))
      (accepted_in r.log)) shown
  pub all : All (λ a. 1 ≤ completed a.message r.air slot → Contains shown (message_accepted r.log a))
      (accepted_in r.log)
  pub once : AllPairs (λ a b. name_shown a ≢ name_shown b) shown

abbrev pub ShownAreTheBroadcast : Type 0
ShownAreTheBroadcast = (r : Record) (slot : ℕ)
    → IsLegal r
    → slot ≤ r.clock
    → AreTheBroadcast r slot (shown_in (blocks_before slot r))

-- a slot shows one more message at most, after those that were shown before
abbrev pub ShownGrowByOne : Type 0
ShownGrowByOne = (r : Record) (slot : ℕ)
    → IsLegal r
    → slot < r.clock
    → (more : Option ShownMessage) × (shown_in (blocks_before (slot + 1) r) ≡ shown_in (blocks_before slot r) ++
    option_to_list more)
