-- What the accepted messages mean for a handset, and what a cell's numbers and records mean (own).
use Rattle.std.specs.Prelude.{◌≡◌, ◌↔◌, ℕ, ◌<◌, ◌≤◌, true, Some, None, List, map, slice_index_or, All, Any, Contains}
use Rattle.std.specs.Option.{option_to_list}
use Rattle.std.specs.List.{flat_map}
use Rattle.cbs_page.specs.Coding.{alphabet_of}
use Rattle.cbs_page.specs.declared.content.Content.{Content}
use Rattle.cbs_page.specs.Text.{text_of_page, text_in}
use Rattle.scheduler.specs.Message.{IsBeforeStop}
use Rattle.scheduler.specs.Air.{layer, airs}
use Rattle.handset.specs.Reception.{pages_read, shown_in}
use Rattle.handset.specs.Counting.{whole_in}
use Rattle.handset.specs.Tape.{IsTape, max_slots}
use Rattle.bsc_table.specs.Record.{Record, Accepted, accepted_in}
use Rattle.bsc_table.specs.Bounds.{least_completed, most_completed}
use Rattle.bsc_table.specs.Reported.{completed_in, IsAbout}
use Rattle.bsc_table.specs.Legal.{IsLegal}
use Rattle.cbch_blocks.specs.RecordBlocks.{page_aired, pages_from, blocks_of, tape_of_record}
use Rattle.composition.specs.Composition.{name_accepted, message_accepted, blocks_before}

-- the pages that are read of the blocks are those that the slots air, in order
abbrev pub PagesReadAreThoseAired : Type 0
PagesReadAreThoseAired = (r : Record)
    → IsLegal r
    → pages_read (blocks_of r) ≡ flat_map option_to_list (map (page_aired r.log) r.air)

-- the texts of a write's pages are those of its contents
abbrev pub TextsAreThoseOfContents : Type 0
TextsAreThoseOfContents = (id serial dcs total number : ℕ) (contents : List Content)
    → flat_map text_of_page (pages_from id serial dcs total number contents)
    ≡ flat_map (λ c. text_in (alphabet_of dcs) c.octets) contents

-- each number that a cell reports is the number of whole broadcasts, of the message that was asked about, in the blocks
-- before the slot at which it was reported
abbrev pub ReportedIsWholeInBlocks : Type 0
ReportedIsWholeInBlocks = (r : Record)
    → IsLegal r
    → All (λ e. (reported : ℕ) → completed_in e.answer ≡ Some reported
    → Any (λ a. IsAbout a.id a.serial e.command × (reported ≡ whole_in (name_accepted a) (blocks_before e.slot r)))
    (accepted_in r.log)) r.log

-- what an accepted message means: of its broadcasts as many are whole in the blocks before a slot as its bounds say,
-- which speak of its start, its period, its requested broadcasts and its stop alone; and it is shown exactly where
-- that is one or more. Of a background message it may be less
pub record IsMeant (r : Record) (slot : ℕ) (a : Accepted) : Type 0 where
  pub count : ℕ
  pub least : layer a.message ≡ 0 → least_completed a.message slot ≤ count
  pub most : count ≤ most_completed a.message slot
  pub read : whole_in (name_accepted a) (blocks_before slot r) ≡ count
  pub shown : (1 ≤ count) ↔ Contains (shown_in (blocks_before slot r)) (message_accepted r.log a)

abbrev pub AcceptedAreMeant : Type 0
AcceptedAreMeant = (r : Record) (slot : ℕ) → IsLegal r → slot ≤ r.clock → All (IsMeant r slot) (accepted_in r.log)

-- no page of a message is aired at or after its stop
abbrev pub NoneAfterTheStop : Type 0
NoneAfterTheStop = (r : Record) (slot : ℕ)
    → IsLegal r
    → slot < r.clock
    → All (λ a. airs a.message.entry (slice_index_or r.air slot None) ≡ true → IsBeforeStop slot a.message.stop)
    (accepted_in r.log)

-- the tape of a record whose run is over is a tape for a handset, and its reading is what the blocks show
abbrev pub RecordsAreTapes : Type 0
RecordsAreTapes = (r : Record)
    → IsLegal r
    → r.clock ≡ r.slots
    → r.slots ≤ max_slots
    → IsTape (tape_of_record r) (record
    { cell = r.cell; slots = r.slots; shown = shown_in (blocks_of r) })
