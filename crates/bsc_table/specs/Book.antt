-- The record of a cell's book, and what the book keeps beside it (own): what a contract sees of a `CellBook`.
use Rattle.std.specs.Prelude.{◌≡◌, ℕ, nat_lt, ◌≤◌, if◌then◌else◌, Option, Some, None, List, map, filter, vec_len}
use Rattle.std.specs.Prelude.{vec_capacity}
use Rattle.admission.specs.declared.budget.Held.{Held}
use Rattle.admission.specs.declared.budget.Waits.{Waits}
use Rattle.std.specs.Option.{option_map}
use Rattle.scheduler.specs.Air.{Air}
use Rattle.scheduler.specs.Follows.{Follows}
use Rattle.bsc_table.specs.declared.entry.Aired.{Aired}
use Rattle.bsc_table.specs.declared.book.CellBook.TheInside.{Inside}
use Rattle.bsc_table.specs.declared.record.CellRecord.TheInside as run
use Rattle.bsc_table.specs.Record.{Record, accepted_in, messages_in, claims_in}
use Rattle.bsc_table.specs.Claim.{Claim, own_load, end_of, is_claimed_at}
use Rattle.bsc_table.specs.Legal.{IsLegal}

-- what a slot airs, as a pair of the entry's number and the page
abbrev pub aired_pair : Option Aired → Option (ℕ × ℕ)
aired_pair None = None
aired_pair (Some aired) = Some (aired.entry, aired.page)

abbrev pub air_pairs : List (Option Aired) → Air
air_pairs aired = map aired_pair aired

abbrev pub record_of : Inside → Record
record_of b = record {
  cell = b.cell;
  slots = b.slots;
  clock = b.clock;
  log = b.log.items;
  air = air_pairs b.air.items;
}

-- what a claim's reservation of a budget waits for at a slot: up to its start, the end of the one behind which it waits
abbrev pub waits_of : ℕ → Claim → Option Waits
waits_of slot c =
    if nat_lt slot c.message.start
    then option_map (λ behind. record { behind = behind; start = c.message.start; excess = c.excess }) c.behind
    else None

-- a claim's reservation of a budget at a slot
abbrev pub reservation_for : ℕ → Claim → Held
reservation_for slot c = record {
  entry = c.message.entry;
  load = own_load c.message;
  end = end_of c.message;
  waits = waits_of slot c;
}

-- the reservations that a budget holds at a slot: of the claims that are reserved there
abbrev pub reservations_at : ℕ → List Claim → List Held
reservations_at slot claims = map (reservation_for slot) (filter (is_claimed_at slot) claims)

-- a book: its record is a legal history, it keeps the accepted messages, its plan follows them and what was aired, its
-- budget holds what they have reserved at the clock, and there is room for what all slots will air
pub record IsCellBook (b : Inside) : Type 0 where
  pub legal : IsLegal (record_of b)
  pub short : b.slots ≤ 65535
  pub kept : b.accepted.all ≡ accepted_in b.log.items
  pub follows : Follows b.plan (messages_in b.log.items) (air_pairs b.air.items)
  pub held : b.budget ≡ reservations_at b.clock (claims_in b.log.items)
  pub places : vec_len b.air ≡ b.clock
  pub room : b.slots ≤ vec_capacity b.air

-- the record of a run that is over
abbrev pub record_of_run : run.Inside → Record
record_of_run r = record {
  cell = r.cell;
  slots = r.slots;
  clock = r.slots;
  log = r.log.items;
  air = air_pairs r.air.items;
}
