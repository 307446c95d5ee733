-- What can be read in a table of loads (own).
use Rattle.std.specs.Prelude.{◌≡◌, ◌≢◌, ℕ, ◌-◌, ◌<◌, true, false}
use Rattle.bsc_table.specs.Claim.{claimed_at}
use Rattle.bsc_table.specs.Record.{Record, claims_in}
use Rattle.chart.specs.Facts.{fullest_in}
use Rattle.chart.specs.Load.{all_loads}
use Rattle.cell_loads.specs.LoadsText.{is_change}

-- a slot without a line isn't the first, and its load is that of the slot before; one that has a line and isn't the
-- first has another load than the slot before
abbrev pub LinesAreChanges : Type 0
LinesAreChanges = (r : Record) (slot : ℕ) → slot < r.slots
    → (is_change (all_loads r) slot ≡ false
    → (0 < slot) × (claimed_at (claims_in r.log) slot ≡ claimed_at (claims_in r.log) (slot - 1)))
    × (is_change (all_loads r) slot ≡ true → 0 < slot
    → claimed_at (claims_in r.log) slot ≢ claimed_at (claims_in r.log) (slot - 1))

-- the slot at which a cell is fullest, as its chart and `check` say it, has a line
abbrev pub FullestHasALine : Type 0
FullestHasALine = (r : Record) → 0 < r.slots → is_change (all_loads r) (fullest_in r).slot ≡ true
