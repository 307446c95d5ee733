-- The loads that a cell has reserved, as a line over the slots (own).
use Rattle.std.specs.Prelude.{◌≡◌, ℕ, ◌+◌, ◌-◌, ◌/◌, ◌<◌, ◌==◌, if◌then◌else◌, List, [], ◌++◌, length, map}
use Rattle.std.specs.Prelude.{slice_index}
use Rattle.std.specs.Fmt.{decimal}
use Rattle.std.specs.List.{flat_map, range_with_len}
use Rattle.bsc_table.specs.Claim.{Claim, claimed_at}
use Rattle.bsc_table.specs.Record.{Record, claims_in}
use Rattle.chart.specs.declared.load.TheConstants.{LOAD_HEIGHT, LOAD_STEP, TO_LOAD, TO_SLOT}
use Rattle.chart.specs.declared.view.Stretch.{Stretch}
use Rattle.chart.specs.View.{width_of}

-- these are the loads that are reserved at the slots
abbrev pub AreLoads : List Claim → List ℕ → Type 0
AreLoads claims loads = (slot : ℕ) → slot < length loads → slice_index loads slot ≡ claimed_at claims slot

-- these are the loads that are reserved at the slots from this one on
abbrev pub AreLoadsFrom : (from : ℕ) → List Claim → List ℕ → Type 0
AreLoadsFrom from claims loads =
    (place : ℕ) → place < length loads → slice_index loads place ≡ claimed_at claims (from + place)

-- the loads that are reserved at the slots of a run that are drawn
abbrev pub loads_in : Record → Stretch → List ℕ
loads_in r s = map (claimed_at (claims_in r.log)) (range_with_len s.from (width_of s))

-- the loads that are reserved at all slots of a run
abbrev pub all_loads : Record → List ℕ
all_loads r = map (claimed_at (claims_in r.log)) (range_with_len 0 r.slots)

-- what is drawn before a slot: nothing before the first one
abbrev pub claimed_before : (from : ℕ) → List Claim → (slot : ℕ) → ℕ
claimed_before from claims slot = if slot == from then 0 else claimed_at claims (slot - 1)

-- how far below the picture's top a load is drawn, in whole steps
abbrev pub height_of : (load : ℕ) → ℕ
height_of load = LOAD_HEIGHT - load / LOAD_STEP

-- the line at a slot, by what is reserved before it and there: where that is something else, the line goes on to the
-- slot, and then to the height of the load
abbrev pub step_text : (slot before load : ℕ) → List ℕ
step_text slot before load =
    if load == before then [] else TO_SLOT.now ++ decimal slot ++ TO_LOAD.now ++ decimal (height_of load)

abbrev pub step_at : (from : ℕ) → List Claim → (slot : ℕ) → List ℕ
step_at from claims slot = step_text slot (claimed_before from claims slot) (claimed_at claims slot)

-- the line over the slots of a run that are drawn
abbrev pub load_line : Record → Stretch → List ℕ
load_line r s = flat_map (step_at s.from (claims_in r.log)) (range_with_len s.from (width_of s))
