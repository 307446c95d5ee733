-- The table of the loads that cells have reserved, as CSV (own). Each line says how full a cell is from a slot on: what
-- its accepted messages have reserved of it (bsc_table), in hundredths of the cell, rounded up.
use Rattle.std.specs.Prelude.{ℕ, ◌-◌, ◌==◌, ◌||◌, Bool, true, false, not, if◌then◌else◌, Option, Some, None}
use Rattle.std.specs.Prelude.{List, [], ◌∷◌, ◌++◌, codes, length, slice_index}
use Rattle.std.specs.Fmt.{decimal}
use Rattle.std.specs.List.{flat_map, range_with_len}
use Rattle.csv.specs.Writing.{default_writer, row_text}
use Rattle.bsc_table.specs.Record.{Record}
use Rattle.cbsp_wire.specs.declared.message.Cell.{Cell}
use Rattle.chart.specs.Facts.{fullest_slot, hundredths}
use Rattle.chart.specs.Load.{all_loads}
use Rattle.slot_times.specs.SlotTime.{slot_time}
use Rattle.slot_times.specs.declared.start.Start.{Start}

-- a line of fields, as CSV quotes them, with LF at its end
abbrev pub line : List (List ℕ) → List ℕ
line fields = row_text default_writer fields

-- the first line has the names of the columns. Where slot 0 has a time on the clock, a last column has the time at
-- which the slot begins
abbrev pub clock_name : Option Start → List (List ℕ)
clock_name None = []
clock_name (Some start) = codes "time" ∷ []

abbrev pub header_line : Option Start → List ℕ
header_line start =
    line (codes "lac" ∷ codes "ci" ∷ codes "slot" ∷ codes "share" ∷ codes "fullest" ∷ clock_name start)

-- it stands over the table of a book, and over that of a network's first group, so that those of its groups can be
-- joined
abbrev pub heading : Option Start → (headed : Bool) → List ℕ
heading start true = header_line start
heading start false = []

-- one line of each cell is marked: that of the first slot at which it is fullest
abbrev pub mark : (is_fullest : Bool) → List ℕ
mark true = codes "yes"
mark false = []

abbrev pub clock_field : Option Start → (slot : ℕ) → List (List ℕ)
clock_field None slot = []
clock_field (Some start) slot = slot_time start slot ∷ []

abbrev pub share_line : Option Start → Cell → (slot share : ℕ) → (is_fullest : Bool) → List ℕ
share_line start cell slot share is_fullest =
    line (decimal cell.lac ∷ decimal cell.ci ∷ decimal slot ∷ decimal share ∷ mark is_fullest ∷ clock_field start slot)

-- the load is another one than at the slot before, or there is no slot before
abbrev pub is_change : (loads : List ℕ) (slot : ℕ) → Bool
is_change loads slot = (slot == 0) || not (slice_index loads slot == slice_index loads (slot - 1))

-- what is said of a slot: a line, if the load changes there
abbrev pub change_text : Option Start → Cell → (loads : List ℕ) (slot : ℕ) → List ℕ
change_text start cell loads slot =
    if is_change loads slot
    then share_line start cell slot (hundredths (slice_index loads slot)) (slot == fullest_slot loads)
    else []

-- of all slots of a cell that has reserved these loads
abbrev pub slots_text : Option Start → Cell → (loads : List ℕ) → List ℕ
slots_text start cell loads = flat_map (change_text start cell loads) (range_with_len 0 (length loads))

abbrev pub cell_text : Option Start → Record → List ℕ
cell_text start r = slots_text start r.cell (all_loads r)

-- the table of the cells of a run
abbrev pub loads_text : Option Start → (headed : Bool) → List Record → List ℕ
loads_text start headed records = heading start headed ++ flat_map (cell_text start) records
