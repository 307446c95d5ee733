-- What the marks, the loads, the fullest slots, the sections and the axis of a chart promise (own).
use Rattle.std.specs.Prelude.{◌≡◌, ◌↔◌, ◌&&◌, ℕ, ◌+◌, ◌-◌, ◌*◌, ◌<◌, ◌≤◌, Bool, true, All, if◌then◌else◌, nat_le}
use Rattle.std.specs.Prelude.{List, [], ◌∷◌, length, map, not, Option, None, Some, ⊤}
use Rattle.admission.specs.declared.measure.TheConstants.{SCALE}
use Rattle.scheduler.specs.Air.{Air}
use Rattle.scheduler.specs.Completed.{completed}
use Rattle.scheduler.specs.Message.{ScheduledMessage}
use Rattle.bsc_table.specs.Claim.{claimed_at}
use Rattle.bsc_table.specs.Legal.{IsLegal}
use Rattle.bsc_table.specs.Record.{Accepted, Record, accepted_in, claims_in}
use Rattle.chart.specs.Facts.{fullest_in, hundredths}
use Rattle.chart.specs.Load.{height_of}
use Rattle.chart.specs.Message.{number_instead, number_of_marks, strokes_of, whole_slots}
use Rattle.chart.specs.Panels.{is_like}
use Rattle.chart.specs.declared.fullest.Fullest.{Fullest}
use Rattle.chart.specs.declared.message.Stroke.{Stroke}
use Rattle.chart.specs.declared.panel.Panel.{Panel}
use Rattle.chart.specs.declared.load.TheConstants.{LOAD_HEIGHT, LOAD_STEP}
use Rattle.chart.specs.declared.time.TheConstants.{MOST_TICKS}
use Rattle.chart.specs.Time.{day_begun, first_number, seconds_at, step_in}
use Rattle.chart.specs.View.{stretch_of}
use Rattle.chart.specs.declared.view.Part.{Part}
use Rattle.chart.specs.declared.view.Stretch.{Stretch}
use Rattle.slot_times.specs.declared.start.Start.{Start}

-- whether marks are drawn of a message of this period of which so many broadcasts are whole in so many slots: at most
-- 400 are, and a period is at least 4 px wide where the slots are 1,280 px wide
abbrev pub are_drawn : (period whole width : ℕ) → Bool
are_drawn period whole width = nat_le whole 400 && nat_le (4 * width) (period * 1280)

-- of an accepted message with so many whole broadcasts at the slots that are drawn a mark is drawn for each of these,
-- or their number is said
pub record AreDrawn (r : Record) (s : Stretch) (a : Accepted) (whole : ℕ) : Type 0 where
  pub marks : number_of_marks s r.slots r.air a.message ≡ whole
  pub number : number_instead s r.slots r.air (Some a)
      ≡ (if are_drawn a.message.period whole (s.to - s.from) then None else Some whole)

-- in the whole run these are as many as were completed
abbrev pub MarksAreCompleted : Type 0
MarksAreCompleted = (r : Record)
    → IsLegal r
    → r.clock ≡ r.slots
    → All (λ a. AreDrawn r (stretch_of None r.slots) a (completed a.message r.air r.slots)) (accepted_in r.log)

-- and in a part of it as many as were completed in that
abbrev pub MarksOfPartsAreCompleted : Type 0
MarksOfPartsAreCompleted = (r : Record) (part : Part)
    → IsLegal r
    → r.clock ≡ r.slots
    → All (λ a. let s = stretch_of (Some part) r.slots in
    AreDrawn r s a (completed a.message r.air s.to - completed a.message r.air s.from)) (accepted_in r.log)

-- where the strokes of a line stand that has come to a place: each goes along from where the one before stands
abbrev pub places_along : (place : ℕ) → List Stroke → List ℕ
places_along place [] = []
places_along place (stroke ∷ strokes) = (place + stroke.along) ∷ places_along (place + stroke.along) strokes

-- each crosses the picture, the first downwards or upwards, and each of the others back from where the one before ended
abbrev pub Cross : (is_down : Bool) → List Stroke → Type 0
Cross is_down [] = ⊤
Cross is_down (stroke ∷ strokes) = (stroke.is_down ≡ is_down) × Cross (not is_down) strokes

-- the line of a message's marks, from slot 0 on and from over the picture, has one stroke for each slot that makes a
-- broadcast of it whole, at its end and in the order of the slots, and each crosses the picture
pub record AreMarks (s : Stretch) (slots : ℕ) (air : Air) (m : ScheduledMessage) (strokes : List Stroke) : Type 0 where
  pub places : places_along 0 strokes ≡ map (λ slot. slot + 1) (whole_slots s slots air m)
  pub cross : Cross true strokes
  pub number : length strokes ≡ number_of_marks s slots air m

abbrev pub StrokesAreMarks : Type 0
StrokesAreMarks = (s : Stretch) (slots : ℕ) (air : Air) (m : ScheduledMessage)
    → AreMarks s slots air m (strokes_of s slots air m)

-- a full cell is as high as the picture in steps, is drawn at its top, an empty one at its bottom, and more never lower
-- than less
abbrev pub HeightsAreOfLoads : Type 0
HeightsAreOfLoads = (LOAD_HEIGHT * LOAD_STEP ≡ SCALE) × (height_of SCALE ≡ 0) × (height_of 0 ≡ LOAD_HEIGHT)
    × ((load more : ℕ) → load ≤ more → height_of more ≤ height_of load)

-- cells have one section exactly if what stands in theirs is the same, octet by octet
abbrev pub LikeAreTheSame : Type 0
LikeAreTheSame = (p other : Panel) → (is_like p other ≡ true) ↔ (other.contents ≡ p.contents)

-- an axis has a tick at each multiple of its step within what is drawn: the one before its first comes earlier, and one
-- more than it may have would come later
abbrev pub TicksReachTheEnd : Type 0
TicksReachTheEnd = (start : Option Start) (s : Stretch) → s.from ≤ s.to → s.to < 65536
    → (((number : ℕ) → number < first_number start s.from (step_in start s)
    → number * step_in start s * 13000000 < day_begun start * 13 + s.from * 24480000)
    × (seconds_at start s.to < (first_number start s.from (step_in start s) + MOST_TICKS) * step_in start s))

-- a slot of a cell's run that has this share reserved: no slot has a greater load, and each before it a smaller one
pub record IsFullest (r : Record) (fullest : Fullest) : Type 0 where
  pub within : fullest.slot < r.slots
  pub share : fullest.share ≡ hundredths (claimed_at (claims_in r.log) fullest.slot)
  pub greatest : (slot : ℕ) → slot < r.slots
      → claimed_at (claims_in r.log) slot ≤ claimed_at (claims_in r.log) fullest.slot
  pub first : (slot : ℕ) → slot < fullest.slot
      → claimed_at (claims_in r.log) slot < claimed_at (claims_in r.log) fullest.slot

-- how full a cell gets is at such a slot
abbrev pub FullestHasMost : Type 0
FullestHasMost = (r : Record) → 0 < r.slots → IsFullest r (fullest_in r)
