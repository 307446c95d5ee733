-- How many broadcasts of a message are completed before a slot, at least and at most, by the message alone (own).
use Rattle.std.specs.Prelude.{ℕ, ◌+◌, ◌-◌, ◌/◌, ◌<◌, ◌≤◌, ◌==◌, min, if◌then◌else◌, Option, Some, None, List, length}
use Rattle.std.specs.Prelude.{All}
use Rattle.std.specs.Int.{div_ceil}
use Rattle.scheduler.specs.Message.{ScheduledMessage}
use Rattle.scheduler.specs.Air.{Air, IsAirOf}
use Rattle.scheduler.specs.AirLaws.{NumbersRise}
use Rattle.scheduler.specs.Background.{foreground}
use Rattle.scheduler.specs.Completed.{completed}
use Rattle.bsc_table.specs.Guarantee.{AreAdmitted}

-- the slot, or the stop where that comes sooner
abbrev pub sooner_of : Option ℕ → ℕ → ℕ
sooner_of None slot = slot
sooner_of (Some stop) slot = min stop slot

-- the slot up to which the message stood before the slot
abbrev pub stands_until : ScheduledMessage → ℕ → ℕ
stands_until m slot = sooner_of m.stop slot

-- this many of the broadcasts that were requested; 0 requested is no limit
abbrev pub cut_at : ℕ → ℕ → ℕ
cut_at broadcasts count = if broadcasts == 0 then count else min broadcasts count

-- the requested broadcasts whose period was over while the message stood
abbrev pub least_completed : ScheduledMessage → ℕ → ℕ
least_completed m slot = cut_at m.broadcasts ((stands_until m slot - m.start) / m.period)

-- the requested broadcasts whose period had begun while the message stood
abbrev pub most_completed : ScheduledMessage → ℕ → ℕ
most_completed m slot = cut_at m.broadcasts (div_ceil (stands_until m slot - m.start) m.period)

-- whatever is aired, no more broadcasts are completed than had begun
abbrev pub CompletedIsAtMost : Type 0
CompletedIsAtMost = (m : ScheduledMessage) (air : Air) (slot : ℕ)
    → 0 < m.pages
    → 0 < m.period
    → completed m air slot ≤ most_completed m slot

-- where the reserved loads fit at each slot, and the air list is by the rule, all that were over are completed
abbrev pub CompletedIsAtLeast : Type 0
CompletedIsAtLeast = (messages : List ScheduledMessage) (air : Air) (slot : ℕ)
    → AreAdmitted messages
    → IsAirOf messages air
    → slot ≤ length air
    → All (λ m. least_completed m slot ≤ completed m air slot) messages

-- the law above for the messages that aren't background, among some that are
abbrev pub ForegroundIsAtLeast : Type 0
ForegroundIsAtLeast = (messages : List ScheduledMessage) (air : Air) (slot : ℕ)
    → NumbersRise messages
    → AreAdmitted (foreground messages)
    → IsAirOf messages air
    → slot ≤ length air
    → All (λ m. least_completed m slot ≤ completed m air slot) (foreground messages)

-- the two bounds differ by one at most: only the broadcast whose period isn't over is in doubt
abbrev pub BoundsAreNear : Type 0
BoundsAreNear = (m : ScheduledMessage) (slot : ℕ) → most_completed m slot ≤ least_completed m slot + 1
