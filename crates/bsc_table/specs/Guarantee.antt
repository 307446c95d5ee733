-- What admission promises of the air (own): over messages, their reservations and an air list alone.
use Rattle.std.specs.Prelude.{◌≡◌, ℕ, ◌-◌, ◌*◌, ◌<◌, ◌≤◌, ⊤, Bool, ◌&&◌, nat_le, Option, Some, None, List, length, map}
use Rattle.std.specs.Prelude.{sum_by, count_by, slice_index_or, All, AllPairs, Any}
use Rattle.std.specs.List.{range_with_len}
use Rattle.admission.specs.declared.measure.TheConstants.{SCALE}
use Rattle.admission.specs.Load.{load_of}
use Rattle.admission.specs.Reservation.{Reservation, IsReservedAt, loads_at, end_of_reservation}
use Rattle.scheduler.specs.Message.{ScheduledMessage, release, due, HasBroadcast, IsBeforeStop, has_broadcast}
use Rattle.scheduler.specs.Message.{is_before_stop}
use Rattle.scheduler.specs.Air.{Air, layer, pages_aired, IsPending, next_page, IsAirOf}
use Rattle.scheduler.specs.AirLaws.{NumbersRise}
use Rattle.scheduler.specs.Background.{foreground}
use Rattle.scheduler.specs.Completed.{IsCompleted}

-- what a message has reserved: its load, from its start up to the end that its period, its requested broadcasts and its
-- stop give
abbrev pub reservation_of : ScheduledMessage → Reservation
reservation_of m = record {
  entry = m.entry;
  load = load_of m.pages m.period;
  start = m.start;
  end = end_of_reservation m.start m.period m.broadcasts m.stop;
}

-- at each slot the loads that are reserved sum to at most SCALE
abbrev pub LoadsFit : List ScheduledMessage → Type 0
LoadsFit messages = (slot : ℕ) → loads_at (map reservation_of messages) slot ≤ SCALE

-- messages as a cell admits them: each later one has a greater number, each has a period, none is background, and their
-- loads fit
pub record AreAdmitted (messages : List ScheduledMessage) : Type 0 where
  pub rising : AllPairs (λ a b. a.entry < b.entry) messages
  pub periods : All (λ m. 0 < m.period) messages
  pub foreground : All (λ m. layer m ≡ 0) messages
  pub fit : LoadsFit messages

-- the slot comes no later than the stop, or there is none
abbrev pub IsUpToStop : ℕ → Option ℕ → Type 0
IsUpToStop slot None = ⊤
IsUpToStop slot (Some stop) = slot ≤ stop

-- broadcast j of the message was requested, and neither the stop nor the end of the air list cuts it
pub record IsUncut (m : ScheduledMessage) (j : ℕ) (air : Air) : Type 0 where
  pub requested : HasBroadcast m j
  pub standing : IsUpToStop (due m j) m.stop
  pub aired_by : due m j ≤ length air

-- the slot airs the next page of a broadcast that was released at `from` or later and is due at `to` or sooner
abbrev pub AirsOneWithin : List ScheduledMessage → Air → ℕ → ℕ → ℕ → Type 0
AirsOneWithin messages air from to slot =
    Any (λ m. (j : ℕ) × IsPending m j air slot × (slice_index_or air slot None ≡ Some (next_page m j air slot))
    × (from ≤ release m j) × (due m j ≤ to)) messages

-- a message is reserved at each slot of each of its broadcasts that was released before its stop, stopped later or not
abbrev pub ReservationsCoverBroadcasts : Type 0
ReservationsCoverBroadcasts = (m : ScheduledMessage) (j slot : ℕ)
    → HasBroadcast m j
    → IsBeforeStop (release m j) m.stop
    → release m j ≤ slot
    → slot < due m j
    → IsReservedAt (reservation_of m) slot

-- broadcast j of the message was requested and released before its stop, no sooner than `from`, and is due by `to`
abbrev pub is_inside : ScheduledMessage → ℕ → ℕ → ℕ → Bool
is_inside m from to j =
    has_broadcast m j && (is_before_stop (release m j) m.stop && (nat_le from (release m j) && nat_le (due m j) to))

-- the pages of all broadcasts inside the slots from `from` up to, and without, `to`. Broadcast j is due later than slot
-- j, so that those below `to` are all
abbrev pub demand : List ScheduledMessage → ℕ → ℕ → ℕ
demand messages from to = sum_by (λ m. m.pages * count_by (is_inside m from to) (range_with_len 0 to)) messages

-- where the reserved loads fit at each slot, the broadcasts inside a range of slots have no more pages than it has
-- slots
abbrev pub DemandIsNoMoreThanTheSlots : Type 0
DemandIsNoMoreThanTheSlots = (messages : List ScheduledMessage) (from to : ℕ)
    → All (λ m. 0 < m.period) messages
    → LoadsFit messages
    → demand messages from to ≤ to - from

-- from some slot on, no later than the release of broadcast j of the message, each slot up to its due slot airs a page
-- of a broadcast that was released since then and is due no later
abbrev pub HasBusyPeriod : List ScheduledMessage → Air → ScheduledMessage → ℕ → Type 0
HasBusyPeriod messages air m j =
    (from : ℕ) × (from ≤ release m j) × ((slot : ℕ) → from ≤ slot → slot < due m j
    → AirsOneWithin messages air from (due m j) slot)

-- where none is background, an uncut broadcast that lacks a page by its due slot has such a busy period
abbrev pub LackMeansABusyPeriod : Type 0
LackMeansABusyPeriod = (messages : List ScheduledMessage) (air : Air)
    → All (λ m. layer m ≡ 0) messages
    → IsAirOf messages air
    → All (λ m. (j : ℕ) → IsUncut m j air → pages_aired m.entry air (release m j) (due m j) < m.pages
    → HasBusyPeriod messages air m j) messages

-- where the reserved loads fit at each slot, and the air list is by the rule, each uncut broadcast has all its pages
-- aired between its release and its due slot
abbrev pub AdmittedLoadIsAGuarantee : Type 0
AdmittedLoadIsAGuarantee = (messages : List ScheduledMessage) (air : Air)
    → AreAdmitted messages
    → IsAirOf messages air
    → All (λ m. (j : ℕ) → IsUncut m j air → pages_aired m.entry air (release m j) (due m j) ≡ m.pages) messages

-- in other words, each uncut broadcast is completed before each slot from its due slot on
abbrev pub AdmittedBroadcastsAreCompleted : Type 0
AdmittedBroadcastsAreCompleted = (messages : List ScheduledMessage) (air : Air) (slot : ℕ)
    → AreAdmitted messages
    → IsAirOf messages air
    → All (λ m. (j : ℕ) → IsUncut m j air → due m j ≤ slot → IsCompleted m j air slot) messages

-- among background messages, which reserve nothing: where those that aren't background are admitted, each uncut
-- broadcast of these has all its pages aired between its release and its due slot
abbrev pub ForegroundIsServed : Type 0
ForegroundIsServed = (messages : List ScheduledMessage) (air : Air)
    → NumbersRise messages
    → AreAdmitted (foreground messages)
    → IsAirOf messages air
    → All (λ m. (j : ℕ) → IsUncut m j air → pages_aired m.entry air (release m j) (due m j) ≡ m.pages)
    (foreground messages)
