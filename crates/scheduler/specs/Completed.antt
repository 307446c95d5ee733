-- The broadcasts of a message that were completed, and their number (own).
use Rattle.std.specs.Prelude.{ℕ, ◌+◌, ◌≤◌, min, Bool, ◌&&◌, nat_le, count_by}
use Rattle.std.specs.List.{range_with_len}
use Rattle.scheduler.specs.Message.{ScheduledMessage, release, due, HasBroadcast, IsBeforeStop, has_broadcast}
use Rattle.scheduler.specs.Message.{is_before_stop}
use Rattle.scheduler.specs.Air.{Air, pages_aired}

-- broadcast j of the message is completed before the slot: it was released before the stop, and the message's pages
-- stand in the air list from its release up to its due slot, and before the slot
pub record IsCompleted (m : ScheduledMessage) (j : ℕ) (air : Air) (slot : ℕ) : Type 0 where
  pub requested : HasBroadcast m j
  pub released : IsBeforeStop (release m j) m.stop
  pub aired : m.pages ≤ pages_aired m.entry air (release m j) (min (due m j) slot)

-- the same as a test
abbrev pub is_completed : ScheduledMessage → Air → ℕ → ℕ → Bool
is_completed m air slot j =
    has_broadcast m j && (is_before_stop (release m j) m.stop && nat_le m.pages
    (pages_aired m.entry air (release m j) (min (due m j) slot)))

-- how many broadcasts of the message are completed before the slot. Broadcast j is released j slots or more after the
-- start, so that those up to the slot's own number are all
abbrev pub completed : ScheduledMessage → Air → ℕ → ℕ
completed m air slot = count_by (is_completed m air slot) (range_with_len 0 (slot + 1))
