-- A message as the schedule sees it, and its broadcasts (own).
use Rattle.std.specs.Prelude.{◌≡◌, ℕ, ◌+◌, ◌-◌, ◌*◌, ◌/◌, ◌<◌, ◌==◌, ◌⊎◌, ⊤, Bool, true, ◌||◌, nat_lt, if◌then◌else◌}
use Rattle.std.specs.Prelude.{Option, Some, None, List, map}
use Rattle.scheduler.specs.declared.plan.Rank.{Rank}

-- a message: the number of its entry in the log, the slot from which it stands, its pages, its period in slots, how
-- many broadcasts were requested (0 where it stands until it is stopped), the slot before which it was stopped, if it
-- was, and its rank
pub record ScheduledMessage : Type 0 where
  pub entry : ℕ
  pub start : ℕ
  pub pages : ℕ
  pub period : ℕ
  pub broadcasts : ℕ
  pub stop : Option ℕ
  pub rank : Rank

-- the slot from which broadcast j may be aired
abbrev pub release : ScheduledMessage → ℕ → ℕ
release m j = m.start + j * m.period

-- the slot before which broadcast j is to be completed: the release of the next one
abbrev pub due : ScheduledMessage → ℕ → ℕ
due m j = m.start + (j + 1) * m.period

-- the broadcast of a message in whose time the slot lies
abbrev pub broadcast_at : ScheduledMessage → ℕ → ℕ
broadcast_at m slot = (slot - m.start) / m.period

-- broadcast j was requested
abbrev pub HasBroadcast : ScheduledMessage → ℕ → Type 0
HasBroadcast m j = (m.broadcasts ≡ 0) ⊎ (j < m.broadcasts)

-- the slot comes before the stop, or there is none
abbrev pub IsBeforeStop : ℕ → Option ℕ → Type 0
IsBeforeStop slot None = ⊤
IsBeforeStop slot (Some stop) = slot < stop

-- the same two as tests
abbrev pub has_broadcast : ScheduledMessage → ℕ → Bool
has_broadcast m j = (m.broadcasts == 0) || nat_lt j m.broadcasts

abbrev pub is_before_stop : ℕ → Option ℕ → Bool
is_before_stop slot None = true
is_before_stop slot (Some stop) = nat_lt slot stop

-- the messages, with the one of that number stopped at the slot
abbrev pub stopped_if : Bool → ℕ → ScheduledMessage → ScheduledMessage
stopped_if says slot m = record m { stop = if says then Some slot else m.stop }

abbrev pub stopped_at : ℕ → ℕ → List ScheduledMessage → List ScheduledMessage
stopped_at entry slot messages = map (λ m. stopped_if (m.entry == entry) slot m) messages
