-- The air rule as a function, by which air lists can be computed (own).
use Rattle.std.specs.Prelude.{ℕ, zero, suc, ◌==◌, Bool, true, false, ◌&&◌, ◌||◌, nat_lt, nat_le, if◌then◌else◌, Option}
use Rattle.std.specs.Prelude.{Some, None, List, [], ◌∷◌, ◌++◌}
use Rattle.scheduler.specs.Message.{ScheduledMessage, release, due, has_broadcast, is_before_stop}
use Rattle.scheduler.specs.Air.{Air, pages_aired, layer, class, next_page}
use Rattle.scheduler.specs.Message.{broadcast_at}

-- the broadcast in whose time the slot lies is pending
abbrev pub is_pending : Air → ℕ → ScheduledMessage → Bool
is_pending air slot m =
    let j = broadcast_at m slot in
    nat_le m.start slot && (has_broadcast m j && (is_before_stop slot m.stop && nat_lt
    (pages_aired m.entry air (release m j) slot) m.pages))

-- within a layer, the broadcast of a in whose time the slot lies comes no later than that of b
abbrev pub is_no_later : ℕ → ScheduledMessage → ScheduledMessage → Bool
is_no_later slot a b =
    let mine = due a (broadcast_at a slot) in
    let other = due b (broadcast_at b slot) in
    nat_lt mine other || ((mine == other) && (nat_lt (class a) (class b) ||
    ((class a == class b) && nat_le a.entry b.entry)))

-- and it is served no later
abbrev pub is_served_by : ℕ → ScheduledMessage → ScheduledMessage → Bool
is_served_by slot a b = nat_lt (layer a) (layer b) || ((layer a == layer b) && is_no_later slot a b)

-- of a message and the first of the others: itself, where it is pending and served no later
abbrev pub first_of : ℕ → Bool → ScheduledMessage → Option ScheduledMessage → Option ScheduledMessage
first_of slot false m other = other
first_of slot true m None = Some m
first_of slot true m (Some other) = if is_served_by slot m other then Some m else Some other

-- the message whose broadcast is the first of those pending
abbrev pub first_pending : List ScheduledMessage → Air → ℕ → Option ScheduledMessage
first_pending [] air slot = None
first_pending (m ∷ messages) air slot = first_of slot (is_pending air slot m) m (first_pending messages air slot)

-- what the slot airs
abbrev pub used_by : Air → ℕ → Option ScheduledMessage → Option (ℕ × ℕ)
used_by air slot None = None
used_by air slot (Some m) = Some (next_page m (broadcast_at m slot) air slot)

abbrev pub choice : List ScheduledMessage → Air → ℕ → Option (ℕ × ℕ)
choice messages air slot = used_by air slot (first_pending messages air slot)

-- the first slots of a run in which the messages stand as they are
abbrev pub air_of : List ScheduledMessage → ℕ → Air
air_of messages zero = []
air_of messages (suc n) = air_of messages n ++ choice messages (air_of messages n) n ∷ []
