-- The messages that aren't background, and an air list without those that are (own).
use Rattle.std.specs.Prelude.{ℕ, ◌==◌, Bool, ◌&&◌, if◌then◌else◌, Option, Some, None, List, map, filter}
use Rattle.std.specs.List.{list_any}
use Rattle.scheduler.specs.Message.{ScheduledMessage}
use Rattle.scheduler.specs.Air.{Air, layer}

abbrev pub is_background : ScheduledMessage → Bool
is_background m = layer m == 1

-- the messages that aren't background
abbrev pub foreground : List ScheduledMessage → List ScheduledMessage
foreground messages = filter (λ m. layer m == 0) messages

-- a background message has that number
abbrev pub has_background : List ScheduledMessage → ℕ → Bool
has_background messages entry = list_any (λ m. is_background m && (m.entry == entry)) messages

-- a slot that airs a page of a background message made idle
abbrev pub blank_use : List ScheduledMessage → Option (ℕ × ℕ) → Option (ℕ × ℕ)
blank_use messages None = None
blank_use messages (Some used) = if has_background messages used.0 then None else Some used

-- the air list with each such slot idle
abbrev pub blanked : List ScheduledMessage → Air → Air
blanked messages air = map (blank_use messages) air
