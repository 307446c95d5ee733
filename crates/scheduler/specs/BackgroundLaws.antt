-- What background messages leave as it is (own): over messages and air lists alone.
use Rattle.std.specs.Prelude.{◌≡◌, ℕ, List, length, Contains}
use Rattle.scheduler.specs.Message.{ScheduledMessage}
use Rattle.scheduler.specs.Air.{Air, layer, pages_aired, IsAirOf}
use Rattle.scheduler.specs.AirLaws.{NumbersRise}
use Rattle.scheduler.specs.Background.{foreground, blanked}
use Rattle.scheduler.specs.Completed.{completed}

-- with the slots of background messages idle, an air list by the rule is one by the rule of the other messages
abbrev pub BackgroundCountsAsIdle : Type 0
BackgroundCountsAsIdle = (messages : List ScheduledMessage) (air : Air)
    → NumbersRise messages
    → IsAirOf messages air
    → IsAirOf (foreground messages) (blanked messages air)

-- so the others air what they would air alone
abbrev pub BackgroundChangesNothing : Type 0
BackgroundChangesNothing = (messages : List ScheduledMessage) (air alone : Air)
    → NumbersRise messages
    → IsAirOf messages air
    → IsAirOf (foreground messages) alone
    → length alone ≡ length air
    → blanked messages air ≡ alone

-- of each message that isn't background, it has the same pages
abbrev pub BlankingKeepsPages : Type 0
BlankingKeepsPages = (messages : List ScheduledMessage) (air : Air) (message : ScheduledMessage) (from to : ℕ)
    → NumbersRise messages
    → Contains messages message
    → layer message ≡ 0
    → pages_aired message.entry (blanked messages air) from to ≡ pages_aired message.entry air from to

-- and the same completed broadcasts
abbrev pub BlankingKeepsCompleted : Type 0
BlankingKeepsCompleted = (messages : List ScheduledMessage) (air : Air) (message : ScheduledMessage) (slot : ℕ)
    → NumbersRise messages
    → Contains messages message
    → layer message ≡ 0
    → completed message (blanked messages air) slot ≡ completed message air slot
