-- What a plan stands for: its messages, with their air list (own). How it keeps them is its own.
use Rattle.std.specs.Prelude.{◌≡◌, ◌≢◌, ℕ, None, List, length, map, All}
use Rattle.scheduler.specs.declared.plan.Item.{Item}
use Rattle.scheduler.specs.declared.scheduled.Scheduled.{Scheduled}
use Rattle.scheduler.specs.Message.{ScheduledMessage, release, broadcast_at}
use Rattle.scheduler.specs.Air.{Air, pages_aired}
use Rattle.scheduler.specs.Completed.{completed}

-- a plan in clauses: the slot that is asked next, and of each message what was aired of it by then
pub record PlanState : Type 0 where
  pub slot : ℕ
  pub scheduled : List Scheduled

-- the message that an item adds
abbrev pub message_from : Item → ScheduledMessage
message_from item = record {
  entry = item.entry;
  start = item.start;
  pages = item.pages;
  period = item.period;
  broadcasts = item.broadcasts;
  stop = None;
  rank = item.rank;
}

-- the message that is kept, with its stop
abbrev pub message_of : Scheduled → ScheduledMessage
message_of t = record (message_from t.item) { stop = t.stop }

-- the slot that is asked next
abbrev pub next_slot : PlanState → ℕ
next_slot plan = plan.slot

-- the messages that were added, with their stops
abbrev pub messages_of : PlanState → List ScheduledMessage
messages_of plan = map message_of plan.scheduled

-- the counts of a message are those of the air list: the pages of the broadcast that is under way, and the broadcasts
-- that are completed
pub record Counts (t : Scheduled) (air : Air) : Type 0 where
  pub aired : t.pages_aired ≡ pages_aired t.item.entry air (release (message_of t)
      (broadcast_at (message_of t) (length air))) (length air)
  pub completed : t.completed ≡ completed (message_of t) air (length air)

-- the plan follows the messages and their air list: it was told of these messages, each slot of the list was asked, and
-- its counts are those of the list
pub record Follows (plan : PlanState) (messages : List ScheduledMessage) (air : Air) : Type 0 where
  pub same_messages : messages_of plan ≡ messages
  pub asked : next_slot plan ≡ length air
  pub counted : All (λ t. Counts t air) plan.scheduled

-- this holds of each history that the plan follows
abbrev pub ForHistories : PlanState → (List ScheduledMessage → Air → Type 0) → Type 0
ForHistories plan P = (messages : List ScheduledMessage) (air : Air) → Follows plan messages air → P messages air

-- the message of this entry was added, and hasn't been stopped
abbrev pub IsStanding : ℕ → ScheduledMessage → Type 0
IsStanding entry m = (m.entry ≡ entry) × (m.stop ≡ None)

-- if the message is of this entry, it has been stopped
abbrev pub HasStop : ℕ → ScheduledMessage → Type 0
HasStop entry m = m.entry ≡ entry → m.stop ≢ None

-- if the message is of this entry, so many of its broadcasts are completed before the slot
abbrev pub HasCompleted : ℕ → ℕ → Air → ℕ → ScheduledMessage → Type 0
HasCompleted entry count air slot m = m.entry ≡ entry → count ≡ completed m air slot
