-- What a plan keeps of its messages (own): contracts of private functions alone speak of it.
use Rattle.std.specs.Prelude.{◌≡◌, ℕ, ◌+◌, ◌-◌, ◌%◌, ◌<◌, ◌≤◌, ◌==◌, Bool, true, false, ◌&&◌, nat_le, nat_lt}
use Rattle.std.specs.Prelude.{if◌then◌else◌, Option, Some, None, List, All, Any, AllPairs}
use Rattle.scheduler.specs.declared.scheduled.Scheduled.{Scheduled}
use Rattle.scheduler.specs.Message.{has_broadcast, is_before_stop, broadcast_at}
use Rattle.scheduler.specs.Air.{airs, IsServedBy}
use Rattle.scheduler.specs.Follows.{PlanState, message_of}

-- what is true of each kept message at the slot that is asked next
pub record IsFit (t : Scheduled) (slot : ℕ) : Type 0 where
  pub some_pages : 0 < t.item.pages
  pub some_period : 0 < t.item.period
  pub few : t.completed ≤ slot

-- and of all that a plan keeps: the numbers rise
pub record IsSound (plan : PlanState) : Type 0 where
  pub rising : AllPairs (λ a b. a.item.entry < b.item.entry) plan.scheduled
  pub fit : All (λ t. IsFit t plan.slot) plan.scheduled
  pub within : plan.slot ≤ 65535

-- the message has started, and has a page to air at the slot
abbrev pub is_ready : Scheduled → ℕ → Bool
is_ready t slot =
    nat_le t.item.start slot && (has_broadcast (message_of t) (broadcast_at (message_of t) slot) &&
    (is_before_stop slot t.stop && nat_lt t.pages_aired t.item.pages))

-- of two messages, a is served no later than b at the slot
abbrev pub IsServedFirst : ℕ → Scheduled → Scheduled → Type 0
IsServedFirst slot a b =
    IsServedBy (message_of a) (broadcast_at (message_of a) slot) (message_of b) (broadcast_at (message_of b) slot)

-- no message is ready
abbrev pub NoneReady : List Scheduled → ℕ → Type 0
NoneReady scheduled slot = All (λ t. is_ready t slot ≡ false) scheduled

-- a message is ready, and served no later than any that is
pub record IsFirstReady (scheduled : List Scheduled) (slot : ℕ) (t : Scheduled) : Type 0 where
  pub ready : is_ready t slot ≡ true
  pub first : All (λ other. is_ready other slot ≡ true → IsServedFirst slot t other) scheduled

-- what is kept of a message after a slot and its use
abbrev pub after_slot : ℕ → Option (ℕ × ℕ) → Scheduled → Scheduled
after_slot slot used t =
    let pages = t.pages_aired + (if airs t.item.entry used then 1 else 0) in
    record t {
      pages_aired = if (slot + 1 - t.item.start) % t.item.period == 0 then 0 else pages;
      completed = t.completed + (if airs t.item.entry used && (pages == t.item.pages) then 1 else 0);
    }

-- what a slot airs by what is kept
abbrev pub IsChoice : List Scheduled → ℕ → Option (ℕ × ℕ) → Type 0
IsChoice scheduled slot None = NoneReady scheduled slot
IsChoice scheduled slot (Some used) =
    Any (λ t. IsFirstReady scheduled slot t × (used ≡ (t.item.entry, t.pages_aired + 1))) scheduled

-- what is kept of a message that is stopped, if the test says so
abbrev pub scheduled_stopped : Bool → ℕ → Scheduled → Scheduled
scheduled_stopped says slot t = record t { stop = if says then Some slot else t.stop }
