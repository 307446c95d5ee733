-- Messages and air lists under other numbers (own).
use Rattle.std.specs.Prelude.{ℕ, ◌<◌, Option, Some, None}
use Rattle.scheduler.specs.Message.{ScheduledMessage}

-- a lesser number stays lesser
abbrev pub KeepsOrder : (ℕ → ℕ) → Type 0
KeepsOrder f = (a b : ℕ) → a < b → f a < f b

abbrev pub renumbered : (ℕ → ℕ) → ScheduledMessage → ScheduledMessage
renumbered f m = record m { entry = f m.entry }

abbrev pub use_renumbered : (ℕ → ℕ) → Option (ℕ × ℕ) → Option (ℕ × ℕ)
use_renumbered f None = None
use_renumbered f (Some used) = Some (f used.0, used.1)
