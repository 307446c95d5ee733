-- What a desk does in a cell are steps of that cell.
use Rattle.std.proofs.Common.{◌≡◌, ℕ, ◌+◌, ◌-◌, min, max, refl, subst, inr}
use native.Mathlib.Omega.{arith}
use Rattle.bsc_table.specs.Record.{Record}
use Rattle.bsc_table.specs.Transitions.{Ask, IsPlayedUpTo, IsStep}
use Rattle.bsc_table.specs.declared.command.Command.{Command}
use Rattle.bsc_table.specs.declared.entry.Answer.{Answer}
use Rattle.order_desk.specs.declared.note.Note.{Note}
use Rattle.order_desk.specs.Notes.{IsAsked}
use Rattle.order_desk.specs.StepLaws.{OrdersAreSteps, PlaysAreSteps, PlaysOfOrdersAreSteps, StatusesAreSteps}

-- the slot up to which an order plays is the one that a play of the slots that are left reaches
same_slot : (slots clock at : ℕ) → min slots (max at clock) ≡ min (clock + (at - clock)) slots
same_slot slots clock at = omega arith

asked_is_step : (command : Command) (answer : Answer) (before after : Record) (note : Note)
    → IsAsked command answer before after note
    → IsStep (Ask command) before after
asked_is_step command answer before after note asked = (answer, inr asked.answered, asked.entered)

-- the slots that orders play are steps of a cell
pub plays_of_orders : PlaysOfOrdersAreSteps
plays_of_orders at before after notes played =
    subst (λ (slot : ℕ). IsPlayedUpTo slot before after) (same_slot before.slots before.clock at) played.played

-- orders are steps of a cell
pub orders : OrdersAreSteps
orders at command answer before after notes served = (
  served.between,
  plays_of_orders at before served.between served.ranges served.played,
  (after, asked_is_step command answer served.between after served.note served.asked, refl),
)

-- so are plays
pub plays : PlaysAreSteps
plays k range before after note play =
    subst (λ (slot : ℕ). IsPlayedUpTo slot before after) (search (play.range_is)) play.played

-- and questions how a message stands
pub statuses : StatusesAreSteps
statuses id serial told before after note status = asked_is_step _ _ before after note status.asked
