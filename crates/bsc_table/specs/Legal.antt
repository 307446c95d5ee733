-- Legal histories of a cell (own).
use Rattle.std.specs.Prelude.{◌≡◌, ℕ, ◌<◌, ◌≤◌, List, length, take, slice_index_or, All, AllPairs}
use Rattle.scheduler.specs.Air.{Air, IsAirOf}
use Rattle.bsc_table.specs.declared.entry.Entry.{Entry}
use Rattle.bsc_table.specs.Record.{Record, messages_in}
use Rattle.bsc_table.specs.Answer.{answer_of}
use Rattle.bsc_table.specs.Orders.{IsWellFormed}

-- an entry's answer is the one that the entries before it and what was aired before its slot give, at its slot
abbrev pub HasItsAnswer : ℕ → List Entry → Air → Entry → Type 0
HasItsAnswer slots before air e = e.answer ≡ answer_of slots before (take e.slot air) e.slot e.command

-- a legal history: there are at most 4,096 entries, their slots never fall and none is past the clock, their commands
-- are well-formed, each answer is right, and one place of the air list for each played slot holds what the air rule
-- says of the accepted messages
pub record IsLegal (r : Record) : Type 0 where
  pub within : r.clock ≤ r.slots
  pub few : length r.log ≤ 4096
  pub rising : AllPairs (λ a b. a.slot ≤ b.slot) r.log
  pub known : All (λ e. e.slot ≤ r.clock) r.log
  pub formed : All (λ e. IsWellFormed e.command) r.log
  pub answered : (i : ℕ) (d : Entry) → i < length r.log → HasItsAnswer r.slots (take i r.log) r.air
      (slice_index_or r.log i d)
  pub played : length r.air ≡ r.clock
  pub aired : IsAirOf (messages_in r.log) r.air
