-- From which slot on a phone shows an accepted message (own).
use Rattle.std.specs.Prelude.{◌≡◌, ℕ, ◌+◌, ◌<◌, All, Contains, MatchOption}
use Rattle.handset.specs.Reception.{shown_in}
use Rattle.bsc_table.specs.Legal.{IsLegal}
use Rattle.bsc_table.specs.Record.{Accepted, Record, accepted_in}
use Rattle.composition.specs.Composition.{blocks_before, message_accepted}
use Rattle.report.specs.Rows.{first_shown}

-- a phone that read the blocks of the slots up to this one, and no more, shows the message
abbrev pub IsShownAfter : Record → Accepted → (slot : ℕ) → Type 0
IsShownAfter r a slot = Contains (shown_in (blocks_before (slot + 1) r)) (message_accepted r.log a)

-- it does, and after no earlier slot
pub record IsShownFirst (r : Record) (a : Accepted) (slot : ℕ) : Type 0 where
  pub within : slot < r.slots
  pub shown : IsShownAfter r a slot
  pub earlier : (before : ℕ) → before < slot → IsShownAfter r a before → ⊥

-- what a report has as the slot after which a message is shown first is that slot; where it has none, there is none
abbrev pub FirstShownIsThePhones : Type 0
FirstShownIsThePhones = (r : Record)
    → IsLegal r
    → r.clock ≡ r.slots
    → All (λ a. MatchOption (first_shown r a) ((slot : ℕ) → slot < r.slots → IsShownAfter r a slot → ⊥)
    (IsShownFirst r a)) (accepted_in r.log)
