-- What a cell promises of the messages that it accepted (own): of each legal history, with no other premise.
use Rattle.std.specs.Prelude.{◌≡◌, ℕ, ◌≤◌, false, All, AllPairs}
use Rattle.scheduler.specs.Message.{release, due}
use Rattle.scheduler.specs.Air.{layer, pages_aired}
use Rattle.scheduler.specs.Background.{foreground}
use Rattle.scheduler.specs.Completed.{completed}
use Rattle.scheduler.specs.Pages.{times_between}
use Rattle.bsc_table.specs.Guarantee.{LoadsFit, IsUncut}
use Rattle.bsc_table.specs.Bounds.{least_completed, most_completed}
use Rattle.bsc_table.specs.Record.{Record, accepted_in, messages_in, claims_in, is_of_pair}
use Rattle.bsc_table.specs.Room.{AreInOrder, ClaimsFit}
use Rattle.bsc_table.specs.Legal.{IsLegal}

-- no two accepted messages have the same identifier and serial number
abbrev pub LegalPairsComeOnce : Type 0
LegalPairsComeOnce = (r : Record) → IsLegal r → AllPairs (λ a b. is_of_pair a.id a.serial b ≡ false) (accepted_in r.log)

-- the claims of the accepted messages are in order at the clock, and what they reserve sums to at most SCALE at each
-- slot
abbrev pub LegalClaimsFit : Type 0
LegalClaimsFit = (r : Record) → IsLegal r → AreInOrder (claims_in r.log) r.clock × ClaimsFit (claims_in r.log)

-- so the loads that the accepted messages but those of background have reserved from their starts on sum to at most
-- SCALE at each slot
abbrev pub LegalLoadsFit : Type 0
LegalLoadsFit = (r : Record) → IsLegal r → LoadsFit (foreground (messages_in r.log))

-- each broadcast of an accepted message that isn't background, that was requested, that no stop cuts, and that is due
-- by the clock was completed: from its release up to its due slot the cell aired as many pages of the message as it
-- has
abbrev pub IsServed : Record → Type 0
IsServed r =
    All (λ m. (j : ℕ) → IsUncut m j r.air → pages_aired m.entry r.air (release m j) (due m j) ≡ m.pages)
    (foreground (messages_in r.log))

-- before each slot up to the clock, the number of completed broadcasts of an accepted message lies between its bounds;
-- of a background message it may be less
abbrev pub IsBounded : Record → Type 0
IsBounded r =
    All (λ m. (slot : ℕ) → slot ≤ r.clock
    → (layer m ≡ 0 → least_completed m slot ≤ completed m r.air slot)
    × (completed m r.air slot ≤ most_completed m slot)) (messages_in r.log)

-- both are true of each legal history
abbrev pub LegalHistoriesAreServed : Type 0
LegalHistoriesAreServed = (r : Record) → IsLegal r → IsServed r

abbrev pub LegalHistoriesAreBounded : Type 0
LegalHistoriesAreBounded = (r : Record) → IsLegal r → IsBounded r

-- and of a broadcast that was so aired each page of the message was aired once
abbrev pub LegalPagesAreAiredOnce : Type 0
LegalPagesAreAiredOnce = (r : Record)
    → IsLegal r
    → All (λ m. (j page : ℕ) → IsUncut m j r.air → 1 ≤ page → page ≤ m.pages
    → times_between m.entry page r.air (release m j) (due m j) ≡ 1) (foreground (messages_in r.log))
