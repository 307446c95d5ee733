-- Differences are at slots that have a time (own).
use Rattle.std.specs.Prelude.{ℕ, ◌*◌, ◌≤◌, List, All, length}
use Rattle.bsc_table.specs.Record.{Record}
use Rattle.verification.specs.Difference.{AreDifferences}
use Rattle.verification.specs.declared.difference.Difference.{Difference}

-- each difference between a cell's record and blocks is at a slot of the record's run, or of the blocks, of which a
-- slot has four; so where both have 65,535 slots at most, the slot of each has a time
abbrev pub DifferencesAreWithin : Type 0
DifferencesAreWithin = (r : Record) (blocks : List (List ℕ)) (found : List Difference) (slots : ℕ)
    → r.slots ≤ slots
    → length blocks ≤ 4 * slots
    → AreDifferences r blocks found
    → All (λ d. d.slot ≤ slots) found
