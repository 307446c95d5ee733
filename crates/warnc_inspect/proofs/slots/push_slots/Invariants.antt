-- The rows so far, and those of the slots that are left, are all.
use Rattle.std.proofs.Common.{◌≡◌, ◌++◌, ℕ, List, drop}
use Rattle.warnc_inspect.specs.ReadSteps.{IsTable}
use Rattle.warnc_inspect.proofs.SlotRows.{rows_of}
use Rattle.warnc_inspect.proofs.slots.push_slots.Given as goal

abbrev pub invariant-loop-number : goal.invariant-loop-number
invariant-loop-number l = (octets : List ℕ) → IsTable l.fn.table octets
    → (done : List ℕ) × IsTable l.table done
    × (done ++ rows_of l.wanted l.cell l.number (drop l.number l.slots) ≡ octets ++ rows_of l.wanted l.cell 0 l.slots)
