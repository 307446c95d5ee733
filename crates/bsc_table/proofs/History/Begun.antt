-- A message that begins starts no sooner than it is accepted.
use Rattle.std.proofs.Common.{ℕ, ◌≤◌, ◌<◌, Option, Some, None, List, inl, inr, arith}
use Rattle.bsc_table.specs.Record.{Accepted, claim_of, claims_of}
use Rattle.bsc_table.specs.Claim.{own_load}
use Rattle.bsc_table.specs.Handover.{ahead_of}
use Rattle.bsc_table.specs.Begun.{TakesOver, Starts}
use Rattle.bsc_table.proofs.Room.Ahead.{taken}

over_is_later : (slot : ℕ) (old : Accepted) (before : List Accepted) (a : Accepted)
    → TakesOver slot old before a
    → slot < a.message.start
over_is_later slot old before a over =
    let took = taken (claims_of before) slot (own_load a.message) (ahead_of slot (claim_of old)) over.place over.over in
    omega (arith, took.later, over.placed.start)

-- a message starts no sooner than it is accepted
pub starts_forward : (slot : ℕ) (replaced : Option Accepted) (before : List Accepted) (a : Accepted)
    → Starts slot replaced before a
    → slot ≤ a.message.start
starts_forward slot None before a now = omega (arith, now.start)
starts_forward slot (Some old) before a starts =
    elim starts [
      | inl now ↦ omega (arith, now.start)
      | inr over ↦ omega (arith, over_is_later slot old before a over)
    ]
