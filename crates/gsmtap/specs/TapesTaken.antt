-- The tapes that are wanted of a capture file, as its packets come.
use Rattle.std.specs.Prelude.{◌≡◌, ℕ, List, Ok}
use Rattle.gsmtap.specs.File.{Packet}
use Rattle.gsmtap.specs.Taken.{taken}
use Rattle.gsmtap.specs.TapesOfCapture.{for_tapes}
use Rattle.gsmtap.specs.TapesSteps.{known_of_each}
use Rattle.gsmtap.specs.Walk.{IsWalkOf}
use Rattle.gsmtap.specs.declared.tape.Wanted.{Wanted}
use Rattle.gsmtap.specs.declared.tapes.Tapes.{Tapes}
use Rattle.gsmtap.specs.declared.walk.Walk.{Walk}

-- these tapes are wanted, and have these packets
pub record HaveTaken (wanted : List Wanted) (packets : List Packet) (tapes : Tapes) : Type 0 where
  pub wanted_are : tapes.wanted.items ≡ wanted
  pub comes : taken (for_tapes wanted) packets ≡ Ok (known_of_each tapes.airs.items)

-- a walk for these tapes is over a file of which these octets came by now
abbrev pub IsWalkFor : List Wanted → (input : List ℕ) → Walk Tapes → Type 0
IsWalkFor wanted input walk = IsWalkOf for_tapes HaveTaken wanted input walk
