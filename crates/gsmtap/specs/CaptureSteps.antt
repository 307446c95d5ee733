-- Steps over an input of tapes. Contracts of private functions alone speak of it.
use Rattle.std.specs.Prelude.{◌≡◌, ℕ, List, ◌++◌}
use Rattle.handset.specs.Tape.{IsCut, IsOversized, cell_in}
use Rattle.gsmtap.specs.Capture.{IsWhole, Tape, octets_of_tape, packets_of_slots}
use Rattle.gsmtap.specs.declared.capture.CaptureFault.{CaptureFault}
use Rattle.gsmtap.specs.declared.capture.CaptureFault.TheVariants as fault
use Rattle.gsmtap.specs.declared.capture.Settings.{Settings}

-- an input begins with a whole tape, before the rest
pub record BeginsWithTape (input : List ℕ) (tape : Tape) (rest : List ℕ) : Type 0 where
  pub whole : IsWhole tape
  pub split : input ≡ octets_of_tape tape ++ rest

-- its packets were appended
pub record PushesTape (settings : Settings) (number : ℕ) (input rest before after : List ℕ) : Type 0 where
  pub tape : Tape
  pub begins : BeginsWithTape input tape rest
  pub pushed : after ≡ before ++ packets_of_slots settings number (cell_in tape.header) 0 tape.slots

-- why an input that isn't at its end begins with no whole tape
abbrev pub IsNextFault : List ℕ → CaptureFault → Type 0
IsNextFault input fault.Short = IsCut input
IsNextFault input fault.Long = IsOversized input
IsNextFault input fault.Refused = Unit {0}
