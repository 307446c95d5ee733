-- A step of a whole read (own). The contracts of private functions alone speak of it.
use Rattle.std.specs.Prelude.{◌≡◌, ℕ, List, ◌++◌, Option}
use Rattle.std.specs.Io.KnownBytes.{Consumes}

-- these octets were taken from the reader and put onto the end of a list
pub record Moved (old new : Option (List ℕ)) (before after : List ℕ) : Type 0 where
  pub octets : List ℕ
  pub consumed : Consumes old new octets
  pub appended : after ≡ before ++ octets
