-- What a call between two ends says that it made: what it read, and what of its output the writer took. Own.
use Rattle.std.specs.Prelude.{ℕ, ◌+◌, ◌*◌, ◌<◌, List, length, take, Option, Result, IfErr, OnOk}
use Rattle.std.specs.Io.KnownBytes.{Appends, Consumes, IsAtEnd}
use Rattle.device_ends.specs.Moves.{AppendsFront}
use Rattle.device_ends.specs.Stream.{Between, FaultBetween}
use Rattle.device_ends.specs.declared.reading.Source.{Source}
use Rattle.device_ends.specs.declared.writing.Sink.{Sink}

-- all of the octets were read, and what they mean was written: `first` and `last` are what the reader has left before
-- and after, `old` and `new` what the writer holds
pub record Makes (Means : (input output : List ℕ) → Type 0) (first last old new : Option (List ℕ)) : Type 0 where
  pub input : List ℕ
  pub output : List ℕ
  pub read : Consumes first last input
  pub ended : IsAtEnd last
  pub meant : Means input output
  pub appended : Appends old new output

-- the same, but the writer took no more than a front
pub record MakesFront (Means : (input output : List ℕ) → Type 0) (first last old new : Option (List ℕ)) : Type 0
  where
    pub input : List ℕ
    pub output : List ℕ
    pub read : Consumes first last input
    pub ended : IsAtEnd last
    pub meant : Means input output
    pub front : AppendsFront old new output

-- how many octets a tape of this many slots has: a header of eight, and four blocks of 23 for each slot
abbrev pub tape_size : (slots : ℕ) → ℕ
tape_size slots = 8 + 92 * slots

-- all of the octets were read. Of the tapes that they mean, of `size` octets each, the writer took some whole, and of
-- the one under way the first `written` octets, and no more
pub record MakesTapesFront (Means : (input output : List ℕ) → Type 0) (size written : ℕ)
    (first last old new : Option (List ℕ)) : Type 0 where
  pub input : List ℕ
  pub output : List ℕ
  pub read : Consumes first last input
  pub ended : IsAtEnd last
  pub meant : Means input output
  pub whole : ℕ
  pub under_way : written < size
  pub some_left : 0 < length output → size * whole + written < length output
  pub front : Appends old new (take (size * whole + written) output)

-- what a call between a source and a sink says with Ok: it read all, and wrote what that means
abbrev pub IsMade : {R W F : Type 0} → Result (Unit {0}) F → (left : R → Option (List ℕ))
    → (held : W → Option (List ℕ)) → (Means : (input output : List ℕ) → Type 0)
    → (first last : Source R) → (old new : Sink W) → Type 0
IsMade result left held Means first last old new = OnOk result (Between left held (Makes Means) first last old new)

-- and with a fault: it is one of these
abbrev pub IsUnmade : {R W F : Type 0} → Result (Unit {0}) F → (left : R → Option (List ℕ))
    → (held : W → Option (List ℕ)) → (IsFault : (first last old new : Option (List ℕ)) → F → Type 0)
    → (first last : Source R) → (old new : Sink W) → Type 0
IsUnmade result left held IsFault first last old new =
    IfErr result (FaultBetween left held IsFault first last old new)
