-- What whole reads and writes do to the octets that a reader has left and a writer holds, if they are known (own).
use Rattle.std.specs.Prelude.{ℕ, ◌+◌, ◌<◌, ◌≤◌, List, Option, IfSome, length, take}
use Rattle.std.specs.Io.KnownBytes.{Appends, Consumes, IsAtEnd}

-- the reader gave these octets, and was at its end if they are at most `limit`; they are never more than one above
pub record ReadsUpTo (old new : Option (List ℕ)) (octets : List ℕ) (limit : ℕ) : Type 0 where
  pub consumed : Consumes old new octets
  pub ended : length octets ≤ limit → IsAtEnd new
  pub bounded : length octets ≤ limit + 1

-- some octets of the reader are gone, at most `most`
abbrev pub ConsumesSome : Option (List ℕ) → Option (List ℕ) → ℕ → Type 0
ConsumesSome old new most = (octets : List ℕ) × Consumes old new octets × (length octets ≤ most)

-- the writer took a front of the octets, and not all of them
abbrev pub AppendsFront : Option (List ℕ) → Option (List ℕ) → List ℕ → Type 0
AppendsFront old new octets =
    (n : ℕ) × (0 < length octets → n < length octets) × Appends old new (take n octets)

-- a writer was given the output of an input: if the input is known, an output of it, and at any reader an output of
-- some input. `IsOutput` says what is written for which input, and `old` and `new` are what the writer held before and
-- after
pub record WritesOutput (IsOutput : List ℕ → List ℕ → Type 0) (input old new : Option (List ℕ)) : Type 0 where
  pub of_input : IfSome input (λ octets. (output : List ℕ) × IsOutput octets output × Appends old new output)
  pub of_some : (octets output : List ℕ) × IsOutput octets output × Appends old new output
