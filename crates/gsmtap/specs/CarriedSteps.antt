-- Steps over pages whose identifiers are gathered. Contracts of private functions alone speak of it.
use Rattle.std.specs.Prelude.{ℕ, eqb, List, [], ◌∷◌, ◌++◌, if◌then◌else◌}
use Rattle.std.specs.List.{list_any}

-- numbers after one more, which stands there once
abbrev pub gathered_with : List ℕ → ℕ → List ℕ
gathered_with numbers one = if list_any (eqb one) numbers then numbers else numbers ++ one ∷ []

-- and after more
abbrev pub gathered_by : List ℕ → List ℕ → List ℕ
gathered_by numbers [] = numbers
gathered_by numbers (one ∷ rest) = gathered_by (gathered_with numbers one) rest
