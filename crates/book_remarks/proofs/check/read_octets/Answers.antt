use Rattle.std.proofs.Common.{◌≡◌, ◌+◌, ◌<◌, ℕ, List, Option, Some, None, IfSome, length, take, min, ap, ◌∙◌}
use Rattle.std.proofs.Common.{arith}
use Rattle.std.proofs.lemmas.List.{length-take}
use Rattle.book_remarks.proofs.check.read_octets.Goals as goal

-- where more than a bound was read, there was more
long_input : (left : Option (List ℕ)) (octets : List ℕ) (n most : ℕ) → n ≡ most
    → IfSome left (λ input. octets ≡ take (n + 1) input) → n < length octets
    → IfSome left (λ input. most < length input)
long_input None octets n most bound is long = tt
long_input (Some input) octets n most bound is long =
    let some : length octets ≡ min (n + 1) (length input) = ap length is ∙ length-take (n + 1) input in
    omega (arith, some, long, bound)

pub returns-then-len-most-clause-fault : goal.returns-then-len-most-clause-fault
returns-then-len-most-clause-fault g c =
    long_input _ _ c.most_octets-most.result _ c.most_octets-most.ensures.most c.in-Ok.ensures.value (omega arith)
