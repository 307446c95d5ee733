-- Pages from a broadcast on (own). Contracts of private functions alone speak of them.
use Rattle.std.specs.Prelude.{ℕ, Bool, nat_le}
use Rattle.verification.specs.declared.judged.JudgedPage.{JudgedPage}
use Rattle.verification.specs.Asked.{AskedMessage}
use Rattle.verification.specs.Difference.{release_slot}

-- a page comes from the release of broadcast j on
abbrev pub is_from : AskedMessage → (j : ℕ) → JudgedPage → Bool
is_from a j page = nat_le (release_slot a j) page.slot
