-- Pages that were sent, by identifier and serial number (own). The contracts of private functions alone speak of them.
use Rattle.std.specs.Prelude.{ℕ, ◌+◌, ◌*◌, ◌≤◌, List, AllPairs}
use Rattle.std.specs.List.Sorted.{IsNonDecreasingBy}
use Rattle.verification.specs.declared.sent.SentPage.{SentPage}
use Rattle.verification.specs.Asked.{AskedMessage}
use Rattle.verification.specs.Judged.{judged_in}

-- a number for an identifier and a serial number
abbrev pub name_number : (id serial : ℕ) → ℕ
name_number id serial = id * 0x10000 + serial

-- pages stand by name, and those of one message in the order in which they were sent
pub record AreByName (sent : List SentPage) : Type 0 where
  pub named : IsNonDecreasingBy (λ (s : SentPage). name_number s.page.id s.page.serial) sent
  pub rising : (a : AskedMessage) → AllPairs (λ x y. x.slot ≤ y.slot) (judged_in a sent)
