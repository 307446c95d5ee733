-- The things that octets are, one after the other, each read at the front of what is left, and why no more of them are
-- taken. Own.
use Rattle.std.specs.Prelude.{ℕ, zero, suc, List, [], ◌∷◌, length, Option, Some, None, Result, Ok, Err}
use Rattle.cbsp_link.specs.declared.fault.LinkFault.{LinkFault}
use Rattle.cbsp_link.specs.Outcome.{faultless}

-- the things taken, and the fault of the next one, if the octets don't end before it
pub record Run (X : Type 0) : Type 0 where
  pub items : List X
  pub stop : Option LinkFault

abbrev pub then_run : {X : Type 0} → Result (X × List ℕ) LinkFault → (List ℕ → Run X) → Run X
then_run (Ok x) others = record { items = x.0 ∷ (others x.1).items; stop = (others x.1).stop }
then_run (Err f) others = record { items = []; stop = Some f }

-- there are at most as many things as octets
unfoldable pub run_within : {X : Type 0} → (ℕ → List ℕ → Result (X × List ℕ) LinkFault) → ℕ → List ℕ → Run X
run_within front k [] = record { items = []; stop = None }
run_within front zero (a ∷ octets) = record { items = []; stop = None }
run_within front (suc k) (a ∷ octets) = then_run (front a octets) (λ rest. run_within front k rest)

-- by a reader of the thing at the front, which is handed the first octet and the others
unfoldable pub run_of : {X : Type 0} → (ℕ → List ℕ → Result (X × List ℕ) LinkFault) → List ℕ → Run X
run_of front octets = run_within front (length octets) octets

-- all things that octets are, or the first fault
abbrev pub all_of : {X : Type 0} → (ℕ → List ℕ → Result (X × List ℕ) LinkFault) → List ℕ → Result (List X) LinkFault
all_of front octets = faultless (run_of front octets).items (run_of front octets).stop
