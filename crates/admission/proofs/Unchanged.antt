-- A table in which nothing ends or starts by a slot is the same past it.
use Rattle.std.proofs.Common.{◌≡◌, ℕ, true, cond, Option, Some, None, List, [], ◌∷◌, map, filter}
use Rattle.std.proofs.Common.{refl, ap, ◌∙◌}
use Rattle.std.specs.List.{list_all}
use Rattle.std.proofs.lemmas.Bool.{and_parts}
use Rattle.admission.specs.declared.budget.Held.{Held}
use Rattle.admission.specs.declared.budget.Waits.{Waits}
use Rattle.admission.specs.Reservation.{is_before_end}
use Rattle.admission.specs.Table.{passed}
use Rattle.admission.specs.TableSteps.{goes_on, stays_at}
use Rattle.admission.specs.Waiting.{started_at, waits_at}

still_waits : (slot : ℕ) (waits : Option Waits) → goes_on slot waits ≡ true → waits_at slot waits ≡ waits
still_waits slot None h = refl
still_waits slot (Some w) h = rw h refl

-- a table of which all stays is as it was
pub passed_unchanged : (slot : ℕ) (table : List Held) → list_all (stays_at slot) table ≡ true
    → passed slot table ≡ table
passed_unchanged slot [] h = refl
passed_unchanged slot (held ∷ table) h =
    let parts = and_parts (stays_at slot held) (list_all (stays_at slot) table) h in
    let stays = and_parts (is_before_end slot held.end) (goes_on slot held.waits) parts.0 in
    let later = filter (λ (x : Held). is_before_end slot x.end) table in
    ap (λ b. map (started_at slot) (cond b (held ∷ later) later)) stays.0
    ∙ ap (λ (waits : Option Waits). record held { waits = waits } ∷ map (started_at slot) later)
    (still_waits slot held.waits stays.1)
    ∙ ap (λ (rest : List Held). held ∷ rest) (passed_unchanged slot table parts.1)
