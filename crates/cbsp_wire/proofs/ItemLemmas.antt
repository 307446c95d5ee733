-- The items that octets are: the one at the front, and that there is one.
use Rattle.std.proofs.Common.{◌≡◌, ℕ, ◌-◌, ◌≤◌, List, [], ◌∷◌, length, take, drop, get_or, refl, sym, ap, arith}
use Rattle.std.proofs.Common.{map, false}
use Rattle.std.specs.Prelude.{◌==◌, ◌&&◌, ◌%◌}
use Rattle.std.proofs.lemmas.List.{take_all, map-id}
use Rattle.cbsp_wire.specs.declared.message.Cell.{Cell}
use Rattle.cbsp_wire.specs.Value.{count_at, failure_at, cells_in, counts_in, failures_in}
use Rattle.cbsp_wire.specs.Range.{is_nothing, failures_are_by_lac_and_ci}

-- the completed broadcast at the front of seven octets or more
pub counts_in-first : (o : List ℕ) → 7 ≤ length o
    → counts_in o
    ≡ count_at (get_or o 0 0) (get_or o 1 0) (get_or o 2 0) (get_or o 3 0) (get_or o 4 0) (get_or o 5 0) (get_or o 6 0)
    ∷ counts_in (take (length o - 7) (drop 7 o))
counts_in-first [] h = absurd (omega arith)
counts_in-first (a ∷ []) h = absurd (omega arith)
counts_in-first (a ∷ b ∷ []) h = absurd (omega arith)
counts_in-first (a ∷ b ∷ c ∷ []) h = absurd (omega arith)
counts_in-first (a ∷ b ∷ c ∷ d ∷ []) h = absurd (omega arith)
counts_in-first (a ∷ b ∷ c ∷ d ∷ e ∷ []) h = absurd (omega arith)
counts_in-first (a ∷ b ∷ c ∷ d ∷ e ∷ f ∷ []) h = absurd (omega arith)
counts_in-first (a ∷ b ∷ c ∷ d ∷ e ∷ f ∷ g ∷ o) h =
    let le : length o ≤ length (a ∷ b ∷ c ∷ d ∷ e ∷ f ∷ g ∷ o) - 7 = omega arith in
    ap (λ (r : List ℕ). count_at a b c d e f g ∷ counts_in r)
    (sym (take_all (length (a ∷ b ∷ c ∷ d ∷ e ∷ f ∷ g ∷ o) - 7) o le))

-- the failure at the front of six octets or more
pub failures_in-first : (o : List ℕ) → 6 ≤ length o
    → failures_in o ≡ failure_at (get_or o 1 0) (get_or o 2 0) (get_or o 3 0) (get_or o 4 0) (get_or o 5 0)
    ∷ failures_in (take (length o - 6) (drop 6 o))
failures_in-first [] h = absurd (omega arith)
failures_in-first (a ∷ []) h = absurd (omega arith)
failures_in-first (a ∷ b ∷ []) h = absurd (omega arith)
failures_in-first (a ∷ b ∷ c ∷ []) h = absurd (omega arith)
failures_in-first (a ∷ b ∷ c ∷ d ∷ []) h = absurd (omega arith)
failures_in-first (a ∷ b ∷ c ∷ d ∷ e ∷ []) h = absurd (omega arith)
failures_in-first (z ∷ a ∷ b ∷ c ∷ d ∷ e ∷ o) h =
    let le : length o ≤ length (z ∷ a ∷ b ∷ c ∷ d ∷ e ∷ o) - 6 = omega arith in
    ap (λ (r : List ℕ). failure_at a b c d e ∷ failures_in r)
    (sym (take_all (length (z ∷ a ∷ b ∷ c ∷ d ∷ e ∷ o) - 6) o le))

-- the discriminator of the first failure, and those of the others
pub failures_are_by_lac_and_ci-first : (o : List ℕ) → 6 ≤ length o
    → failures_are_by_lac_and_ci o ≡
    ((get_or o 0 0 == 1) && failures_are_by_lac_and_ci (take (length o - 6) (drop 6 o)))
failures_are_by_lac_and_ci-first [] h = absurd (omega arith)
failures_are_by_lac_and_ci-first (a ∷ []) h = absurd (omega arith)
failures_are_by_lac_and_ci-first (a ∷ b ∷ []) h = absurd (omega arith)
failures_are_by_lac_and_ci-first (a ∷ b ∷ c ∷ []) h = absurd (omega arith)
failures_are_by_lac_and_ci-first (a ∷ b ∷ c ∷ d ∷ []) h = absurd (omega arith)
failures_are_by_lac_and_ci-first (a ∷ b ∷ c ∷ d ∷ e ∷ []) h = absurd (omega arith)
failures_are_by_lac_and_ci-first (z ∷ a ∷ b ∷ c ∷ d ∷ e ∷ o) h =
    let le : length o ≤ length (z ∷ a ∷ b ∷ c ∷ d ∷ e ∷ o) - 6 = omega arith in
    ap (λ (r : List ℕ). (z == 1) && failures_are_by_lac_and_ci r)
    (sym (take_all (length (z ∷ a ∷ b ∷ c ∷ d ∷ e ∷ o) - 6) o le))

-- octets that are whole cells, and some, are some cells
pub cells_in-some : (o : List ℕ) → length o % 4 ≡ 0 → is_nothing o ≡ false → is_nothing (cells_in o) ≡ false
cells_in-some [] whole some = absurd cc
cells_in-some (a ∷ []) whole some = absurd (omega (arith, whole))
cells_in-some (a ∷ b ∷ []) whole some = absurd (omega (arith, whole))
cells_in-some (a ∷ b ∷ c ∷ []) whole some = absurd (omega (arith, whole))
cells_in-some (a ∷ b ∷ c ∷ d ∷ o) whole some = refl

-- octets that are whole failures, and some, are some failures
pub failures_in-some : (o : List ℕ) → length o % 6 ≡ 0 → is_nothing o ≡ false → is_nothing (failures_in o) ≡ false
failures_in-some [] whole some = absurd cc
failures_in-some (z ∷ []) whole some = absurd (omega (arith, whole))
failures_in-some (z ∷ a ∷ []) whole some = absurd (omega (arith, whole))
failures_in-some (z ∷ a ∷ b ∷ []) whole some = absurd (omega (arith, whole))
failures_in-some (z ∷ a ∷ b ∷ c ∷ []) whole some = absurd (omega (arith, whole))
failures_in-some (z ∷ a ∷ b ∷ c ∷ d ∷ []) whole some = absurd (omega (arith, whole))
failures_in-some (z ∷ a ∷ b ∷ c ∷ d ∷ e ∷ o) whole some = refl

-- the cells that cells name are themselves
pub same_cells : (cs : List Cell) → map (λ (c : Cell). c) cs ≡ cs
same_cells cs = map-id cs
