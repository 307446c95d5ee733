-- Ranges of cells.
use Rattle.std.proofs.Common.{◌≡◌, ◌+◌, ◌++◌, ◌∷◌, ◌∙◌, add-one, ap, ℕ, zero, suc, List, [], refl, arith}
use Rattle.plan.specs.PlanCells.{cell_text, cells_from}

cells_from_suc : (lac ci count : ℕ) → cells_from lac ci (suc count)
    ≡ cells_from lac ci count ++ cell_text lac (ci + count) ∷ []
cells_from_suc lac ci zero = let same : ci + 0 ≡ ci = omega arith in rw same refl
cells_from_suc lac ci (suc count) =
    let same : ci + 1 + count ≡ ci + suc count = omega arith in
    ap (λ (cells : List (List ℕ)). cell_text lac ci ∷ cells)
    (cells_from_suc lac (ci + 1) count
    ∙ ap (λ (n : ℕ). cells_from lac (ci + 1) count ++ cell_text lac n ∷ []) same)

-- one cell more
pub cells_from_more : (lac ci count : ℕ) → cells_from lac ci (count + 1)
    ≡ cells_from lac ci count ++ cell_text lac (ci + count) ∷ []
cells_from_more lac ci count = rw add-one (cells_from_suc lac ci count)
