-- The slots of a list of blocks, completed one after another.
use Rattle.std.proofs.Common.{◌≡◌, ℕ, ◌+◌, ◌*◌, ◌/◌, ◌<◌, ◌≤◌, zero, suc, List, [], ◌∷◌, ◌++◌, length, take, drop}
use Rattle.std.proofs.Common.{refl, ap, sym, ◌∙◌, append_assoc, arith}
use Rattle.std.specs.List.{flat_map}
use Rattle.std.specs.Simd.{first_chunks}
use Rattle.short_pages.specs.Slots.{completed, completed_slot}

-- the whole slots of a list of blocks, completed, and the blocks that are left
pub completed-slots : (k : ℕ) (blocks : List (List ℕ)) → 4 * k ≤ length blocks → length blocks < 4 * k + 4
    → completed blocks ≡ flat_map completed_slot (first_chunks 4 k blocks) ++ drop (k * 4) blocks
completed-slots zero [] low high = refl
completed-slots zero (a ∷ []) low high = refl
completed-slots zero (a ∷ b ∷ []) low high = refl
completed-slots zero (a ∷ b ∷ c ∷ []) low high = refl
completed-slots zero (a ∷ b ∷ c ∷ d ∷ rest) low high = absurd (omega arith)
completed-slots (suc k) (a ∷ b ∷ c ∷ d ∷ rest) low high =
    let next : suc k * 4 ≡ suc (suc (suc (suc (k * 4)))) = omega arith in
    rw next
    (ap (λ more. completed_slot (a ∷ b ∷ c ∷ d ∷ []) ++ more) (completed-slots k rest (omega arith) (omega arith))
    ∙ sym (append_assoc (completed_slot (a ∷ b ∷ c ∷ d ∷ [])) (flat_map completed_slot (first_chunks 4 k rest))
    (drop (k * 4) rest)))
completed-slots (suc k) [] low high = absurd (omega arith)
completed-slots (suc k) (a ∷ []) low high = absurd (omega arith)
completed-slots (suc k) (a ∷ b ∷ []) low high = absurd (omega arith)
completed-slots (suc k) (a ∷ b ∷ c ∷ []) low high = absurd (omega arith)

-- what was read slot by slot, and the blocks that are left, are all blocks, completed
pub completed-one-by-one : (n : ℕ) (blocks : List (List ℕ)) (slots : List (List (List ℕ))) (rest : List (List ℕ))
    → take n slots ≡ slots → slots ≡ first_chunks 4 (length blocks / 4) blocks
    → rest ≡ drop (length blocks / 4 * 4) blocks
    → flat_map completed_slot (take n slots) ++ rest ≡ completed blocks
completed-one-by-one n blocks slots rest all front back =
    ap (λ read. flat_map completed_slot read ++ rest) (all ∙ front)
    ∙ ap (λ more. flat_map completed_slot (first_chunks 4 (length blocks / 4) blocks) ++ more) back
    ∙ sym (completed-slots (length blocks / 4) blocks (omega arith) (omega arith))
