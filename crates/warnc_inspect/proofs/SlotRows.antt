-- The rows of slots, one slot after another.
use Rattle.std.proofs.Common.{◌≡◌, ℕ, ◌+◌, ◌*◌, ◌/◌, ◌<◌, ◌≤◌, zero, suc, List, [], ◌∷◌, ◌++◌, length, refl, ap, arith}
use Rattle.std.proofs.Common.{◌∙◌, append_assoc, drop, sym}
use Rattle.std.specs.Prelude.{slice_index_or}
use Rattle.std.proofs.lemmas.List.{at_drop_more}
use Rattle.std.specs.Simd.{first_chunks}
use Rattle.cbsp_wire.specs.declared.message.Cell.{Cell}
use Rattle.short_pages.specs.declared.pages.Pages.{Pages}
use Rattle.warnc_inspect.specs.SlotsOutput.{rows_from, slot_rows}

-- the rows of these slots, of which the first has this number
abbrev pub rows_of : Pages → Cell → (slot : ℕ) → (slots : List (List (List ℕ))) → List ℕ
rows_of wanted cell slot [] = []
rows_of wanted cell slot (blocks ∷ rest) = slot_rows wanted cell slot blocks ++ rows_of wanted cell (slot + 1) rest

-- the whole slots of a list of blocks have its rows
pub rows_of_chunks : (wanted : Pages) (cell : Cell) (slot k : ℕ) (blocks : List (List ℕ)) → 4 * k ≤ length blocks
    → length blocks < 4 * k + 4
    → rows_of wanted cell slot (first_chunks 4 k blocks) ≡ rows_from wanted cell slot blocks
rows_of_chunks wanted cell slot zero [] low high = refl
rows_of_chunks wanted cell slot zero (a ∷ []) low high = refl
rows_of_chunks wanted cell slot zero (a ∷ b ∷ []) low high = refl
rows_of_chunks wanted cell slot zero (a ∷ b ∷ c ∷ []) low high = refl
rows_of_chunks wanted cell slot zero (a ∷ b ∷ c ∷ d ∷ rest) low high = absurd (omega arith)
rows_of_chunks wanted cell slot (suc k) (a ∷ b ∷ c ∷ d ∷ rest) low high =
    ap (λ more. slot_rows wanted cell slot (a ∷ b ∷ c ∷ d ∷ []) ++ more)
    (rows_of_chunks wanted cell (slot + 1) k rest (omega arith) (omega arith))
rows_of_chunks wanted cell slot (suc k) [] low high = absurd (omega arith)
rows_of_chunks wanted cell slot (suc k) (a ∷ []) low high = absurd (omega arith)
rows_of_chunks wanted cell slot (suc k) (a ∷ b ∷ []) low high = absurd (omega arith)
rows_of_chunks wanted cell slot (suc k) (a ∷ b ∷ c ∷ []) low high = absurd (omega arith)

-- so all of them have
pub rows_of_all : (wanted : Pages) (cell : Cell) (blocks : List (List ℕ)) (slots : List (List (List ℕ)))
    → slots ≡ first_chunks 4 (length blocks / 4) blocks
    → rows_of wanted cell 0 slots ≡ rows_from wanted cell 0 blocks
rows_of_all wanted cell blocks slots front =
    ap (rows_of wanted cell 0) front
    ∙ rows_of_chunks wanted cell 0 (length blocks / 4) blocks (omega arith) (omega arith)

-- what is so of the rows so far and the next one's, it is so of some rows, which go on with those that are left
pub rows_more : {Is : List ℕ → Type 0} (wanted : Pages) (cell : Cell) (n : ℕ) (slots : List (List (List ℕ)))
    (d : List (List ℕ)) (done whole : List ℕ) → n < length slots
    → Is (done ++ slot_rows wanted cell n (slice_index_or slots n d))
    → done ++ rows_of wanted cell n (drop n slots) ≡ whole
    → (x : List ℕ) × Is x × (x ++ rows_of wanted cell (n + 1) (drop (n + 1) slots) ≡ whole)
rows_more wanted cell n slots d done whole within is all = (
  done ++ slot_rows wanted cell n (slice_index_or slots n d),
  is,
  append_assoc done (slot_rows wanted cell n (slice_index_or slots n d)) (rows_of wanted cell (n + 1)
      (drop (n + 1) slots))
      ∙ ap (λ rows. done ++ rows) (sym (at_drop_more (rows_of wanted cell n) slots n d within)) ∙ all,
)
