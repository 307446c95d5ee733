-- The rule between the counter's word and the views of all seats, and the steps of a seat.
use Rattle.std.specs.Prelude.{◌≡◌, ℕ, ◌+◌, ◌-◌, ◌<◌, ◌≤◌, min, List, [], ◌∷◌, ◌++◌}
use mathlib.Core.Option.{some}
use lib.ListN.{get_elem?}
use Rattle.atomic_table.specs.Table.{State, Me, Step}
use Rattle.tickets.specs.declared.view.View.{View}
use Rattle.tickets.specs.Draws.{times, numbers_below, all_parts, all_splits}

-- the sum over all views
abbrev pub total : (View → ℕ) → List View → ℕ
total of [] = 0
total of (v ∷ vs) = of v + total of vs

-- A view's answers of None and the splits that it may make are no more than its parts; a view without a part has drawn
-- nothing; and who was answered None found the word at the limit.
abbrev pub Fits : ℕ → ℕ → View → Type 0
Fits limit word v = (v.late + v.spare ≤ v.parts) × (v.parts ≡ 0 → v.drawn ≡ []) × (0 < v.late → limit ≤ word)

-- The views have 65 parts, and have drawn the numbers below the word, those below the limit alone, each once. Past the
-- limit the word has grown by the answers of None alone, so it can't wrap.
abbrev pub IsHandedOut : {S : Type 0} → ℕ → State S View → Type 0
IsHandedOut limit s = (word : ℕ) × (s.words ≡ word ∷ []) × (limit < 65536) × (total (λ v. v.parts) s.views ≡ all_parts)
    × ((x : ℕ) → total (λ v. times x v.drawn) s.views ≡ times x (numbers_below (min limit word)))
    × (word ≤ limit + total (λ v. v.late) s.views)
    × ((by : ℕ) (v : View) → get_elem? s.views by ≡ some v → Fits limit word v)

-- the first seat's view: every part, and 64 splits to make
abbrev pub first_view : ℕ → View
first_view limit = record { parts = all_parts; spare = all_splits; limit = limit; drawn = []; late = 0 }

abbrev pub numbered_view : View → ℕ → View
numbered_view v n =
    record { parts = v.parts; spare = v.spare; limit = v.limit; drawn = v.drawn ++ n ∷ []; late = v.late }

abbrev pub late_view : View → View
late_view v = record { parts = v.parts; spare = v.spare; limit = v.limit; drawn = v.drawn; late = v.late + 1 }

-- A draw adds the number that it found to its view, if that is below the limit; the view's numbers are all less.
-- Else it was too late.
abbrev pub Drew : {S : Type 0} → Step S → Me S View → ℕ → Me S View → Type 0
Drew step before found after =
    (found < before.0.limit
    → (after ≡ (numbered_view before.0 found, before.1)) × ((x : ℕ) → 0 < times x before.0.drawn → x < found))
    × (before.0.limit ≤ found → after ≡ (late_view before.0, before.1))

-- a split view keeps all but one part, and the new one has that part and has drawn nothing
abbrev pub kept_part : View → View
kept_part v = record { parts = v.parts - 1; spare = v.spare - 1; limit = v.limit; drawn = v.drawn; late = v.late }

abbrev pub new_part : View → View
new_part v = record { parts = 1; spare = 0; limit = v.limit; drawn = []; late = 0 }

-- the joiner's view has what both had, and the other is spent
abbrev pub joined_view : View → View → View
joined_view v w = record {
  parts = v.parts + w.parts;
  spare = v.spare + w.spare;
  limit = v.limit;
  drawn = v.drawn ++ w.drawn;
  late = v.late + w.late;
}

abbrev pub spent_view : View
spent_view = record { parts = 0; spare = 0; limit = 0; drawn = []; late = 0 }
