-- The lines of a table of loads are the changes of these loads.
use Rattle.std.proofs.Common.{◌≡◌, ◌∙◌, ℕ, zero, suc, ◌-◌, ◌<◌, true, false, Bool, List, ap, arith, inl, inr, refl}
use Rattle.std.proofs.Common.{sym}
use Rattle.std.specs.Prelude.{◌==◌, ◌||◌, not, slice_index}
use Rattle.std.proofs.lemmas.Bool.{cases_Bool, eq-eqb, eqb-true, false≢true}
use Rattle.std.proofs.lemmas.List.FromFn.{get_or-map-range_with_len}
use Rattle.bsc_table.specs.Claim.{claimed_at}
use Rattle.bsc_table.specs.Record.{Record, claims_in}
use Rattle.chart.specs.Facts.{fullest_in}
use Rattle.chart.specs.Laws.{FullestHasMost, IsFullest}
use Rattle.chart.specs.Load.{all_loads}
use Rattle.cell_loads.specs.Laws.{FullestHasALine, LinesAreChanges}
use Rattle.cell_loads.specs.LoadsText.{is_change}

-- a load in the list of all
load_is : (r : Record) (slot : ℕ) → slot < r.slots
    → slice_index (all_loads r) slot ≡ claimed_at (claims_in r.log) slot
load_is r slot within =
    get_or-map-range_with_len (claimed_at (claims_in r.log)) 0 r.slots slot slot 0 within (omega arith)

-- a slot that isn't the first has a line exactly if its load isn't that of the slot before
later : (s : ℕ) → (suc s == 0) ≡ false
later s = grind arith

further : (loads : List ℕ) (s : ℕ)
    → is_change loads (suc s) ≡ not (slice_index loads (suc s) == slice_index loads (suc s - 1))
further loads s =
    ap (λ (first : Bool). first || not (slice_index loads (suc s) == slice_index loads (suc s - 1))) (later s)

-- where nothing changes there is a slot before, with the same load
is_same : (loads : List ℕ) (slot : ℕ) → is_change loads slot ≡ false
    → (0 < slot) × (slice_index loads slot ≡ slice_index loads (slot - 1))
is_same loads zero is = absurd (false≢true (sym is))
is_same loads (suc s) is = elim (cases_Bool (slice_index loads (suc s) == slice_index loads (suc s - 1))) [
  | inl same ↦ (omega arith, eqb-true (slice_index loads (suc s)) (slice_index loads (suc s - 1)) same)
  | inr other ↦ absurd (false≢true (sym is ∙ further loads s ∙ ap not other))
]

-- where something does, and there is a slot before, it has another one
is_other : (loads : List ℕ) (slot : ℕ) → is_change loads slot ≡ true → 0 < slot
    → slice_index loads slot ≡ slice_index loads (slot - 1) → ⊥
is_other loads zero is some same = absurd (omega (arith, some))
is_other loads (suc s) is some same =
    false≢true
    (sym (ap not (eq-eqb (slice_index loads (suc s)) (slice_index loads (suc s - 1)) same)) ∙ sym (further loads s)
    ∙ is)

-- and so it does where the slot before, if there is one, has another one
changes : (loads : List ℕ) (slot : ℕ)
    → (0 < slot → slice_index loads slot ≡ slice_index loads (slot - 1) → ⊥)
    → is_change loads slot ≡ true
changes loads zero other = refl
changes loads (suc s) other =
    elim (cases_Bool (slice_index loads (suc s) == slice_index loads (suc s - 1))) [
      | inl same ↦ absurd
          (other (omega arith) (eqb-true (slice_index loads (suc s)) (slice_index loads (suc s - 1)) same))
      | inr differs ↦ further loads s ∙ ap not differs
    ]

-- so the lines are the changes of what is reserved
pub lines_are_changes : LinesAreChanges
lines_are_changes r slot within = (same, other)
  where
    here : slice_index (all_loads r) slot ≡ claimed_at (claims_in r.log) slot
    here = load_is r slot within

    before : slice_index (all_loads r) (slot - 1) ≡ claimed_at (claims_in r.log) (slot - 1)
    before = load_is r (slot - 1) (omega (arith, within))

    same : is_change (all_loads r) slot ≡ false
        → (0 < slot) × (claimed_at (claims_in r.log) slot ≡ claimed_at (claims_in r.log) (slot - 1))
    same is = let both = is_same (all_loads r) slot is in (both.0, sym here ∙ both.1 ∙ before)

    other : is_change (all_loads r) slot ≡ true → 0 < slot
        → claimed_at (claims_in r.log) slot ≡ claimed_at (claims_in r.log) (slot - 1) → ⊥
    other is some equal = is_other (all_loads r) slot is some (here ∙ equal ∙ sym before)

-- and the slot with the greatest of all loads has one: each before it has less
pub fullest_has_a_line : FullestHasMost → FullestHasALine
fullest_has_a_line most r some = changes (all_loads r) (fullest_in r).slot differs
  where
    is : IsFullest r (fullest_in r)
    is = most r some

    differs : 0 < (fullest_in r).slot
        → slice_index (all_loads r) (fullest_in r).slot ≡ slice_index (all_loads r) ((fullest_in r).slot - 1) → ⊥
    differs later equal =
        let less : claimed_at (claims_in r.log) ((fullest_in r).slot - 1)
        < claimed_at (claims_in r.log) (fullest_in r).slot =
        is.first ((fullest_in r).slot - 1) (omega (arith, later)) in
        let same : claimed_at (claims_in r.log) (fullest_in r).slot
        ≡ claimed_at (claims_in r.log) ((fullest_in r).slot - 1) =
        sym (load_is r (fullest_in r).slot is.within)
        ∙ equal
        ∙ load_is r ((fullest_in r).slot - 1) (omega (arith, is.within)) in
        omega (arith, less, same)
