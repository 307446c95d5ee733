-- The loads at the slots of a run.
use Rattle.std.proofs.Common.{◌≡◌, ◌<◌, ◌≤◌, ◌∙◌, ℕ, Bool, if◌then◌else◌}
use Rattle.std.proofs.Common.{◌+◌, ◌-◌, ◌++◌, List, All, ap, ap₂, false, length, map, nat_eq, subst, sym}
use native.Mathlib.Omega.{arith}
use Rattle.std.specs.List.{flat_map, range_with_len}
use Rattle.std.proofs.lemmas.Grind.{get_or_default_zero}
use Rattle.std.proofs.lemmas.List.FromFn.{fill_by_all}
use Rattle.admission.specs.declared.measure.TheConstants.{SCALE}
use Rattle.bsc_table.specs.Room.{ClaimsFit}
use Rattle.bsc_table.specs.Claim.{Claim, claimed_at}
use Rattle.chart.proofs.RangeLaws.{drawn_on}
use Rattle.chart.specs.Load.{claimed_before, AreLoads}

-- the loads at all slots are a list
pub all_loads : (claims : List Claim) (loads : List ℕ) (slots : ℕ) → length loads ≡ slots → AreLoads claims loads
    → loads ≡ map (claimed_at claims) (range_with_len 0 slots)
all_loads claims loads slots long are =
    fill_by_all (claimed_at claims) loads slots 0 long (λ k inside. are k (subst (λ (n : ℕ). k < n) (sym long) inside))

-- and none is more than the whole cell
pub loads_fit : (claims : List Claim) (loads : List ℕ) → ClaimsFit claims → AreLoads claims loads
    → All (λ load. load ≤ SCALE) loads
loads_fit claims loads fit are k d inside =
    subst (λ (n : ℕ). n ≤ SCALE) (sym (get_or_default_zero loads k d inside ∙ are k inside)) (fit k)

-- what is drawn before the next slot
pub claimed_next : (from place : ℕ) (claims : List Claim)
    → claimed_at claims (from + place) ≡ claimed_before from claims (from + (place + 1))
claimed_next from place claims =
    let before : from + (place + 1) - 1 ≡ from + place = omega arith in
    let later : nat_eq (from + (place + 1)) from ≡ false = grind arith in
    ap (claimed_at claims) (sym before)
    ∙ ap (λ (first : Bool). if first then 0 else claimed_at claims (from + (place + 1) - 1)) (sym later)

-- the line that was drawn to a slot, and what is drawn after it
pub drawn_after : (f : ℕ → List ℕ) (from place long : ℕ) (page after whole : List ℕ)
    → place < long
    → after ≡ page ++ f (from + place)
    → page ++ flat_map f (range_with_len (from + place) (long - place)) ≡ whole
    → after ++ flat_map f (range_with_len (from + (place + 1)) (long - (place + 1))) ≡ whole
drawn_after f from place long page after whole within is so_far =
    let left : from + long - (from + place) ≡ long - place = omega (arith, within) in
    let next : from + (place + 1) ≡ from + place + 1 = omega arith in
    let rest : long - (place + 1) ≡ from + long - (from + place + 1) = omega (arith, within) in
    ap₂ (λ (first n : ℕ). after ++ flat_map f (range_with_len first n)) next rest
    ∙ drawn_on f (from + place) (from + long) page after whole (omega (arith, within)) is
    (ap (λ (n : ℕ). page ++ flat_map f (range_with_len (from + place) n)) left ∙ so_far)
