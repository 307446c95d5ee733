-- What SCALE is divided by.
use Rattle.std.proofs.Common.{◌≡◌, ℕ, zero, suc, ◌*◌, ◌/◌, ◌%◌, ◌<◌, ◌≤◌, ◌==◌, Bool, true, false, cond, inl, inr, refl}
use Rattle.std.proofs.Common.{sym, ap, ◌∙◌, arith}
use Rattle.std.proofs.Math.Nat.{div-add-mod}
use Rattle.std.proofs.lemmas.Bool.{cases_eq, eqb-true, false≢true}
use Rattle.std.specs.Int.{div_ceil}
use Rattle.admission.specs.declared.measure.TheConstants.{SCALE}
use Rattle.admission.specs.Load.{load_of}
use Rattle.admission.proofs.Loads.{div_ceil-whole}

-- each number from 1 to n divides SCALE
abbrev all_divide : ℕ → Bool
all_divide zero = true
all_divide (suc n) = cond (SCALE % suc n == 0) (all_divide n) false

first_divides : (b c : Bool) → cond b c false ≡ true → b ≡ true
first_divides true c h = refl
first_divides false c h = absurd (false≢true h)

others_divide : (b c : Bool) → cond b c false ≡ true → c ≡ true
others_divide true c h = h
others_divide false c h = absurd (false≢true h)

divides_within : (n k : ℕ) → all_divide n ≡ true → k < n → SCALE % suc k ≡ 0
divides_within zero k all within = absurd (omega (arith, within))
divides_within (suc n) k all within =
    elim (cases_eq k n) [
      | inl last ↦
          ap (λ m. SCALE % suc m) last ∙ eqb-true (SCALE % suc n) 0
          (first_divides (SCALE % suc n == 0) (all_divide n) all)
      | inr before ↦
          divides_within n k (others_divide (SCALE % suc n == 0) (all_divide n) all) (omega (arith, within, before))
    ]

-- and so each period of up to 20 slots does
pub SCALE-divided : (period : ℕ) → 0 < period → period ≤ 20 → SCALE % period ≡ 0
SCALE-divided zero some few = absurd (omega (arith, some))
SCALE-divided (suc k) some few = divides_within 20 k refl (omega (arith, few))

-- a number that each of these divides is a multiple of SCALE, since SCALE's own factors divide it
pub SCALE-least : (other : ℕ) → 0 < other → ((period : ℕ) → 0 < period → period ≤ 20 → other % period ≡ 0)
    → SCALE ≤ other
SCALE-least other some divided =
    let sixteen = divided 16 (omega arith) (omega arith) in
    let nine = divided 9 (omega arith) (omega arith) in
    let five = divided 5 (omega arith) (omega arith) in
    let seven = divided 7 (omega arith) (omega arith) in
    let eleven = divided 11 (omega arith) (omega arith) in
    let thirteen = divided 13 (omega arith) (omega arith) in
    let seventeen = divided 17 (omega arith) (omega arith) in
    let nineteen = divided 19 (omega arith) (omega arith) in
    omega (arith, some, sixteen, nine, five, seven, eleven, thirteen, seventeen, nineteen)

-- so that a load is exact
pub load_of-exact : (pages period : ℕ) → 0 < period → period ≤ 20 → load_of pages period * period ≡ SCALE * pages
load_of-exact pages period some few =
    let parts : ℕ = SCALE / period in
    let whole : SCALE ≡ parts * period = omega (arith, div-add-mod SCALE period, SCALE-divided period some few) in
    let all : SCALE * pages ≡ (parts * pages) * period = ap (λ n. n * pages) whole ∙ omega arith in
    ap (λ n. div_ceil n period * period) all ∙ (ap (λ n. n * period) (div_ceil-whole (parts * pages) period some)
    ∙ sym all)
