-- A walk over the options of a block finds what the definition has.
use Rattle.std.proofs.Common.{◌≡◌, ℕ, zero, suc, ◌+◌, ◌-◌, ◌≤◌, List, [], ◌∷◌, length, take, drop, refl, sym, ap, ◌∙◌}
use Rattle.std.proofs.Common.{arith, true, false, Some, None}
use Rattle.std.specs.Prelude.{◌==◌, if◌then◌else◌}
use Rattle.std.proofs.lemmas.List.{length-drop}
use Rattle.gsmtap.specs.Blocks.{filled_up, is_option, option_in, option_within}
use Rattle.gsmtap.specs.File.{half_in}
use Rattle.gsmtap.specs.declared.file.OctetOrder.{OctetOrder}

-- what follows an option
after : OctetOrder → List ℕ → List ℕ
after order octets = drop (4 + filled_up (half_in order (drop 2 octets))) octets

shorter : (order : OctetOrder) (octets : List ℕ) (most : ℕ) → length octets ≤ suc most
    → length (after order octets) ≤ most
unfolding after
shorter order octets most few =
    let left : length (drop (4 + filled_up (half_in order (drop 2 octets))) octets)
    ≡ length octets - (4 + filled_up (half_in order (drop 2 octets))) =
    length-drop (4 + filled_up (half_in order (drop 2 octets))) octets in
    omega (arith, left, few)

-- a walk of as many options as there are octets is long enough
enough : (j k : ℕ) (order : OctetOrder) (code : ℕ) (octets : List ℕ) → length octets ≤ j → length octets ≤ k →
    option_within j order code octets ≡ option_within k order code octets
unfolding after option_within
enough zero zero order code octets hj hk = refl
enough zero (suc k) order code [] hj hk = refl
enough zero (suc k) order code (n ∷ octets) hj hk = absurd (omega arith)
enough (suc j) zero order code [] hj hk = refl
enough (suc j) zero order code (n ∷ octets) hj hk = absurd (omega arith)
enough (suc j) (suc k) order code octets hj hk =
    ap (λ it. if is_option order octets
    then (if half_in order octets == code then Some (take (half_in order (drop 2 octets)) (drop 4 octets)) else it)
    else None)
    (enough j k order code (after order octets) (shorter order octets j hj) (shorter order octets k hk))

one_more : (order : OctetOrder) (code : ℕ) (octets : List ℕ) →
    option_in order code octets ≡ option_within (suc (length octets)) order code octets
one_more order code octets =
    enough (length octets) (suc (length octets)) order code octets (omega arith) (omega arith)

-- behind an option of another code stands what is looked for
pub next_option : (order : OctetOrder) (code : ℕ) (octets : List ℕ) → is_option order octets ≡ true →
    (half_in order octets == code) ≡ false →
    option_in order code (drop (4 + filled_up (half_in order (drop 2 octets))) octets) ≡ option_in order code octets
unfolding after option_within
next_option order code octets is other =
    enough (length (after order octets)) (length octets) order code (after order octets) (omega arith)
    (shorter order octets (length octets) (omega arith))
    ∙ sym (one_more order code octets ∙ rw (is, other) refl)

-- the option that is looked for
pub this_option : (order : OctetOrder) (code : ℕ) (octets : List ℕ) → is_option order octets ≡ true →
    (half_in order octets == code) ≡ true →
    option_in order code octets ≡ Some (take (half_in order (drop 2 octets)) (drop 4 octets))
unfolding option_within
this_option order code octets is same = one_more order code octets ∙ rw (is, same) refl

-- no option is left
pub no_option : (order : OctetOrder) (code : ℕ) (octets : List ℕ) → is_option order octets ≡ false →
    option_in order code octets ≡ None
unfolding option_within
no_option order code octets isnt = one_more order code octets ∙ rw isnt refl
