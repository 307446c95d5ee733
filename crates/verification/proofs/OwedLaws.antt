-- The broadcasts that are owed are the first ones.
use Rattle.std.proofs.Common.{◌≡◌, ℕ, ◌+◌, ◌≤◌, Bool, false, Option, Some, None, List, [], ◌∷◌, ◌++◌}
use Rattle.std.proofs.Common.{zero, suc, refl, ◌∙◌, ap, arith}
use Rattle.std.specs.Prelude.{◌&&◌, ◌||◌, ◌==◌, nat_le, nat_lt, not, if◌then◌else◌}
use Rattle.std.specs.List.{flat_map, range_with_len}
use Rattle.std.proofs.lemmas.Bool.Decides.{nat_tests}
use Rattle.std.proofs.lemmas.List.Concat.{flat_map-cons}
use Rattle.verification.specs.declared.difference.Difference.{Difference}
use Rattle.verification.specs.declared.difference.Kind.TheVariants as kinds
use Rattle.verification.specs.declared.judged.JudgedPage.{JudgedPage}
use Rattle.verification.specs.Asked.{AskedMessage}
use Rattle.verification.specs.Difference.{broadcast_difference, difference_of, due_slot, is_by, is_owed, is_whole}

-- a later slot fails each bound that an earlier one fails
falls : (slots d e j broadcasts : ℕ) (stop : Option ℕ) → d ≤ e →
    (nat_le d slots && (is_by stop d && ((broadcasts == 0) || nat_lt j broadcasts))) ≡ false →
    (nat_le e slots && (is_by stop e && ((broadcasts == 0) || nat_lt (j + 1) broadcasts))) ≡ false
falls slots d e j broadcasts None up fails = grind (arith, nat_tests)
falls slots d e j broadcasts (Some stop) up fails = grind (arith, nat_tests)

owed-falls : (slots : ℕ) (a : AskedMessage) (j : ℕ) → is_owed slots a j ≡ false → is_owed slots a (j + 1) ≡ false
owed-falls slots a j fails =
    let up : due_slot a j ≤ due_slot a (j + 1) = omega arith in
    falls slots (due_slot a j) (due_slot a (j + 1)) j a.broadcasts a.stop up fails

not_owed : (owed : Bool) (rest : Bool) (d : Difference) → owed ≡ false →
    (if owed && rest then d ∷ [] else []) ≡ []
not_owed owed rest d fails = ap (λ (x : Bool). if x && rest then d ∷ [] else []) fails

-- so after one that isn't owed there are no differences
pub owed-none : (slots : ℕ) (a : AskedMessage) (pages : List JudgedPage) (j n : ℕ) → is_owed slots a j ≡ false →
    flat_map (broadcast_difference slots a pages) (range_with_len j n) ≡ []
owed-none slots a pages j zero fails = refl
owed-none slots a pages j (suc n) fails =
    flat_map-cons (broadcast_difference slots a pages) j (range_with_len (j + 1) n)
    ∙ ap (λ ds. ds ++ flat_map (broadcast_difference slots a pages) (range_with_len (j + 1) n))
    (not_owed (is_owed slots a j) (not (is_whole a pages j)) (difference_of a (kinds.NotWhole j) (due_slot a j)) fails)
    ∙ owed-none slots a pages (j + 1) n (owed-falls slots a j fails)
