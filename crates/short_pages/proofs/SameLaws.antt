-- Without a short page the slots are as they are.
use Rattle.std.proofs.Common.{◌≡◌, Bool, true, false, ℕ, List, [], ◌∷◌, ◌++◌, refl, ap, ◌∙◌}
use Rattle.std.specs.Prelude.{◌&&◌}
use Rattle.std.specs.List.{AllByRecursion}
use Rattle.std.proofs.lemmas.Bool.{ne_eqb}
use Rattle.handset.specs.Reception.{block_type, shown_in}
use Rattle.short_pages.specs.Slots.{completed, completed_slot}
use Rattle.short_pages.specs.Laws.{EndsNoShortPage, WithoutShortPagesTheSame}

and-false : (b : Bool) → (b && false) ≡ false
and-false true = refl
and-false false = refl

-- a slot without the last block of a short page has none
same-slot : (a b c d : List ℕ) → EndsNoShortPage a → EndsNoShortPage b → EndsNoShortPage c
    → completed_slot (a ∷ b ∷ c ∷ d ∷ []) ≡ a ∷ b ∷ c ∷ d ∷ []
same-slot a b c d first second third =
    simp (
      ne_eqb (block_type a) 0x30 first.0,
      ne_eqb (block_type b) 0x31 second.1,
      ne_eqb (block_type c) 0x32 third.2,
      and-false,
    ) refl

same-blocks : (blocks : List (List ℕ)) → AllByRecursion EndsNoShortPage blocks → completed blocks ≡ blocks
same-blocks [] none = refl
same-blocks (a ∷ []) none = refl
same-blocks (a ∷ b ∷ []) none = refl
same-blocks (a ∷ b ∷ c ∷ []) none = refl
same-blocks (a ∷ b ∷ c ∷ d ∷ rest) none =
    ap (λ slot. slot ++ completed rest) (same-slot a b c d none.0 none.1.0 none.1.1.0)
    ∙ ap (λ more. a ∷ b ∷ c ∷ d ∷ more) (same-blocks rest none.1.1.1.1)

-- so they show the same
pub without_short_pages_the_same : WithoutShortPagesTheSame
without_short_pages_the_same blocks none = ap shown_in (same-blocks blocks none)
