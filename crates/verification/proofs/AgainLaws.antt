-- Pages that come again, and broadcasts after which no page comes.
use Rattle.std.proofs.Common.{◌≡◌, ◌+◌, ◌<◌, ◌≤◌, ◌∙◌, ℕ, zero, suc, Bool, true, false, Option, Some, List, []}
use Rattle.std.proofs.Common.{◌∷◌, ◌++◌, ap, arith, cond, drop, filter, get_or, length, map, refl, sym, take}
use Rattle.std.specs.Prelude.{◌&&◌, nat_le, nat_lt, if◌then◌else◌}
use Rattle.std.specs.List.{flat_map, range_with_len}
use Rattle.std.specs.Option.{option_to_list}
use Rattle.std.proofs.lemmas.Bool.Decides.{nat_tests}
use Rattle.std.proofs.lemmas.List.{take_more}
use Rattle.std.proofs.lemmas.List.Concat.{flat_map-cons}
use Rattle.verification.specs.declared.difference.Kind.TheVariants as kinds
use Rattle.verification.specs.declared.judged.JudgedPage.{JudgedPage}
use Rattle.verification.specs.AgainSteps.{is_from}
use Rattle.verification.specs.Asked.{AskedMessage}
use Rattle.verification.specs.Difference.{again_after, again_difference, comes_again, difference_of, due_slot}
use Rattle.verification.specs.Difference.{is_in_time, is_requested, release_slot}
use Rattle.verification.proofs.ListLaws.{dropped}

-- the front of a list with its next item is the next front
pub fronted : {X : Type 0} (xs : List X) (i : ℕ) (x : X) → i < length xs → x ≡ get_or xs i x →
    take i xs ++ x ∷ [] ≡ take (i + 1) xs
fronted xs i x within is = sym (take_more xs i x within ∙ ap (λ y. take i xs ++ y ∷ []) (sym is))

-- the first page from a place on that comes again
pub again-next : (stop : Option ℕ) (pages : List JudgedPage) (i : ℕ) (page : JudgedPage) → i < length pages →
    page ≡ get_or pages i page →
    again_after stop (take i pages) (drop i pages)
    ≡ cond (comes_again stop (take i pages) page) (Some page.slot)
    (again_after stop (take (i + 1) pages) (drop (i + 1) pages))
again-next stop pages i page within is =
    ap (again_after stop (take i pages)) (dropped pages i page within is)
    ∙ ap (λ before. cond (comes_again stop (take i pages) page) (Some page.slot)
    (again_after stop before (drop (i + 1) pages))) (fronted pages i page within is)

-- where no page comes from a broadcast on, none comes in its time, and none from the next one on
no-cons : {X : Type 0} (here : Bool) (x : X) (xs : List X) → cond here (x ∷ xs) xs ≡ [] → (here ≡ false) × (xs ≡ [])
no-cons true x xs none = cc
no-cons false x xs none = (refl, none)

in-time-none : (release due slot : ℕ) → nat_le release slot ≡ false → (nat_le release slot && nat_lt slot due) ≡ false
in-time-none release due slot early = ap (λ (x : Bool). x && nat_lt slot due) early

filter-none : {X : Type 0} (p q : X → Bool) (xs : List X) → ((x : X) → p x ≡ false → q x ≡ false) →
    filter p xs ≡ [] → filter q xs ≡ []
filter-none p q [] fails none = refl
filter-none p q (x ∷ xs) fails none =
    let parts = no-cons (p x) x (filter p xs) none in
    ap (λ (here : Bool). cond here (x ∷ filter q xs) (filter q xs)) (fails x parts.0)
    ∙ filter-none p q xs fails parts.1

later-none : (release later slot : ℕ) → release ≤ later → nat_le release slot ≡ false → nat_le later slot ≡ false
later-none release later slot up early = grind (arith, nat_tests)

from-next : (a : AskedMessage) (j : ℕ) (pages : List JudgedPage) → filter (is_from a j) pages ≡ [] →
    filter (is_from a (j + 1)) pages ≡ []
from-next a j pages none =
    let up : release_slot a j ≤ release_slot a (j + 1) = omega arith in
    filter-none (is_from a j) (is_from a (j + 1)) pages
    (λ page early. later-none (release_slot a j) (release_slot a (j + 1)) page.slot up early) none

no-again : (a : AskedMessage) (j : ℕ) (pages : List JudgedPage) → filter (is_from a j) pages ≡ [] →
    again_difference a pages j ≡ []
no-again a j pages none =
    ap (λ (in_time : List JudgedPage). if is_requested a j
    then map (difference_of a (kinds.Again j)) (option_to_list (again_after a.stop [] in_time)) else [])
    (filter-none (is_from a j) (is_in_time a j) pages
    (λ page early. in-time-none (release_slot a j) (due_slot a j) page.slot early) none)
    ∙ either (is_requested a j)
  where
    either : (requested : Bool) → (if requested then map (difference_of a (kinds.Again j)) [] else []) ≡ []
    either true = refl
    either false = refl

-- so none comes again from there on
pub again-none : (a : AskedMessage) (pages : List JudgedPage) (j n : ℕ) → filter (is_from a j) pages ≡ [] →
    flat_map (again_difference a pages) (range_with_len j n) ≡ []
again-none a pages j zero none = refl
again-none a pages j (suc n) none =
    flat_map-cons (again_difference a pages) j (range_with_len (j + 1) n)
    ∙ ap (λ ds. ds ++ flat_map (again_difference a pages) (range_with_len (j + 1) n)) (no-again a j pages none)
    ∙ again-none a pages (j + 1) n (from-next a j pages none)
