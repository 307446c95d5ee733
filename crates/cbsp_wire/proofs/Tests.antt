-- Tests that are joined.
use Rattle.std.proofs.Common.{◌≡◌, Bool, true, false, List, [], ◌∷◌, refl}
use Rattle.std.specs.Prelude.{◌&&◌, not}
use Rattle.std.specs.List.{AllByRecursion, list_all}
use Rattle.cbsp_wire.specs.declared.message.message_type.Presence.{Presence}
use Rattle.cbsp_wire.specs.declared.message.message_type.Presence.TheVariants as presences
use Rattle.cbsp_wire.specs.Range.{is_nothing, is_there_if}

-- both parts of a test that passes
pub and_parts : (a b : Bool) → (a && b) ≡ true → (a ≡ true) × (b ≡ true)
and_parts true true h = (refl, refl)
and_parts true false h = absurd cc
and_parts false b h = absurd cc

-- a test whose parts pass
pub and_both : (a b : Bool) → a ≡ true → b ≡ true → (a && b) ≡ true
and_both a b ha hb = rw (ha, hb) refl

-- a negated test that passes
pub not_true : (a : Bool) → not a ≡ true → a ≡ false
not_true true h = absurd cc
not_true false h = refl

-- a test of each element
pub list_all-every : {X : Type 0} (p : X → Bool) (xs : List X) → AllByRecursion (λ x. p x ≡ true) xs
    → list_all p xs ≡ true
list_all-every p [] h = refl
list_all-every p (x ∷ xs) h = and_both (p x) (list_all p xs) h.0 (list_all-every p xs h.1)

-- a test of a list that passes, at its first item and at the others
pub list_all-parts : {X : Type 0} (p : X → Bool) (x : X) (xs : List X) → list_all p (x ∷ xs) ≡ true
    → (p x ≡ true) × (list_all p xs ≡ true)
list_all-parts p x xs h = and_parts (p x) (list_all p xs) h

-- something is there
pub there_from : {X : Type 0} (presence : Presence) (xs : List X) → is_nothing xs ≡ false
    → is_there_if presence xs ≡ true
there_from presences.Mandatory [] h = absurd cc
there_from presences.Mandatory (x ∷ xs) h = refl
there_from presences.Optional xs h = refl
there_from presences.Absent xs h = refl
