-- The elements of this project's own messages have the sizes that they have on the link.
use Rattle.std.proofs.Common.{◌≡◌, ℕ, Bool, true, false, eqb, List, [], ◌∷◌, ◌++◌, Some, refl, sym, ap}
use Rattle.std.proofs.Common.{subst}
use Rattle.std.proofs.Common.{◌∙◌, arith}
use Rattle.std.specs.List.{AllByRecursion}
use Rattle.std.proofs.lemmas.Bool.{eqb-true}
use Rattle.cbsp_wire.specs.declared.message.message_type.MessageType.{MessageType}
use Rattle.cbsp_wire.specs.declared.message.message_type.Presence.TheVariants as presences
use Rattle.cbsp_wire.specs.Element.{Element, octets_of_elements}
use Rattle.cbsp_wire.specs.Table as own
use Rattle.cbsp_wire.specs.Table.{presence_of}
use Rattle.cbsp_wire.specs.Meaning.{IsOf}
use Rattle.cbsp_wire.proofs.Walks.{size_of-append}
use Rattle.cbsp_link.specs.Element.{table, size_of}
use Rattle.cbsp_link.proofs.Parts.{IsPart, Sized, one_part, no_part, parts}

-- the two tables agree on an element
abbrev Agree : ℕ → List ℕ → Type 0
Agree n octets = size_of n octets ≡ Some (own.size_of n octets)

rows : (octets : List ℕ)
    → Agree 14 octets × Agree 3 octets × Agree 2 octets × Agree 9 octets × Agree 8 octets × Agree 4 octets
    × Agree 18 octets × Agree 5 octets × Agree 6 octets × Agree 7 octets × Agree 19 octets × Agree 12 octets
    × Agree 1 octets
unfolding size_of table own.size_of own.table
rows octets = (refl, refl, refl, refl, refl, refl, refl, refl, refl, refl, refl, refl, refl)

by : (k n : ℕ) (octets : List ℕ) → Agree k octets → (eqb k n ≡ false → Agree n octets) → Agree n octets
by k n octets agree others = by_test (eqb k n) refl where
  by_test : (b : Bool) → eqb k n ≡ b → Agree n octets
  by_test true is = subst (λ (j : ℕ). Agree j octets) (eqb-true k n is) agree
  by_test false is = others is

absent : (t : MessageType) (n : ℕ) → eqb 14 n ≡ false → eqb 3 n ≡ false → eqb 2 n ≡ false → eqb 9 n ≡ false
    → eqb 8 n ≡ false → eqb 4 n ≡ false → eqb 18 n ≡ false → eqb 5 n ≡ false → eqb 6 n ≡ false → eqb 7 n ≡ false
    → eqb 19 n ≡ false → eqb 12 n ≡ false → eqb 1 n ≡ false → presence_of t n ≡ presences.Absent
unfolding presence_of own.table
absent t n h1 h2 h3 h4 h5 h6 h7 h8 h9 h10 h11 h12 h13 =
    rw (h1, h2, h3, h4, h5, h6, h7, h8, h9, h10, h11, h12, h13) refl

agree : (t : MessageType) (n : ℕ) (octets : List ℕ) → (presence_of t n ≡ presences.Absent → ⊥) → Agree n octets
agree t n octets known =
    let r = rows octets in
    by 14 n octets r.0 λ h1.
    by 3 n octets r.1 λ h2.
    by 2 n octets r.2 λ h3.
    by 9 n octets r.3 λ h4.
    by 8 n octets r.4 λ h5.
    by 4 n octets r.5 λ h6.
    by 18 n octets r.6 λ h7.
    by 5 n octets r.7 λ h8.
    by 6 n octets r.8 λ h9.
    by 7 n octets r.9 λ h10.
    by 19 n octets r.10 λ h11.
    by 12 n octets r.11 λ h12.
    by 1 n octets r.12 λ h13.
    absurd (known (absent t n h1 h2 h3 h4 h5 h6 h7 h8 h9 h10 h11 h12 h13))

sized : (t : MessageType) (e : Element) → IsOf t e → Sized e.number e.body
sized t e is rest =
    agree t e.number (e.body ++ rest) is.known
    ∙ ap (λ (n : ℕ). Some n) (size_of-append e.number e.body rest (omega (arith, is.sized)) ∙ sym is.sized)

-- the octets of elements of this project's own messages are these elements
pub elements_part : (t : MessageType) (es : List Element) → AllByRecursion (IsOf t) es
    → IsPart (octets_of_elements es) es
elements_part t [] is = no_part
elements_part t (e ∷ es) is =
    parts (e.number ∷ e.body) (octets_of_elements es) (e ∷ []) es (one_part e.number e.body (sized t e is.0))
    (elements_part t es is.1)
