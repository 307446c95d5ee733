-- Each reader of what is at the front takes the first octet at least.
use Rattle.std.proofs.Common.{◌≡◌, ℕ, ◌≤◌, Bool, true, false, cond, ltb, List, [], ◌∷◌, length, drop, take, Option}
use Rattle.std.proofs.Common.{Some, None, Ok, Err, refl, arith}
use Rattle.std.proofs.lemmas.List.{length-drop}
use Rattle.cbsp_wire.specs.Element.{Element}
use Rattle.cbsp_link.specs.declared.fault.LinkFault.TheVariants.{CutElement}
use Rattle.cbsp_link.specs.declared.items.Naming.{Naming}
use Rattle.cbsp_link.specs.declared.items.Naming.TheVariants as namings
use Rattle.cbsp_link.specs.declared.message.LinkCell.{LinkCell}
use Rattle.cbsp_link.specs.declared.message.LinkCount.{LinkCount}
use Rattle.cbsp_link.specs.Outcome.{or_wrong}
use Rattle.cbsp_link.specs.Element.{size_of, element_of_size, element_at}
use Rattle.cbsp_link.specs.Item.{naming_of, long_cell_at, cell_at, cell_item, count_after, count_item, failure_after}
use Rattle.cbsp_link.specs.Item.{failure_by, failure_item}
use Rattle.cbsp_link.proofs.Runs.{Takes}

of_size : (n : ℕ) (o : Option ℕ) (octets : List ℕ) (x : Element × List ℕ) → element_of_size n o octets ≡ Ok x
    → length x.1 ≤ length octets
of_size n None octets x e = absurd cc
of_size n (Some size) octets x e = chosen (ltb (length octets) size) e where
  chosen : (b : Bool)
      → cond b (Err (CutElement n)) (Ok (record { number = n; body = take size octets }, drop size octets)) ≡ Ok x
      → length x.1 ≤ length octets
  chosen true h = absurd cc
  chosen false h =
      let rest : drop size octets ≡ x.1 = cc in
      rw (← rest) (omega (arith, length-drop size octets))

-- an element takes its identifier at least
pub element_takes : Takes element_at
unfolding element_at
element_takes n octets x e = of_size n (size_of n octets) octets x e

-- what is wrong where nothing is found
found : {X : Type 0} (n : ℕ) (o : Option (X × List ℕ)) (x : X × List ℕ) → or_wrong n o ≡ Ok x → o ≡ Some x
found n None x e = absurd cc
found n (Some y) x e = cc

-- a cell takes octets or none
pub long_cell_takes : (naming : Naming) (a : ℕ) (octets : List ℕ) (x : LinkCell × List ℕ)
    → long_cell_at naming (a ∷ octets) ≡ Some x → length x.1 ≤ length octets
long_cell_takes namings.Global a [] x e = absurd cc
long_cell_takes namings.Global a (b ∷ []) x e = absurd cc
long_cell_takes namings.Global a (b ∷ c ∷ []) x e = absurd cc
long_cell_takes namings.Global a (b ∷ c ∷ d ∷ []) x e = absurd cc
long_cell_takes namings.Global a (b ∷ c ∷ d ∷ f ∷ []) x e = absurd cc
long_cell_takes namings.Global a (b ∷ c ∷ d ∷ f ∷ g ∷ []) x e = absurd cc
long_cell_takes namings.Global a (b ∷ c ∷ d ∷ f ∷ g ∷ h ∷ rest) x e =
    let r : rest ≡ x.1 = cc in rw (← r) (omega arith)
long_cell_takes namings.LacCi a [] x e = absurd cc
long_cell_takes namings.LacCi a (b ∷ []) x e = absurd cc
long_cell_takes namings.LacCi a (b ∷ c ∷ []) x e = absurd cc
long_cell_takes namings.LacCi a (b ∷ c ∷ d ∷ rest) x e = let r : rest ≡ x.1 = cc in rw (← r) (omega arith)
long_cell_takes namings.Ci a [] x e = absurd cc
long_cell_takes namings.Ci a (b ∷ rest) x e = let r : rest ≡ x.1 = cc in rw (← r) (omega arith)
long_cell_takes namings.Nothing a octets x e = absurd cc
long_cell_takes namings.Area a [] x e = absurd cc
long_cell_takes namings.Area a (b ∷ []) x e = absurd cc
long_cell_takes namings.Area a (b ∷ c ∷ []) x e = absurd cc
long_cell_takes namings.Area a (b ∷ c ∷ d ∷ []) x e = absurd cc
long_cell_takes namings.Area a (b ∷ c ∷ d ∷ f ∷ rest) x e = let r : rest ≡ x.1 = cc in rw (← r) (omega arith)
long_cell_takes namings.Lac a [] x e = absurd cc
long_cell_takes namings.Lac a (b ∷ rest) x e = let r : rest ≡ x.1 = cc in rw (← r) (omega arith)
long_cell_takes namings.All a octets x e = absurd cc

-- no octets name no cell
pub no_cell : (naming : Naming) (x : LinkCell × List ℕ) → long_cell_at naming [] ≡ Some x → ⊥
no_cell namings.Global x e = cc
no_cell namings.LacCi x e = cc
no_cell namings.Ci x e = cc
no_cell namings.Nothing x e = cc
no_cell namings.Area x e = cc
no_cell namings.Lac x e = cc
no_cell namings.All x e = cc

long_fits : (naming : Naming) (octets : List ℕ) (x : LinkCell × List ℕ) → long_cell_at naming octets ≡ Some x
    → length x.1 ≤ length octets
long_fits naming [] x e = absurd (no_cell naming x e)
long_fits naming (a ∷ octets) x e = omega (arith, long_cell_takes naming a octets x e)

-- a cell is followed by no more octets than it stands in
pub cell_fits : (naming : Naming) (octets : List ℕ) (x : LinkCell × List ℕ) → cell_at naming octets ≡ Some x
    → length x.1 ≤ length octets
unfolding cell_at
cell_fits namings.Global octets x e = long_fits namings.Global octets x e
cell_fits namings.LacCi octets x e = long_fits namings.LacCi octets x e
cell_fits namings.Ci octets x e = long_fits namings.Ci octets x e
cell_fits namings.Nothing octets x e = let r : octets ≡ x.1 = cc in rw (← r) (omega arith)
cell_fits namings.Area octets x e = long_fits namings.Area octets x e
cell_fits namings.Lac octets x e = long_fits namings.Lac octets x e
cell_fits namings.All octets x e = let r : octets ≡ x.1 = cc in rw (← r) (omega arith)

-- nothing is named by no octets, but what takes none
pub no_count : (naming : Naming) (x : LinkCount × List ℕ) → count_after (cell_at naming []) ≡ Some x → ⊥
unfolding cell_at
no_count namings.Global x e = cc
no_count namings.LacCi x e = cc
no_count namings.Ci x e = cc
no_count namings.Nothing x e = cc
no_count namings.Area x e = cc
no_count namings.Lac x e = cc
no_count namings.All x e = cc

-- an item of a cell list takes an octet at least
pub cell_takes : (naming : Naming) → Takes (cell_item naming)
cell_takes naming a octets x e = long_cell_takes naming a octets x (found 4 (long_cell_at naming (a ∷ octets)) x e)

-- an item of a completed list takes an octet at least
pub count_takes : (naming : Naming) → Takes (count_item naming)
count_takes naming a octets x e =
    counted (cell_at naming (a ∷ octets)) refl (found 8 (count_after (cell_at naming (a ∷ octets))) x e) where
      counted : (o : Option (LinkCell × List ℕ)) → cell_at naming (a ∷ octets) ≡ o → count_after o ≡ Some x
          → length x.1 ≤ length octets
      counted None is h = absurd cc
      counted (Some (cell, [])) is h = absurd cc
      counted (Some (cell, b ∷ [])) is h = absurd cc
      counted (Some (cell, b ∷ c ∷ [])) is h = absurd cc
      counted (Some (cell, b ∷ c ∷ d ∷ rest)) is h =
          let r : rest ≡ x.1 = cc in
          rw (← r) (omega (arith, cell_fits naming (a ∷ octets) (cell, b ∷ c ∷ d ∷ rest) is))

-- an item of a failure list takes an octet at least
pub failure_takes : Takes failure_item
failure_takes d octets x e =
    named (naming_of d) (found 9 (failure_by (naming_of d) octets) x e) where
      failed : (naming : Naming) (o : Option (LinkCell × List ℕ)) → cell_at naming octets ≡ o
          → failure_after o ≡ Some x → length x.1 ≤ length octets
      failed naming None is h = absurd cc
      failed naming (Some (cell, [])) is h = absurd cc
      failed naming (Some (cell, b ∷ rest)) is h =
          let r : rest ≡ x.1 = cc in
          rw (← r) (omega (arith, cell_fits naming octets (cell, b ∷ rest) is))

      named : (o : Option Naming) → failure_by o octets ≡ Some x → length x.1 ≤ length octets
      named None h = absurd cc
      named (Some naming) h = failed naming (cell_at naming octets) refl h
