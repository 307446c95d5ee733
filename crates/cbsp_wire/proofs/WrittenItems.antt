-- What is written of a field is read as that field.
use Rattle.std.proofs.Common.{◌≡◌, ℕ, ◌+◌, ◌*◌, ◌/◌, ◌%◌, ◌<◌, true, false, eqb, eq-eqb, List, [], ◌∷◌, ◌++◌, length}
use Rattle.std.proofs.Common.{map, Option, Some, None, refl, ap, ◌∙◌, arith, length-append}
use Rattle.std.specs.Prelude.{not}
use Rattle.std.specs.List.{flat_map}
use Rattle.std.proofs.Math.Nat.{mul-mod_left}
use Rattle.std.proofs.lemmas.List.Concat.{flat_map-cons}
use Rattle.cbs_page.specs.declared.content.Content.{Content}
use Rattle.cbsp_wire.specs.declared.lists.item.Discriminator.{Discriminator}
use Rattle.cbsp_wire.specs.declared.lists.item.Discriminator.TheVariants as discriminators
use Rattle.cbsp_wire.specs.declared.message.Cell.{Cell}
use Rattle.cbsp_wire.specs.declared.message.Count.{Count}
use Rattle.cbsp_wire.specs.declared.message.Failure.{Failure}
use Rattle.cbsp_wire.specs.Value.{first_body_u16, first_body_octet, first_items, items_of, cell_at, count_at}
use Rattle.cbsp_wire.specs.Value.{failure_at}
use Rattle.cbsp_wire.specs.Value.{cells_in, counts_in, failures_in, content_of}
use Rattle.cbsp_wire.specs.Range.{is_nothing, failures_are_by_lac_and_ci, is_by_lac_and_ci, is_list_body}
use Rattle.cbsp_wire.specs.Range.{items_are_whole, first_passes}
use Rattle.cbsp_wire.specs.Written.{cell_octets, count_octets, failure_octets, number_bodies, octet_bodies, list_body}
use Rattle.cbsp_wire.specs.Written.{list_bodies, content_body}
use Rattle.cbsp_wire.proofs.Tests.{and_both}

whole : (n : ℕ) → n / 256 * 256 + n % 256 ≡ n
whole n = omega arith

-- a number that is written is read
pub first_body_u16-bodies : (o : Option ℕ) → first_body_u16 (number_bodies o) ≡ o
first_body_u16-bodies None = refl
first_body_u16-bodies (Some n) = ap (λ (k : ℕ). Some k) (whole n)

-- an octet that is written is read
pub first_body_octet-bodies : (o : Option ℕ) → first_body_octet (octet_bodies o) ≡ o
first_body_octet-bodies None = refl
first_body_octet-bodies (Some n) = refl

cell_again : (c : Cell) → cell_at (c.lac / 256) (c.lac % 256) (c.ci / 256) (c.ci % 256) ≡ c
cell_again c = rw (whole c.lac, whole c.ci) refl

-- cells that are written are read
pub cells_in-octets : (cs : List Cell) → cells_in (flat_map cell_octets cs) ≡ cs
cells_in-octets [] = refl
cells_in-octets (c ∷ cs) =
    ap cells_in (flat_map-cons cell_octets c cs)
    ∙ ap (λ (d : Cell). d ∷ cells_in (flat_map cell_octets cs)) (cell_again c)
    ∙ ap (λ (ds : List Cell). c ∷ ds) (cells_in-octets cs)

count_again : (c : Count)
    → count_at (c.cell.lac / 256) (c.cell.lac % 256) (c.cell.ci / 256) (c.cell.ci % 256)
    (c.number / 256) (c.number % 256) c.info ≡ c
count_again c = rw (cell_again c.cell, whole c.number) refl

-- completed broadcasts that are written are read
pub counts_in-octets : (cs : List Count) → counts_in (flat_map count_octets cs) ≡ cs
counts_in-octets [] = refl
counts_in-octets (c ∷ cs) =
    ap counts_in (flat_map-cons count_octets c cs)
    ∙ ap (λ (d : Count). d ∷ counts_in (flat_map count_octets cs)) (count_again c)
    ∙ ap (λ (ds : List Count). c ∷ ds) (counts_in-octets cs)

failure_again : (f : Failure)
    → failure_at (f.cell.lac / 256) (f.cell.lac % 256) (f.cell.ci / 256) (f.cell.ci % 256) f.cause ≡ f
failure_again f = rw (cell_again f.cell) refl

-- failures that are written are read
pub failures_in-octets : (fs : List Failure) → failures_in (flat_map failure_octets fs) ≡ fs
failures_in-octets [] = refl
failures_in-octets (f ∷ fs) =
    ap failures_in (flat_map-cons failure_octets f fs)
    ∙ ap (λ (g : Failure). g ∷ failures_in (flat_map failure_octets fs)) (failure_again f)
    ∙ ap (λ (gs : List Failure). f ∷ gs) (failures_in-octets fs)

-- the items of a list that is written are read
pub first_items-bodies : {X : Type 0} (discriminator : Discriminator) (octets : X → List ℕ)
    (items_in : List ℕ → List X) (xs : List X)
    → items_in (flat_map octets xs) ≡ xs
    → first_items discriminator items_in (list_bodies discriminator octets xs) ≡ xs
first_items-bodies discriminator octets items_in [] h = refl
first_items-bodies discriminators.Once octets items_in (x ∷ xs) h = h
first_items-bodies discriminators.Each octets items_in (x ∷ xs) h = h

-- contents that are written are read
pub contents-bodies : (cs : List Content) → map content_of (map content_body cs) ≡ cs
contents-bodies [] = refl
contents-bodies (c ∷ cs) = ap (λ (ds : List Content). c ∷ ds) (contents-bodies cs)

-- items of one size, one after the other
pub length-items : {X : Type 0} (octets : X → List ℕ) (size : ℕ) → ((x : X) → length (octets x) ≡ size) → (xs : List X)
    → length (flat_map octets xs) ≡ length xs * size
length-items octets size h [] = omega arith
length-items octets size h (x ∷ xs) =
    let cons : flat_map octets (x ∷ xs) ≡ octets x ++ flat_map octets xs = flat_map-cons octets x xs in
    let len : length (octets x ++ flat_map octets xs) ≡ length (octets x) + length (flat_map octets xs) =
    length-append (octets x) (flat_map octets xs) in
    ap length cons ∙ len ∙ rw (h x, length-items octets size h xs) (omega arith)

-- the sizes of items
pub cell_len : (c : Cell) → length (cell_octets c) ≡ 4
cell_len c = refl

-- a count takes 7 octets
pub count_len : (c : Count) → length (count_octets c) ≡ 7
count_len c = refl

-- a failure takes 6 octets
pub failure_len : (f : Failure) → length (failure_octets f) ≡ 6
failure_len f = refl

whole_items : (n size : ℕ) (items : List ℕ) → 0 < size → length items ≡ n * size → eqb (length items % size) 0 ≡ true
whole_items n size items h e = eq-eqb _ _ (rw e (mul-mod_left n size))

items_of-body : (discriminator : Discriminator) (items : List ℕ)
    → items_of discriminator (list_body discriminator items) ≡ items
items_of-body discriminators.Once items = refl
items_of-body discriminators.Each items = refl

some_octets : (o : List ℕ) → 0 < length o → is_nothing o ≡ false
some_octets [] pos = absurd (omega arith)
some_octets (a ∷ o) pos = refl

list_written : {X : Type 0} (discriminator : Discriminator) (octets : X → List ℕ) (size : ℕ) (x : X) (xs : List X)
    → ((y : X) → length (octets y) ≡ size) → 0 < size
    → is_by_lac_and_ci discriminator (list_body discriminator (flat_map octets (x ∷ xs))) ≡ true
    → is_list_body discriminator size (list_body discriminator (flat_map octets (x ∷ xs))) ≡ true
list_written discriminator octets size x xs len pos by_both =
    let items = flat_map octets (x ∷ xs) in
    let even = whole_items (length (x ∷ xs)) size items pos (length-items octets size len (x ∷ xs)) in
    let cons = ap length (flat_map-cons octets x xs) in
    let split = length-append (octets x) (flat_map octets xs) in
    let some : is_nothing items ≡ false = some_octets items (omega (arith, cons, split, len x, pos)) in
    let are : items_are_whole size items ≡ true =
    and_both (eqb (length items % size) 0) (not (is_nothing items)) even (rw some refl) in
    and_both (is_by_lac_and_ci discriminator (list_body discriminator items))
    (items_are_whole size (items_of discriminator (list_body discriminator items))) by_both
    (ap (λ (o : List ℕ). items_are_whole size o) (items_of-body discriminator items) ∙ are)

-- each failure that is written has its discriminator
failures_by_both : (fs : List Failure) → failures_are_by_lac_and_ci (flat_map failure_octets fs) ≡ true
failures_by_both [] = refl
failures_by_both (f ∷ fs) = ap failures_are_by_lac_and_ci (flat_map-cons failure_octets f fs) ∙ failures_by_both fs

-- the lists that are written are right
pub cells-right : (cs : List Cell)
    → first_passes (is_list_body discriminators.Once 4) (list_bodies discriminators.Once cell_octets cs) ≡ true
cells-right [] = refl
cells-right (c ∷ cs) = list_written discriminators.Once cell_octets 4 c cs cell_len (omega arith) refl

-- a list of counts that was written has the form of one
pub counts-right : (cs : List Count)
    → first_passes (is_list_body discriminators.Once 7) (list_bodies discriminators.Once count_octets cs) ≡ true
counts-right [] = refl
counts-right (c ∷ cs) = list_written discriminators.Once count_octets 7 c cs count_len (omega arith) refl

-- so has a list of failures
pub failures-right : (fs : List Failure)
    → first_passes (is_list_body discriminators.Each 6) (list_bodies discriminators.Each failure_octets fs) ≡ true
failures-right [] = refl
failures-right (f ∷ fs) =
    list_written discriminators.Each failure_octets 6 f fs failure_len (omega arith) (failures_by_both (f ∷ fs))
