-- The items of a list that is written are those that are read of it.
use Rattle.std.proofs.Common.{◌≡◌, ℕ, ◌+◌, ◌*◌, ◌/◌, ◌%◌, ◌≤◌, Bool, true, false, eqb, List, [], ◌∷◌, ◌++◌}
use Rattle.std.proofs.Common.{length, Option, Some, None, Ok, refl, sym, ap, ◌∙◌, append_assoc, arith}
use Rattle.std.specs.Prelude.{not}
use Rattle.std.specs.List.{AllByRecursion, flat_map, list_all}
use Rattle.std.proofs.lemmas.Bool.{eqb-true}
use Rattle.std.proofs.lemmas.List.{length-append}
use Rattle.cbsp_wire.proofs.Tests.{and_parts}
use Rattle.cbsp_link.specs.declared.items.Naming.{Naming}
use Rattle.cbsp_link.specs.declared.items.Naming.TheVariants as namings
use Rattle.cbsp_link.specs.declared.message.LinkCell.{LinkCell}
use Rattle.cbsp_link.specs.declared.message.LinkCell.TheVariants as cells
use Rattle.cbsp_link.specs.declared.message.LinkCount.{LinkCount}
use Rattle.cbsp_link.specs.declared.message.LinkFailure.{LinkFailure}
use Rattle.cbsp_link.specs.Outcome.{or_wrong, faultless}
use Rattle.cbsp_link.specs.Item.{naming_of, short_cell, long_cell_at, cell_at, cell_item, count_after, count_item}
use Rattle.cbsp_link.specs.Item.{failure_after, failure_by, failure_item, cells_by, cells_named, counts_named}
use Rattle.cbsp_link.specs.Item.{cells_of_body, counts_of_body, failures_of_body}
use Rattle.cbsp_link.specs.Run.{Run, run_of, run_within, all_of}
use Rattle.cbsp_link.specs.Written.{discriminator_of, name_octets, counted_octets}
use Rattle.cbsp_link.specs.Written.{failed_octets, is_short, are_alike, counts_are_alike, stands_alone}
use Rattle.cbsp_link.proofs.Fronts.{cell_takes, count_takes, failure_takes}
use Rattle.cbsp_link.proofs.Parts.{pair_again}
use Rattle.cbsp_link.proofs.Runs.{Reader, Takes, before, run_of-taken}

-- ---- a run over things that were written one after the other

-- what is written of a thing is read as it, whatever follows
abbrev pub IsAgain : {X : Type 0} → Reader X → (X → List ℕ) → X → Type 0
IsAgain {X} front spell x = (rest : List ℕ) → run_of front (spell x ++ rest) ≡ before x (run_of front rest)

ended : {X : Type 0} (front : Reader X) → run_of front [] ≡ (let r : Run X = record { items = []; stop = None } in r)
unfolding run_of run_within
ended front = refl

run_again : {X : Type 0} (front : Reader X) (spell : X → List ℕ) (xs : List X)
    → AllByRecursion (IsAgain front spell) xs
    → run_of front (flat_map spell xs) ≡ (let r : Run X = record { items = xs; stop = None } in r)
run_again front spell [] again = ended front
run_again {X} front spell (x ∷ xs) again =
    again.0 (flat_map spell xs) ∙ ap (λ (r : Run X). before x r) (run_again front spell xs again.1)

-- things that are read as they were written, one after the other, are all that is read
pub all_again : {X : Type 0} (front : Reader X) (spell : X → List ℕ) (xs : List X)
    → AllByRecursion (IsAgain front spell) xs → all_of front (flat_map spell xs) ≡ Ok xs
all_again {X} front spell xs again =
    ap (λ (r : Run X). faultless r.items r.stop) (run_again front spell xs again)

-- the first octet of what is spelled, and the others
taken_again : {X : Type 0} (front : Reader X) → Takes front → (x : X) (octets rest : List ℕ)
    → ((a : ℕ) (more : List ℕ) → octets ≡ a ∷ more → front a more ≡ Ok (x, rest))
    → (octets ≡ [] → ⊥) → run_of front octets ≡ before x (run_of front rest)
taken_again front takes x [] rest read some = absurd (some refl)
taken_again front takes x (a ∷ more) rest read some = run_of-taken front takes a more x rest (read a more refl)

-- ---- cells

-- how a cell is named
abbrev pub naming_for : LinkCell → Naming
naming_for (cells.Global plmn lac ci) = namings.Global
naming_for (cells.LacCi lac ci) = namings.LacCi
naming_for (cells.Ci ci) = namings.Ci
naming_for cells.Nothing = namings.Nothing
naming_for (cells.Area plmn lac) = namings.Area
naming_for (cells.Lac lac) = namings.Lac
naming_for cells.All = namings.All

-- a cell's discriminator says how it is named
pub naming_again : (c : LinkCell) → naming_of (discriminator_of c) ≡ Some (naming_for c)
naming_again (cells.Global plmn lac ci) = refl
naming_again (cells.LacCi lac ci) = refl
naming_again (cells.Ci ci) = refl
naming_again cells.Nothing = refl
naming_again (cells.Area plmn lac) = refl
naming_again (cells.Lac lac) = refl
naming_again cells.All = refl

-- cells of one discriminator are named alike
pub named_alike : (c d : LinkCell) → eqb (discriminator_of d) (discriminator_of c) ≡ true
    → naming_for d ≡ naming_for c
named_alike c d same =
    let both : Some (naming_for d) ≡ Some (naming_for c) =
    sym (naming_again d) ∙ ap naming_of (eqb-true _ _ same) ∙ naming_again c in
    cc

abbrev seen : LinkCell → List ℕ → Option (LinkCell × List ℕ)
seen c rest = Some (c, rest)

-- a cell that octets name is read of them
pub long_again : (c : LinkCell) (rest : List ℕ) → is_short c ≡ false
    → long_cell_at (naming_for c) (name_octets c ++ rest) ≡ Some (c, rest)
long_again (cells.Global plmn lac ci) rest h =
    ap (λ (n : ℕ). seen (cells.Global plmn n (ci / 256 * 256 + ci % 256)) rest) (pair_again lac)
    ∙ ap (λ (n : ℕ). seen (cells.Global plmn lac n) rest) (pair_again ci)
long_again (cells.LacCi lac ci) rest h =
    ap (λ (n : ℕ). seen (cells.LacCi n (ci / 256 * 256 + ci % 256)) rest) (pair_again lac)
    ∙ ap (λ (n : ℕ). seen (cells.LacCi lac n) rest) (pair_again ci)
long_again (cells.Ci ci) rest h = ap (λ (n : ℕ). seen (cells.Ci n) rest) (pair_again ci)
long_again cells.Nothing rest h = absurd cc
long_again (cells.Area plmn lac) rest h = ap (λ (n : ℕ). seen (cells.Area plmn n) rest) (pair_again lac)
long_again (cells.Lac lac) rest h = ap (λ (n : ℕ). seen (cells.Lac n) rest) (pair_again lac)
long_again cells.All rest h = absurd cc

-- so is what is named without octets
pub cell_again : (c : LinkCell) (rest : List ℕ) → cell_at (naming_for c) (name_octets c ++ rest) ≡ Some (c, rest)
unfolding cell_at
cell_again (cells.Global plmn lac ci) rest = long_again (cells.Global plmn lac ci) rest refl
cell_again (cells.LacCi lac ci) rest = long_again (cells.LacCi lac ci) rest refl
cell_again (cells.Ci ci) rest = long_again (cells.Ci ci) rest refl
cell_again cells.Nothing rest = refl
cell_again (cells.Area plmn lac) rest = long_again (cells.Area plmn lac) rest refl
cell_again (cells.Lac lac) rest = long_again (cells.Lac lac) rest refl
cell_again cells.All rest = refl

-- what is named by octets takes some
some_name : (c : LinkCell) (rest : List ℕ) → is_short c ≡ false → name_octets c ++ rest ≡ [] → ⊥
some_name (cells.Global plmn lac ci) rest h none = cc
some_name (cells.LacCi lac ci) rest h none = cc
some_name (cells.Ci ci) rest h none = cc
some_name cells.Nothing rest h none = cc
some_name (cells.Area plmn lac) rest h none = cc
some_name (cells.Lac lac) rest h none = cc
some_name cells.All rest h none = cc

cell_is_again : (naming : Naming) (c : LinkCell) → naming_for c ≡ naming → is_short c ≡ false
    → IsAgain (cell_item naming) name_octets c
cell_is_again naming c named long rest =
    taken_again (cell_item naming) (cell_takes naming) c (name_octets c ++ rest) rest
    (λ a more is. ap (λ (o : List ℕ). or_wrong 4 (long_cell_at naming o)) (sym is)
    ∙ ap (λ (n : Naming). or_wrong 4 (long_cell_at n (name_octets c ++ rest))) (sym named)
    ∙ ap (or_wrong 4) (long_again c rest long))
    (some_name c rest long)

-- cells that are named alike take octets alike
abbrev is_short_name : Naming → Bool
is_short_name namings.Global = false
is_short_name namings.LacCi = false
is_short_name namings.Ci = false
is_short_name namings.Nothing = true
is_short_name namings.Area = false
is_short_name namings.Lac = false
is_short_name namings.All = true

by_name : (c : LinkCell) → is_short c ≡ is_short_name (naming_for c)
by_name (cells.Global plmn lac ci) = refl
by_name (cells.LacCi lac ci) = refl
by_name (cells.Ci ci) = refl
by_name cells.Nothing = refl
by_name (cells.Area plmn lac) = refl
by_name (cells.Lac lac) = refl
by_name cells.All = refl

long_alike : (c d : LinkCell) → naming_for d ≡ naming_for c → is_short c ≡ false → is_short d ≡ false
long_alike c d named long = by_name d ∙ ap is_short_name named ∙ sym (by_name c) ∙ long

cells_are_again : (c : LinkCell) (cs : List LinkCell) → is_short c ≡ false
    → list_all (λ d. eqb (discriminator_of d) (discriminator_of c)) cs ≡ true
    → AllByRecursion (IsAgain (cell_item (naming_for c)) name_octets) cs
cells_are_again c [] long same = tt
cells_are_again c (d ∷ cs) long same =
    let both = and_parts (eqb (discriminator_of d) (discriminator_of c))
    (list_all (λ d. eqb (discriminator_of d) (discriminator_of c)) cs) same in
    let named = named_alike c d both.0 in
    (cell_is_again (naming_for c) d named (long_alike c d named long), cells_are_again c cs long both.1)

one_short : (c : LinkCell) → is_short c ≡ true
    → cells_by (short_cell (naming_for c)) (naming_for c) (flat_map name_octets (c ∷ [])) ≡ Ok (c ∷ [])
one_short (cells.Global plmn lac ci) h = absurd cc
one_short (cells.LacCi lac ci) h = absurd cc
one_short (cells.Ci ci) h = absurd cc
one_short cells.Nothing h = refl
one_short (cells.Area plmn lac) h = absurd cc
one_short (cells.Lac lac) h = absurd cc
one_short cells.All h = refl

not_short : (c : LinkCell) → is_short c ≡ false → short_cell (naming_for c) ≡ None
not_short (cells.Global plmn lac ci) h = refl
not_short (cells.LacCi lac ci) h = refl
not_short (cells.Ci ci) h = refl
not_short cells.Nothing h = absurd cc
not_short (cells.Area plmn lac) h = refl
not_short (cells.Lac lac) h = refl
not_short cells.All h = absurd cc

by_length : (c : LinkCell) (cs : List LinkCell) (b : Bool) → is_short c ≡ b → stands_alone (c ∷ cs) ≡ true
    → are_alike (c ∷ cs) ≡ true
    → cells_by (short_cell (naming_for c)) (naming_for c) (flat_map name_octets (c ∷ cs)) ≡ Ok (c ∷ cs)
by_length c [] true short alone alike = one_short c short
by_length c (d ∷ cs) true short alone alike =
    let long : not true ≡ true = ap not (sym short) ∙ alone in absurd cc
by_length c cs false long alone alike =
    ap (λ (o : Option LinkCell). cells_by o (naming_for c) (flat_map name_octets (c ∷ cs))) (not_short c long)
    ∙ all_again (cell_item (naming_for c)) name_octets (c ∷ cs)
    (cell_is_again (naming_for c) c refl long, cells_are_again c cs long alike)

-- the body of a cell list that is written is read as its cells
pub cells_again : (c : LinkCell) (cs : List LinkCell) (high low : ℕ) → stands_alone (c ∷ cs) ≡ true
    → are_alike (c ∷ cs) ≡ true
    → cells_of_body (high ∷ low ∷ discriminator_of c ∷ flat_map name_octets (c ∷ cs)) ≡ Ok (c ∷ cs)
unfolding cells_of_body
cells_again c cs high low alone alike =
    ap (λ (o : Option Naming). cells_named o (flat_map name_octets (c ∷ cs))) (naming_again c)
    ∙ by_length c cs (is_short c) refl alone alike

-- ---- completed broadcasts

abbrev counted : LinkCell → ℕ → ℕ → List ℕ → Option (LinkCount × List ℕ)
counted cell number info rest = Some (record { cell = cell; number = number; info = info }, rest)

count_found : (naming : Naming) (x : LinkCount) (rest : List ℕ) → naming_for x.cell ≡ naming
    → count_after (cell_at naming (counted_octets x ++ rest)) ≡ Some (x, rest)
count_found naming x rest named =
    let tail = x.number / 256 ∷ x.number % 256 ∷ x.info ∷ [] in
    ap (λ (o : List ℕ). count_after (cell_at naming o)) (append_assoc (name_octets x.cell) tail rest)
    ∙ ap (λ (n : Naming). count_after (cell_at n (name_octets x.cell ++ (tail ++ rest)))) (sym named)
    ∙ ap count_after (cell_again x.cell (tail ++ rest))
    ∙ ap (λ (n : ℕ). counted x.cell n x.info rest) (pair_again x.number)

some_end : (a b : List ℕ) (c : ℕ) → a ++ c ∷ b ≡ [] → ⊥
some_end [] b c none = cc
some_end (d ∷ a) b c none = cc

some_count : (x : LinkCount) (rest : List ℕ) → counted_octets x ++ rest ≡ [] → ⊥
some_count x rest none =
    some_end (name_octets x.cell) (x.number % 256 ∷ x.info ∷ rest) (x.number / 256)
    (sym (append_assoc (name_octets x.cell) (x.number / 256 ∷ x.number % 256 ∷ x.info ∷ []) rest) ∙ none)

count_is_again : (naming : Naming) (x : LinkCount) → naming_for x.cell ≡ naming
    → IsAgain (count_item naming) counted_octets x
count_is_again naming x named rest =
    taken_again (count_item naming) (count_takes naming) x (counted_octets x ++ rest) rest
    (λ a more is. ap (λ (o : List ℕ). or_wrong 8 (count_after (cell_at naming o))) (sym is)
    ∙ ap (or_wrong 8) (count_found naming x rest named))
    (some_count x rest)

counts_are_again : (c : LinkCount) (cs : List LinkCount)
    → list_all (λ d. eqb (discriminator_of d.cell) (discriminator_of c.cell)) cs ≡ true
    → AllByRecursion (IsAgain (count_item (naming_for c.cell)) counted_octets) cs
counts_are_again c [] same = tt
counts_are_again c (d ∷ cs) same =
    let both = and_parts (eqb (discriminator_of d.cell) (discriminator_of c.cell))
    (list_all (λ (d : LinkCount). eqb (discriminator_of d.cell) (discriminator_of c.cell)) cs) same in
    (count_is_again (naming_for c.cell) d (named_alike c.cell d.cell both.0), counts_are_again c cs both.1)

-- the body of a completed list that is written is read as its items
pub counts_again : (c : LinkCount) (cs : List LinkCount) (high low : ℕ) → counts_are_alike (c ∷ cs) ≡ true
    → counts_of_body (high ∷ low ∷ discriminator_of c.cell ∷ flat_map counted_octets (c ∷ cs)) ≡ Ok (c ∷ cs)
unfolding counts_of_body
counts_again c cs high low alike =
    ap (λ (o : Option Naming). counts_named o (flat_map counted_octets (c ∷ cs))) (naming_again c.cell)
    ∙ all_again (count_item (naming_for c.cell)) counted_octets (c ∷ cs)
    (count_is_again (naming_for c.cell) c refl, counts_are_again c cs alike)

-- ---- failures

failure_found : (f : LinkFailure) (rest : List ℕ)
    → failure_by (naming_of (discriminator_of f.cell)) ((name_octets f.cell ++ f.cause ∷ []) ++ rest) ≡ Some (f, rest)
failure_found f rest =
    ap (λ (o : Option Naming). failure_by o ((name_octets f.cell ++ f.cause ∷ []) ++ rest)) (naming_again f.cell)
    ∙ ap (λ (o : List ℕ). failure_after (cell_at (naming_for f.cell) o))
    (append_assoc (name_octets f.cell) (f.cause ∷ []) rest)
    ∙ ap failure_after (cell_again f.cell (f.cause ∷ rest))

failure_is_again : (f : LinkFailure) → IsAgain failure_item failed_octets f
failure_is_again f rest =
    run_of-taken failure_item failure_takes (discriminator_of f.cell) ((name_octets f.cell ++ f.cause ∷ []) ++ rest) f
    rest (ap (or_wrong 9) (failure_found f rest))

failures_are_again : (fs : List LinkFailure) → AllByRecursion (IsAgain failure_item failed_octets) fs
failures_are_again [] = tt
failures_are_again (f ∷ fs) = (failure_is_again f, failures_are_again fs)

-- the body of a failure list that is written is read as its items
pub failures_again : (fs : List LinkFailure) (high low : ℕ)
    → failures_of_body (high ∷ low ∷ flat_map failed_octets fs) ≡ Ok fs
unfolding failures_of_body
failures_again fs high low = all_again failure_item failed_octets fs (failures_are_again fs)

-- ---- lengths

-- a cell is named by seven octets at most
pub name_most : (c : LinkCell) → length (name_octets c) ≤ 7
name_most (cells.Global plmn lac ci) = omega arith
name_most (cells.LacCi lac ci) = omega arith
name_most (cells.Ci ci) = omega arith
name_most cells.Nothing = omega arith
name_most (cells.Area plmn lac) = omega arith
name_most (cells.Lac lac) = omega arith
name_most cells.All = omega arith

-- a completed broadcast has ten at most
pub count_most : (c : LinkCount) → length (counted_octets c) ≤ 10
count_most c =
    omega (
      arith,
      name_most c.cell,
      length-append (name_octets c.cell) (c.number / 256 ∷ c.number % 256 ∷ c.info ∷ []),
    )

-- a failure has ten at most
pub failure_most : (f : LinkFailure) → length (failed_octets f) ≤ 10
failure_most f = omega (arith, name_most f.cell, length-append (name_octets f.cell) (f.cause ∷ []))

-- so many items have ten times as many octets at most
pub most : {X : Type 0} (f : X → List ℕ) → ((x : X) → length (f x) ≤ 10) → (xs : List X)
    → length (flat_map f xs) ≤ 10 * length xs
most f short [] = omega arith
most f short (x ∷ xs) = omega (arith, short x, most f short xs, length-append (f x) (flat_map f xs))
