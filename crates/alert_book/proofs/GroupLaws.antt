-- The cells of a group, among those of its network.
use Rattle.std.proofs.Common.{◌≡◌, ℕ, zero, suc, ◌+◌, ◌*◌, ◌<◌, ◌≤◌, ◌&&◌, Bool, true, false, not, ◌∙◌}
use Rattle.std.proofs.Common.{List, [], ◌∷◌, ◌++◌, length, take, drop, filter, refl, sym, ap, arith}
use Rattle.std.proofs.Common.{eqb}
use Rattle.std.specs.List.{list_any}
use Rattle.std.specs.Cmp.{nat_eq_equiv}
use Rattle.std.proofs.lemmas.Bool.{and_parts, not-true, or_from}
use Rattle.std.proofs.lemmas.Bool.{or_parts}
use Rattle.std.proofs.lemmas.List.{drop-append-le, take-append-le}
use Rattle.cbsp_wire.specs.declared.message.Cell.{Cell}
use Rattle.cbsp_wire.specs.Range.{are_distinct, is_cell}
use Rattle.alert_book.specs.Cells.{is_among}
use Rattle.alert_book.specs.Network.{cells_of_group}

-- cells compare either way
pub cell-symm : (a b : Cell) → is_cell a b ≡ is_cell b a
cell-symm a b =
    ap (λ (x : Bool). x && eqb a.ci b.ci) (nat_eq_equiv.symm a.lac b.lac)
    ∙ ap (λ (x : Bool). eqb b.lac a.lac && x) (nat_eq_equiv.symm a.ci b.ci)

-- a cell that is none of some cells isn't among them
none_among : (cell : Cell) (cells : List Cell) → list_any (is_cell cell) cells ≡ false → is_among cells cell ≡ false
none_among cell [] none = refl
none_among cell (c ∷ cs) none =
    let parts = or_parts (is_cell cell c) (list_any (is_cell cell) cs) none in
    or_from (is_cell c cell) (is_among cs cell) (cell-symm c cell ∙ parts.0) (none_among cell cs parts.1)

-- nor among a part of them
pub none_taken : {X : Type 0} (p : X → Bool) (k : ℕ) (xs : List X) → list_any p xs ≡ false
    → list_any p (take k xs) ≡ false
none_taken {X} p zero xs none = refl
none_taken {X} p (suc k) [] none = refl
none_taken {X} p (suc k) (x ∷ xs) none =
    let parts = or_parts (p x) (list_any p xs) none in
    or_from (p x) (list_any p (take k xs)) parts.0 (none_taken p k xs parts.1)

-- nor among what follows some of them
pub none_dropped : {X : Type 0} (p : X → Bool) (n : ℕ) (xs : List X) → list_any p xs ≡ false →
    list_any p (drop n xs) ≡ false
none_dropped {X} p zero xs none = none
none_dropped {X} p (suc n) [] none = refl
none_dropped {X} p (suc n) (x ∷ xs) none =
    none_dropped p n xs (or_parts (p x) (list_any p xs) none).1

-- of cells that a cell isn't among, it keeps none
filter_other : (x : Cell) (among : List Cell) (cells : List Cell) → list_any (is_cell x) cells ≡ false →
    filter (is_among (x ∷ among)) cells ≡ filter (is_among among) cells
filter_other x among [] none = refl
filter_other x among (c ∷ cs) none =
    let parts = or_parts (is_cell x c) (list_any (is_cell x) cs) none in
    let rest = filter_other x among cs parts.1 in
    rw (parts.0, rest) refl

-- of distinct cells those that are among the first of them
filter_taken : (k : ℕ) (cells : List Cell) → are_distinct cells ≡ true →
    filter (is_among (take k cells)) cells ≡ take k cells
filter_taken k [] distinct = nothing k
  where
    nothing : (n : ℕ) → filter (is_among (take n [])) [] ≡ take n []
    nothing zero = refl
    nothing (suc n) = refl
filter_taken zero (c ∷ cs) distinct = keeps_none (c ∷ cs)
  where
    keeps_none : (xs : List Cell) → filter (is_among []) xs ≡ []
    keeps_none [] = refl
    keeps_none (x ∷ xs) = keeps_none xs
filter_taken (suc k) (c ∷ cs) distinct =
    let parts = and_parts (not (list_any (is_cell c) cs)) (are_distinct cs) distinct in
    let alone = not-true (list_any (is_cell c) cs) parts.0 in
    let self : is_cell c c ≡ true = same_cell c in
    rw (self, filter_other c (take k cs) cs alone, filter_taken k cs parts.1) refl
  where
    same_cell : (x : Cell) → is_cell x x ≡ true
    same_cell x = rw (nat_eq_equiv.refl x.lac, nat_eq_equiv.refl x.ci) refl

-- of distinct cells those of a part
filter_part : (n k : ℕ) (cells : List Cell) → are_distinct cells ≡ true →
    filter (is_among (take k (drop n cells))) cells ≡ take k (drop n cells)
filter_part zero k cells distinct = filter_taken k cells distinct
filter_part (suc n) k [] distinct = nothing k
  where
    nothing : (m : ℕ) → filter (is_among (take m [])) [] ≡ take m []
    nothing zero = refl
    nothing (suc m) = refl
filter_part (suc n) k (c ∷ cs) distinct =
    let parts = and_parts (not (list_any (is_cell c) cs)) (are_distinct cs) distinct in
    let alone = not-true (list_any (is_cell c) cs) parts.0 in
    let none = none_among c (take k (drop n cs))
    (none_taken (is_cell c) k (drop n cs) (none_dropped (is_cell c) n cs alone)) in
    rw (none, filter_part n k cs parts.1) refl

-- so a group has its cells
pub filter_group : (group : ℕ) (cells : List Cell) → are_distinct cells ≡ true →
    filter (is_among (cells_of_group group cells)) cells ≡ cells_of_group group cells
filter_group group cells distinct = filter_part (64 * group) 64 cells distinct

-- a cell more
pub take_full : {X : Type 0} (k : ℕ) (xs : List X) → length xs ≤ k → take k xs ≡ xs
take_full {X} zero [] few = refl
take_full {X} zero (x ∷ xs) few = absurd (omega (arith, few))
take_full {X} (suc k) [] few = refl
take_full {X} (suc k) (x ∷ xs) few = ap (λ (ys : List X). x ∷ ys) (take_full k xs (omega (arith, few)))

-- nothing follows all of a list
pub drop_all : {X : Type 0} (n : ℕ) (xs : List X) → length xs ≤ n → drop n xs ≡ []
drop_all {X} zero [] few = refl
drop_all {X} zero (x ∷ xs) few = absurd (omega (arith, few))
drop_all {X} (suc n) [] few = refl
drop_all {X} (suc n) (x ∷ xs) few = drop_all n xs (omega (arith, few))

-- what is left of a list has the rest of its length
pub length_drop : {X : Type 0} (n : ℕ) (xs : List X) → n ≤ length xs → n + length (drop n xs) ≡ length xs
length_drop {X} zero xs few = omega arith
length_drop {X} (suc n) [] few = absurd (omega (arith, few))
length_drop {X} (suc n) (x ∷ xs) few = let rest = length_drop n xs (omega (arith, few)) in omega (arith, rest)

length_one : {X : Type 0} (xs : List X) (x : X) → length (xs ++ x ∷ []) ≡ length xs + 1
length_one {X} [] x = refl
length_one {X} (y ∷ ys) x = let rest = length_one ys x in omega (arith, rest)

-- a cell more that is within a group is the group's last one
pub part_within : (n k : ℕ) (cells : List Cell) (cell : Cell) → n ≤ length cells → length cells < n + k →
    take k (drop n (cells ++ cell ∷ [])) ≡ take k (drop n cells) ++ cell ∷ []
part_within n k cells cell from below =
    let rest = length_drop n cells from in
    let one = length_one (drop n cells) cell in
    ap (λ (ys : List Cell). take k ys) (drop-append-le n cells (cell ∷ []) from)
    ∙ take_full k (drop n cells ++ cell ∷ []) (omega (arith, rest, one, below))
    ∙ ap (λ (ys : List Cell). ys ++ cell ∷ []) (sym (take_full k (drop n cells) (omega (arith, rest, below))))

-- a cell more after a group's last one changes nothing of it
pub part_after : (n k : ℕ) (cells : List Cell) (cell : Cell) → n + k ≤ length cells →
    take k (drop n (cells ++ cell ∷ [])) ≡ take k (drop n cells)
part_after n k cells cell past =
    let rest = length_drop n cells (omega (arith, past)) in
    ap (λ (ys : List Cell). take k ys) (drop-append-le n cells (cell ∷ []) (omega (arith, past)))
    ∙ take-append-le k (drop n cells) (cell ∷ []) (omega (arith, rest, past))

-- nor does one before its first one
pub part_before : (n k : ℕ) (cells : List Cell) (cell : Cell) → length cells < n →
    take k (drop n (cells ++ cell ∷ [])) ≡ take k (drop n cells)
part_before n k cells cell few =
    let one = length_one cells cell in
    ap (λ (ys : List Cell). take k ys) (drop_all n (cells ++ cell ∷ []) (omega (arith, one, few))
    ∙ sym (drop_all n cells (omega (arith, few))))
