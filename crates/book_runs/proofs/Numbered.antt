-- Lists of numbered items whose numbers rise: the items of a number, and those from a number on.
use Rattle.std.proofs.Common.{◌≡◌, ℕ, ◌+◌, zero, suc, ◌<◌, ◌≤◌, Bool, true, false, cond, List, [], ◌∷◌, ◌++◌, length}
use Rattle.std.proofs.Common.{eqb, filter, map, refl, ap, sym, ◌∙◌, arith, inl, inr, get_or}
use Rattle.std.specs.Prelude.{nat_le, ⊤}
use Rattle.std.specs.List.{All, flat_map}
use Rattle.std.proofs.lemmas.Bool.{cases_order, eq-eqb, le-leb, lt-leb, ne_eqb}
use Rattle.std.proofs.lemmas.List.{length-append}
use Rattle.std.proofs.lemmas.List.Elements.{All-head, All-tail, filter-append}

-- numbers rise
abbrev pub Rise : List ℕ → Type 0
Rise [] = ⊤
Rise (n ∷ numbers) = All (λ m. n < m) numbers × Rise numbers

-- the numbers of items; the items of a number, and those from a number on
abbrev pub numbers_of : {X : Type 0} → List (ℕ × X) → List ℕ
numbers_of items = map (λ x. x.0) items

-- the items of the number k
abbrev pub items_at : {X : Type 0} → (k : ℕ) → List (ℕ × X) → List (ℕ × X)
items_at k items = filter (λ x. eqb x.0 k) items

-- the items of numbers from k on
abbrev pub items_from : {X : Type 0} → (k : ℕ) → List (ℕ × X) → List (ℕ × X)
items_from k items = filter (λ x. nat_le k x.0) items

-- no item has a number below all of theirs
none_at : {X : Type 0} (k n : ℕ) (items : List (ℕ × X)) → k ≤ n → All (λ m. n < m) (numbers_of items)
    → items_at k items ≡ []
none_at k n [] before above = refl
none_at k n (x ∷ items) before above =
    let first : n < x.0 = All-head (λ (m : ℕ). n < m) x.0 (numbers_of items) above in
    let other : eqb x.0 k ≡ false = ne_eqb x.0 k (apart x.0 first) in
    ap (λ b. cond b (x ∷ items_at k items) (items_at k items)) other
    ∙ none_at k n items before (All-tail (λ (m : ℕ). n < m) x.0 (numbers_of items) above)
  where
    apart : (m : ℕ) → n < m → m ≡ k → ⊥
    apart m after same = omega arith

-- nor one above all of theirs, and none stands from there on
pub none_from : {X : Type 0} (k : ℕ) (items : List (ℕ × X)) → All (λ x. x.0 < k) items → items_from k items ≡ []
none_from k [] below = refl
none_from k (x ∷ items) below =
    let first = All-head (λ (y : _). y.0 < k) x items below in
    ap (λ b. cond b (x ∷ items_from k items) (items_from k items)) (lt-leb k x.0 first)
    ∙ none_from k items (All-tail (λ (y : _). y.0 < k) x items below)

-- all stand from 0 on
pub all_from : {X : Type 0} (items : List (ℕ × X)) → items_from 0 items ≡ items
all_from [] = refl
all_from (x ∷ items) =
    ap (λ b. cond b (x ∷ items_from 0 items) (items_from 0 items)) (le-leb 0 x.0 (omega arith))
    ∙ ap (λ later. x ∷ later) (all_from items)

-- those from a number on are those of it, and those from the next one on
abbrev pub Splits : {X : Type 0} → (k : ℕ) → List (ℕ × X) → Type 0
Splits k items = items_from k items ≡ items_at k items ++ items_from (suc k) items

-- numbered items whose numbers rise from k on are the one of number k, if it is there, and those after it
pub from_next : {X : Type 0} (k : ℕ) (items : List (ℕ × X)) → Rise (numbers_of items) → Splits k items
from_next k [] rise = refl
from_next k (x ∷ items) rise =
    let rest = from_next k items rise.1 in
    elim (cases_order x.0 k) [
      | inl same ↦
          here rest (le-leb k x.0 (omega (arith, same))) (eq-eqb x.0 k same)
          (lt-leb (suc k) x.0 (omega (arith, same)))
      | inr apart ↦ elim apart [
        | inl before ↦
            earlier rest (lt-leb k x.0 before) (ne_eqb x.0 k (λ same. less before same))
            (lt-leb (suc k) x.0 (omega arith))
        | inr after ↦
            later rest after (le-leb k x.0 (omega arith)) (ne_eqb x.0 k (λ same. less after (sym same)))
            (le-leb (suc k) x.0 (omega arith))
      ]
    ]
  where
    less : {m n : ℕ} → m < n → m ≡ n → ⊥
    less before same = omega arith

    here : Splits k items → nat_le k x.0 ≡ true → eqb x.0 k ≡ true → nat_le (suc k) x.0 ≡ false → Splits k (x ∷ items)
    here rest a b c = rw (a, b, c) (ap (λ more. x ∷ more) rest)

    earlier : Splits k items → nat_le k x.0 ≡ false → eqb x.0 k ≡ false → nat_le (suc k) x.0 ≡ false
        → Splits k (x ∷ items)
    earlier rest a b c = rw (a, b, c) rest

    later : Splits k items → k < x.0 → nat_le k x.0 ≡ true → eqb x.0 k ≡ false → nat_le (suc k) x.0 ≡ true
        → Splits k (x ∷ items)
    later rest after a b c =
        let none : items_at k items ≡ [] = none_at k x.0 items (omega arith) rise.0 in
        rw (a, b, c, none) (ap (λ more. x ∷ more) (rest ∙ ap (λ first. first ++ items_from (suc k) items) none))

-- a list of one item
pub only_item : {X : Type 0} (xs : List X) → length xs ≡ 1 → (x : X) × (xs ≡ x ∷ [])
only_item [] one = absurd (omega arith)
only_item (x ∷ []) one = (x, refl)
only_item (x ∷ y ∷ xs) one = absurd (omega arith)

-- a list of no length has no item
pub no_item : {X : Type 0} (xs : List X) → length xs ≡ 0 → xs ≡ []
no_item [] none = refl
no_item (x ∷ xs) none = absurd (omega arith)

abbrev joined : {X : Type 0} → List (List X) → List X
joined lists = flat_map (λ xs. xs) lists

joined_count : {X : Type 0} (test : X → Bool) (xs : List X) (lists : List (List X))
    → length (filter test (joined (xs ∷ lists))) ≡ length (filter test xs) + length (filter test (joined lists))
joined_count test xs lists =
    ap length (filter-append test xs (joined lists)) ∙ length-append (filter test xs) (filter test (joined lists))

-- where a test passes nothing of joined lists, it passes nothing of each
none_of_each : {X : Type 0} (test : X → Bool) (lists : List (List X))
    → length (filter test (joined lists)) ≡ 0
    → (q : ℕ) → length (filter test (get_or lists q [])) ≡ 0
none_of_each test [] none q = refl
none_of_each test (xs ∷ lists) none zero =
    let both = joined_count test xs lists in
    omega (arith, both, none)
none_of_each test (xs ∷ lists) none (suc q) =
    let both = joined_count test xs lists in
    none_of_each test lists (omega (arith, both, none)) q

-- what passes of joined lists, once, passes of one of them, and of no other
pub record IsOnlyIn {X : Type 0} (test : X → Bool) (lists : List (List X)) (place : ℕ) : Type 0 where
  pub once : length (filter test (get_or lists place [])) ≡ 1
  pub others : (q : ℕ) → (place ≡ q → ⊥) → length (filter test (get_or lists q [])) ≡ 0

-- if one item of the lists joined passes the test, one list alone has it
pub only_in_one : {X : Type 0} (test : X → Bool) (lists : List (List X))
    → length (filter test (joined lists)) ≡ 1 → (place : ℕ) × IsOnlyIn test lists place
only_in_one test [] once = absurd (omega arith)
only_in_one {X = X} test (xs ∷ lists) once =
    by_first (joined_count test xs lists) (λ one. only_in_one test lists one) (length (filter test xs)) refl
  where
    first : length (filter test (joined lists)) ≡ 0 → length (filter test xs) ≡ 1 → IsOnlyIn test (xs ∷ lists) 0
    first none one = record { once = one; others = others }
      where
        others : (q : ℕ) → (0 ≡ q → ⊥) → length (filter test (get_or (xs ∷ lists) q [])) ≡ 0
        others zero differs = absurd (differs refl)
        others (suc q) differs = none_of_each test lists none q

    next : length (filter test xs) ≡ 0 → (place : ℕ) → IsOnlyIn test lists place
        → IsOnlyIn test (xs ∷ lists) (suc place)
    next none place is = record { once = is.once; others = others }
      where
        others : (q : ℕ) → (suc place ≡ q → ⊥) → length (filter test (get_or (xs ∷ lists) q [])) ≡ 0
        others zero differs = none
        others (suc q) differs = is.others q (λ same. differs (ap suc same))

    by_first : length (filter test (joined (xs ∷ lists)))
        ≡ length (filter test xs) + length (filter test (joined lists))
        → (length (filter test (joined lists)) ≡ 1 → (place : ℕ) × IsOnlyIn test lists place)
        → (n : ℕ) → length (filter test xs) ≡ n → (place : ℕ) × IsOnlyIn test (xs ∷ lists) place
    by_first both go zero is =
        let later = go (omega (arith, both, is, once)) in (suc later.0, next is later.0 later.1)
    by_first both go (suc zero) is = (0, first (omega (arith, both, is, once)) is)
    by_first both go (suc (suc n)) is = absurd (omega (arith, both, is, once))
