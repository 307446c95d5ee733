-- A table that is passed in place: what is still counted goes to its front, place by place.
use Rattle.std.proofs.Common.{◌≡◌, ℕ, ◌+◌, ◌≤◌, ◌<◌, true, false, List, [], ◌∷◌, ◌++◌, length, get_or, set, take, drop}
use Rattle.std.proofs.Common.{map, filter, append-nil, refl, sym, ap, subst, ◌∙◌, arith}
use Rattle.std.proofs.lemmas.List.{drop_more, get_or-set_same, map-append, set-set, take_more, take_more_set}
use Rattle.std.proofs.lemmas.List.Elements.{filter-append}
use Rattle.std.proofs.Math.Seq.{drop-set-lt}
use Rattle.admission.specs.declared.budget.Held.{Held}
use Rattle.admission.specs.Reservation.{is_before_end}
use Rattle.admission.specs.Table.{passed}
use Rattle.admission.specs.Waiting.{started_at}

-- of the places before one, what is counted stands in front, and the others are as they were
pub record HasPassed (slot kept place : ℕ) (table old : List Held) : Type 0 where
  pub few : kept ≤ place
  pub front : take kept table ≡ passed slot (take place old)
  pub rest : drop place table ≡ drop place old

-- one place more, whose reservation is counted
passed_more : (slot : ℕ) (xs : List Held) (i : ℕ) (d : Held) → i < length xs
    → is_before_end slot (get_or xs i d).end ≡ true
    → passed slot (take (i + 1) xs) ≡ passed slot (take i xs) ++ started_at slot (get_or xs i d) ∷ []
passed_more slot xs i d within is =
    let x = get_or xs i d in
    let counted : filter (λ (h : Held). is_before_end slot h.end) (x ∷ []) ≡ x ∷ [] = rw is refl in
    ap (passed slot) (take_more xs i d within)
    ∙ ap (map (started_at slot)) (filter-append (λ (h : Held). is_before_end slot h.end) (take i xs) (x ∷ []))
    ∙ map-append (started_at slot) (filter (λ (h : Held). is_before_end slot h.end) (take i xs))
    (filter (λ (h : Held). is_before_end slot h.end) (x ∷ []))
    ∙ ap (λ ys. passed slot (take i xs) ++ map (started_at slot) ys) counted

-- or has ended
passed_less : (slot : ℕ) (xs : List Held) (i : ℕ) (d : Held) → i < length xs
    → is_before_end slot (get_or xs i d).end ≡ false → passed slot (take (i + 1) xs) ≡ passed slot (take i xs)
passed_less slot xs i d within is =
    let x = get_or xs i d in
    let gone : filter (λ (h : Held). is_before_end slot h.end) (x ∷ []) ≡ [] = rw is refl in
    ap (passed slot) (take_more xs i d within)
    ∙ ap (map (started_at slot)) (filter-append (λ (h : Held). is_before_end slot h.end) (take i xs) (x ∷ [])
    ∙ ap (λ ys. filter (λ (h : Held). is_before_end slot h.end) (take i xs) ++ ys) gone
    ∙ append-nil (filter (λ (h : Held). is_before_end slot h.end) (take i xs)))

-- the place that comes next is as it was
pub next_is : (table old : List Held) (place : ℕ) (d : Held) → place < length table → place < length old
    → drop place table ≡ drop place old → get_or table place d ≡ get_or old place d
next_is table old place d inside within rest =
    let mine = drop_more table place d inside in
    let its = drop_more old place d within in
    cc

rest_is : (table old : List Held) (place : ℕ) (d : Held) → place < length table → place < length old
    → drop place table ≡ drop place old → drop (place + 1) table ≡ drop (place + 1) old
rest_is table old place d inside within rest =
    let mine = drop_more table place d inside in
    let its = drop_more old place d within in
    cc

-- a reservation that goes on is kept as the slot passes
pub HasPassed-kept : (slot kept place : ℕ) (table old : List Held) (d : Held) → HasPassed slot kept place table old
    → length table ≡ length old → place < length old → is_before_end slot (get_or table place d).end ≡ true
    → HasPassed slot (kept + 1) (place + 1) (set table kept (started_at slot (get_or table place d))) old
HasPassed-kept slot kept place table old d had long within is =
    let y = started_at slot (get_or table place d) in
    let same = next_is table old place d (omega (arith, long, within)) within had.rest in
    let counted : is_before_end slot (get_or old place d).end ≡ true =
    ap (λ (h : Held). is_before_end slot h.end) (sym same) ∙ is in
    record {
      few = omega (arith, had.few);
      front = take_more_set table kept y (omega (arith, had.few, long, within))
          ∙ ap (λ xs. xs ++ y ∷ []) had.front
          ∙ ap (λ (h : Held). passed slot (take place old) ++ started_at slot h ∷ []) same
          ∙ sym (passed_more slot old place d within counted);
      rest = drop-set-lt (place + 1) table kept y (omega (arith, had.few))
          ∙ rest_is table old place d (omega (arith, long, within)) within had.rest;
    }

-- so is one that is put in its place first, and then starts there
pub HasPassed-put : (slot kept place : ℕ) (table old : List Held) (d : Held) → HasPassed slot kept place table old
    → length table ≡ length old → place < length old → is_before_end slot (get_or table place d).end ≡ true
    → HasPassed slot (kept + 1) (place + 1) (set (set table kept (get_or table place d)) kept
    (started_at slot (get_or (set table kept (get_or table place d)) kept d))) old
HasPassed-put slot kept place table old d had long within is =
    let x = get_or table place d in
    let put : get_or (set table kept x) kept d ≡ x =
    get_or-set_same table kept x d (omega (arith, had.few, long, within)) in
    let once : set (set table kept x) kept (started_at slot (get_or (set table kept x) kept d))
    ≡ set table kept (started_at slot x) =
    set-set table kept x (started_at slot (get_or (set table kept x) kept d))
    ∙ ap (λ (h : Held). set table kept (started_at slot h)) put in
    let Passed : List Held → Type 0 = λ l. HasPassed slot (kept + 1) (place + 1) l old in
    subst Passed (sym once) (HasPassed-kept slot kept place table old d had long within is)

-- a reservation that ends is gone as the slot passes
pub HasPassed-gone : (slot kept place : ℕ) (table old : List Held) (d : Held) → HasPassed slot kept place table old
    → length table ≡ length old → place < length old → is_before_end slot (get_or table place d).end ≡ false
    → HasPassed slot kept (place + 1) table old
HasPassed-gone slot kept place table old d had long within is =
    let same = next_is table old place d (omega (arith, long, within)) within had.rest in
    let gone : is_before_end slot (get_or old place d).end ≡ false =
    ap (λ (h : Held). is_before_end slot h.end) (sym same) ∙ is in
    record {
      few = omega (arith, had.few);
      front = had.front ∙ sym (passed_less slot old place d within gone);
      rest = rest_is table old place d (omega (arith, long, within)) within had.rest;
    }
