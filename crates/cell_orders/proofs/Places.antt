-- Lists of places: what is added to them, and what is looked for in lists that are seen otherwise.
use Rattle.std.proofs.Common.{◌≡◌, ◌<◌, ◌≤◌, ◌+◌, ◌∙◌, ℕ, suc, Bool, cond, not, List, [], ◌∷◌, ◌++◌}
use Rattle.std.proofs.Common.{Option, Some, None, length, take, drop, refl, sym, ap, arith, inl, inr, map}
use Rattle.std.proofs.Common.{⊎_elim, append-nil}
use Rattle.std.specs.Prelude.{position, remove, is_none, option_map}
use Rattle.std.specs.List.{position_or_len}
use Rattle.std.proofs.lemmas.Bool.{cases_lt, cases_Bool}
use Rattle.std.proofs.lemmas.List.{take-map, drop-map, map-append}
use Rattle.std.proofs.lemmas.List.Elements.{filter_map-append}
use Rattle.cell_orders.specs.Exchange.{LinkExchange}
use Rattle.cell_orders.specs.declared.heard.Heard.{Heard}
use Rattle.cell_orders.specs.declared.exchange.HeldExchange.{HeldExchange}
use Rattle.cell_orders.specs.Steps.{Wait, wait_at, waits, standing, exchange_of, places_of}

-- the place of the first that passes a test
pub place_some : {X : Type 0} (p : X → Bool) (xs : List X) (n : ℕ) → position p xs ≡ Some n
    → n ≡ position_or_len p xs
place_some p xs n e = grind arith

-- it is a place of the list
pub place_within : {X : Type 0} (p : X → Bool) (xs : List X) (n : ℕ) → position p xs ≡ Some n → n < length xs
place_within p xs n e = grind arith

-- none passes it
pub place_none : {X : Type 0} (p : X → Bool) (xs : List X) → position p xs ≡ None → length xs ≤ position_or_len p xs
place_none p xs e =
    ⊎_elim (λ (less : position_or_len p xs < length xs). grind arith)
    (λ (all : length xs ≤ position_or_len p xs). all)
    (cases_lt (position_or_len p xs) (length xs))

-- the first place in a list that is seen otherwise
pub place_seen : {X Y : Type 0} (see : X → Y) (p : Y → Bool) (xs : List X)
    → position_or_len p (map see xs) ≡ position_or_len (λ x. p (see x)) xs
place_seen see p [] = refl
place_seen see p (x ∷ xs) = ap (λ n. cond (not (p (see x))) (1 + n) 0) (place_seen see p xs)

-- a list less one element, seen otherwise
pub remove_seen : {X Y : Type 0} (see : X → Y) (xs : List X) (i : ℕ) → map see (remove xs i) ≡ remove (map see xs) i
remove_seen see xs i =
    map-append see (take i xs) (drop (suc i) xs)
    ∙ ap (λ ys. ys ++ map see (drop (suc i) xs)) (sym (take-map see i xs))
    ∙ ap (λ ys. take i (map see xs) ++ ys) (sym (drop-map see (suc i) xs))

-- one place more
pub standing_push : (places : List (Option LinkExchange)) (e : LinkExchange)
    → standing (places ++ Some e ∷ []) ≡ standing places ++ e ∷ []
standing_push places e = filter_map-append (λ (place : Option LinkExchange). place) places (Some e ∷ [])

wait_at-append : (n : ℕ) (e : LinkExchange) (xs ys : List Wait) → wait_at n e (xs ++ ys) ≡ wait_at n e xs ++ ys
wait_at-append n e xs ys = elim (cases_Bool (is_none e.answer)) [
  | inl waits ↦ rw waits refl
  | inr answered ↦ rw answered refl
]

-- what waits in one place more
pub waits_push : (n : ℕ) (places : List (Option LinkExchange)) (e : LinkExchange)
    → waits n (places ++ Some e ∷ []) ≡ waits n places ++ wait_at (n + length places) e []
waits_push n [] e = let same : n ≡ n + 0 = omega arith in ap (λ m. wait_at m e []) same
waits_push n (None ∷ places) e =
    let same : suc n + length places ≡ n + suc (length places) = omega arith in
    waits_push (suc n) places e ∙ ap (λ m. waits (suc n) places ++ wait_at m e []) same
waits_push n (Some other ∷ places) e =
    let same : suc n + length places ≡ n + suc (length places) = omega arith in
    ap (wait_at n other) (waits_push (suc n) places e
    ∙ ap (λ m. waits (suc n) places ++ wait_at m e []) same)
    ∙ wait_at-append n other (waits (suc n) places) (wait_at (n + suc (length places)) e [])

-- what is held of one place more
pub places_more : (held new : List (Option HeldExchange)) (x : HeldExchange) → new ≡ held ++ Some x ∷ []
    → places_of new ≡ places_of held ++ Some (exchange_of x) ∷ []
places_more held new x is = ap places_of is ∙ map-append (option_map exchange_of) held (Some x ∷ [])

-- what stands in it
pub standing_more : (places new : List (Option LinkExchange)) (e : LinkExchange) → new ≡ places ++ Some e ∷ []
    → standing new ≡ standing places ++ e ∷ []
standing_more places new e is = ap standing is ∙ standing_push places e

-- what has an answer doesn't wait
pub answered_more : (waiting : List Wait) (places new : List (Option LinkExchange)) (o a : Heard)
    → new ≡ places ++ Some (record { order = o; answer = Some a }) ∷ [] → waiting ≡ waits 0 places
    → waiting ≡ waits 0 new
answered_more waiting places new o a is same =
    let e : LinkExchange = record { order = o; answer = Some a } in
    same ∙ sym (append-nil (waits 0 places)) ∙ sym (waits_push 0 places e) ∙ ap (waits 0) (sym is)

-- what has none waits at its place
pub waiting_more : (waiting more : List Wait) (places new : List (Option LinkExchange)) (o : Heard)
    → new ≡ places ++ Some (record { order = o; answer = None }) ∷ [] → waiting ≡ waits 0 places
    → more ≡ waiting ++ record { place = length places; order = o } ∷ [] → more ≡ waits 0 new
waiting_more waiting more places new o is same added =
    let e : LinkExchange = record { order = o; answer = None } in
    let at : length places ≡ 0 + length places = omega arith in
    added ∙ ap (λ ws. ws ++ record { place = length places; order = o } ∷ []) same
    ∙ ap (λ n. waits 0 places ++ record { place = n; order = o } ∷ []) at
    ∙ sym (waits_push 0 places e) ∙ ap (waits 0) (sym is)
