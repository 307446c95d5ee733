-- The first order that a message answers: what is found among those that wait is what stands first among the
-- exchanges.
use Rattle.std.proofs.Common.{◌≡◌, ◌<◌, ◌≤◌, ◌+◌, ◌∙◌, ℕ, suc, Bool, true, false, cond, not, List, [], ◌∷◌}
use Rattle.std.proofs.Common.{Option, Some, None, length, get_or, set, refl, sym, subst, ap, arith, inl, inr}
use Rattle.std.specs.Prelude.{find, remove, position}
use Rattle.std.specs.List.{position_or_len}
use Rattle.std.proofs.lemmas.Bool.{cases_Bool}
use Rattle.std.proofs.lemmas.List.{get_or-map, length-map}
use Rattle.cbsp_wire.specs.declared.message.Cell.{Cell}
use Rattle.cell_orders.specs.declared.heard.Heard.{Heard}
use Rattle.cell_orders.specs.Exchange.{LinkExchange, answers, waits_for, without_first}
use Rattle.cell_orders.specs.declared.exchange.Waiting.{Waiting}
use Rattle.cell_orders.specs.Steps.{Wait, wait_at, wait_of, waits, waits_kept, standing}
use Rattle.cell_orders.proofs.Places.{place_none, place_seen, place_some, place_within}

-- an exchange of an order
abbrev pub with_answer : Heard → Option Heard → LinkExchange
with_answer o a = record { order = o; answer = a }

-- an order that waits at a place
abbrev pub wait : ℕ → Heard → Wait
wait n o = record { place = n; order = o }

-- whether the message answers it
abbrev pub is_answered : Cell → Heard → Wait → Bool
is_answered cell h w = answers cell h w.order

-- what is so of the order at a number among those that wait, if the message answers it first: its place is there, it
-- stands first among the exchanges that wait for the message, and it leaves both lists
pub record Taken (cell : Cell) (h : Heard) (n : ℕ) (places : List (Option LinkExchange)) (number : ℕ) (w : Wait) : Type
    0
  where
    pub k : ℕ
    pub place : w.place ≡ n + k
    pub within : k < length places
    pub found : find (waits_for cell h) (standing places) ≡ Some (with_answer w.order None)
    pub without : standing (set places k None) ≡ without_first (waits_for cell h) (standing places)
    pub rest : waits n (set places k None) ≡ remove (waits n places) number

skipped : (cell : Cell) (h : Heard) (n : ℕ) (places : List (Option LinkExchange)) (number : ℕ) (w : Wait)
    → Taken cell h (suc n) places number w → Taken cell h n (None ∷ places) number w
skipped cell h n places number w t = record {
  k = suc t.k;
  place = omega (arith, t.place);
  within = omega (arith, t.within);
  found = t.found;
  without = t.without;
  rest = t.rest;
}

passed : (cell : Cell) (h : Heard) (n : ℕ) (o x : Heard) (places : List (Option LinkExchange)) (number : ℕ) (w : Wait)
    → Taken cell h (suc n) places number w → Taken cell h n (Some (with_answer o (Some x)) ∷ places) number w
passed cell h n o x places number w t = record {
  k = suc t.k;
  place = omega (arith, t.place);
  within = omega (arith, t.within);
  found = t.found;
  without = ap (λ es. with_answer o (Some x) ∷ es) t.without;
  rest = t.rest;
}

later : (cell : Cell) (h : Heard) (n : ℕ) (o : Heard) (places : List (Option LinkExchange)) (number : ℕ) (w : Wait)
    → answers cell h o ≡ false → Taken cell h (suc n) places number w
    → Taken cell h n (Some (with_answer o None) ∷ places) (suc number) w
later cell h n o places number w other t = record {
  k = suc t.k;
  place = omega (arith, t.place);
  within = omega (arith, t.within);
  found = rw other t.found;
  without = rw other (ap (λ es. with_answer o None ∷ es) t.without);
  rest = ap (λ ws. wait n o ∷ ws) t.rest;
}

here : (cell : Cell) (h : Heard) (n : ℕ) (o : Heard) (places : List (Option LinkExchange))
    → answers cell h o ≡ true → Taken cell h n (Some (with_answer o None) ∷ places) 0 (wait n o)
here cell h n o places answer = record {
  k = 0;
  place = omega arith;
  within = omega arith;
  found = rw answer refl;
  without = rw answer refl;
  rest = refl;
}

more : (m : ℕ) → 1 + m ≡ suc m
more m = omega arith

-- of an order that waits and others
first_of : (cell : Cell) (h : Heard) (n : ℕ) (o : Heard) (places : List (Option LinkExchange)) (number : ℕ) (w : Wait)
    → ((m : ℕ) → m ≡ position_or_len (is_answered cell h) (waits (suc n) places) → m < length (waits (suc n) places)
    → w ≡ get_or (waits (suc n) places) m w → Taken cell h (suc n) places m w)
    → number ≡ position_or_len (is_answered cell h) (wait n o ∷ waits (suc n) places)
    → number < length (wait n o ∷ waits (suc n) places)
    → w ≡ get_or (wait n o ∷ waits (suc n) places) number w
    → Taken cell h n (Some (with_answer o None) ∷ places) number w
first_of cell h n o places number w others is less at = elim (cases_Bool (answers cell h o)) [
  | inl answer ↦
      let zero : number ≡ 0 = is ∙ ap
      (λ b. cond (not b) (1 + position_or_len (is_answered cell h) (waits (suc n) places)) 0) answer in
      let same : w ≡ wait n o = at ∙ ap (λ m. get_or (wait n o ∷ waits (suc n) places) m w) zero in
      subst (λ m. Taken cell h n (Some (with_answer o None) ∷ places) m w) (sym zero)
      (subst (λ v. Taken cell h n (Some (with_answer o None) ∷ places) 0 v) (sym same)
      (here cell h n o places answer))
  | inr other ↦
      let m : ℕ = position_or_len (is_answered cell h) (waits (suc n) places) in
      let next : number ≡ suc m = is ∙ ap (λ b. cond (not b) (1 + m) 0) other ∙ more m in
      let same : w ≡ get_or (waits (suc n) places) m w =
      at ∙ ap (λ i. get_or (wait n o ∷ waits (suc n) places) i w) next in
      subst (λ i. Taken cell h n (Some (with_answer o None) ∷ places) i w) (sym next)
      (later cell h n o places m w other (others m refl (omega (arith, less, next)) same))
]

-- of an exchange and others
first_at : (cell : Cell) (h : Heard) (n : ℕ) (o : Heard) (a : Option Heard) (places : List (Option LinkExchange))
    (number : ℕ) (w : Wait)
    → ((m : ℕ) → m ≡ position_or_len (is_answered cell h) (waits (suc n) places) → m < length (waits (suc n) places)
    → w ≡ get_or (waits (suc n) places) m w → Taken cell h (suc n) places m w)
    → number ≡ position_or_len (is_answered cell h) (wait_at n (with_answer o a) (waits (suc n) places))
    → number < length (wait_at n (with_answer o a) (waits (suc n) places))
    → w ≡ get_or (wait_at n (with_answer o a) (waits (suc n) places)) number w
    → Taken cell h n (Some (with_answer o a) ∷ places) number w
first_at cell h n o None places number w others is less at = first_of cell h n o places number w others is less at
first_at cell h n o (Some x) places number w others is less at =
    passed cell h n o x places number w (others number is less at)

-- what is found first among those that wait is so
pub taken : (cell : Cell) (h : Heard) (n : ℕ) (places : List (Option LinkExchange)) (number : ℕ) (w : Wait)
    → number ≡ position_or_len (is_answered cell h) (waits n places) → number < length (waits n places)
    → w ≡ get_or (waits n places) number w → Taken cell h n places number w
taken cell h n [] number w is less at = absurd (omega (arith, less))
taken cell h n (None ∷ places) number w is less at =
    skipped cell h n places number w (taken cell h (suc n) places number w is less at)
taken cell h n (Some e ∷ places) number w is less at =
    first_at cell h n e.order e.answer places number w (λ m. taken cell h (suc n) places m w) is less at

-- no exchange waits for a message that answers none of those that wait
none_of : (cell : Cell) (h : Heard) (n : ℕ) (o : Heard) (places : List (Option LinkExchange))
    → (length (waits (suc n) places) ≤ position_or_len (is_answered cell h) (waits (suc n) places)
    → find (waits_for cell h) (standing places) ≡ None)
    → length (wait n o ∷ waits (suc n) places)
    ≤ position_or_len (is_answered cell h) (wait n o ∷ waits (suc n) places)
    → find (waits_for cell h) (with_answer o None ∷ standing places) ≡ None
none_of cell h n o places others all = elim (cases_Bool (answers cell h o)) [
  | inl answer ↦
      let zero : position_or_len (is_answered cell h) (wait n o ∷ waits (suc n) places) ≡ 0 = rw answer refl in
      absurd (omega (arith, all, zero))
  | inr other ↦
      let m : ℕ = position_or_len (is_answered cell h) (waits (suc n) places) in
      let next : position_or_len (is_answered cell h) (wait n o ∷ waits (suc n) places) ≡ suc m =
      ap (λ b. cond (not b) (1 + m) 0) other ∙ more m in
      rw other (others (omega (arith, all, next)))
]

none_at : (cell : Cell) (h : Heard) (n : ℕ) (o : Heard) (a : Option Heard) (places : List (Option LinkExchange))
    → (length (waits (suc n) places) ≤ position_or_len (is_answered cell h) (waits (suc n) places)
    → find (waits_for cell h) (standing places) ≡ None)
    → length (wait_at n (with_answer o a) (waits (suc n) places))
    ≤ position_or_len (is_answered cell h) (wait_at n (with_answer o a) (waits (suc n) places))
    → find (waits_for cell h) (with_answer o a ∷ standing places) ≡ None
none_at cell h n o None places others all = none_of cell h n o places others all
none_at cell h n o (Some x) places others all = others all

-- none is answered
pub none_taken : (cell : Cell) (h : Heard) (n : ℕ) (places : List (Option LinkExchange))
    → length (waits n places) ≤ position_or_len (is_answered cell h) (waits n places)
    → find (waits_for cell h) (standing places) ≡ None
none_taken cell h n [] all = refl
none_taken cell h n (None ∷ places) all = none_taken cell h (suc n) places all
none_taken cell h n (Some e ∷ places) all =
    none_at cell h n e.order e.answer places (none_taken cell h (suc n) places) all

-- the same of the list of those that wait
pub taken_of : (cell : Cell) (h : Heard) (waiting : List Waiting) (places : List (Option LinkExchange)) (number : ℕ)
    (one : Waiting) → waits_kept waiting ≡ waits 0 places
    → position (λ w. answers cell h w.order.now) waiting ≡ Some number → one ≡ get_or waiting number one
    → Taken cell h 0 places number (wait_of one)
taken_of cell h waiting places number one same first at =
    let test : Wait → Bool = is_answered cell h in
    let less : number < length waiting = place_within (λ w. answers cell h w.order.now) waiting number first in
    taken cell h 0 places number (wait_of one)
    (place_some (λ w. answers cell h w.order.now) waiting number first ∙ sym (place_seen wait_of test waiting)
    ∙ ap (position_or_len test) same)
    (subst (λ ws. number < length ws) same (omega (arith, less, length-map waiting wait_of)))
    (ap wait_of at ∙ sym (get_or-map wait_of waiting number one (wait_of one) less)
    ∙ ap (λ ws. get_or ws number (wait_of one)) same)

-- none of those that wait is answered
pub none_of_them : (cell : Cell) (h : Heard) (waiting : List Waiting) (places : List (Option LinkExchange))
    → waits_kept waiting ≡ waits 0 places → position (λ w. answers cell h w.order.now) waiting ≡ None
    → find (waits_for cell h) (standing places) ≡ None
none_of_them cell h waiting places same none =
    let test : Wait → Bool = is_answered cell h in
    let all : length waiting ≤ position_or_len (λ (w : Waiting). answers cell h w.order.now) waiting =
    place_none (λ w. answers cell h w.order.now) waiting none in
    none_taken cell h 0 places
    (subst (λ ws. length ws ≤ position_or_len test ws) same
    (omega (arith, all, place_seen wait_of test waiting, length-map waiting wait_of)))
