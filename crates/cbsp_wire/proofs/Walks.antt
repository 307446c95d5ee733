-- The walk over elements, one element at a time.
use Rattle.std.proofs.Common.{◌≡◌, ℕ, zero, suc, ◌+◌, ◌<◌, ◌≤◌, Bool, true, false, cond, ltb, eqb, eq-eqb, List, []}
use Rattle.std.proofs.Common.{◌∷◌, ◌++◌, length, take, drop, ◌*◌, Option, Some, None, Result, Ok, Err, refl, ap, ◌∙◌}
use Rattle.std.proofs.Common.{arith}
use Rattle.std.proofs.lemmas.List.{length-drop, length-take}
use Rattle.std.proofs.lemmas.Bool.{ne_eqb}
use Rattle.cbsp_wire.specs.declared.message.message_type.MessageType.{MessageType}
use Rattle.cbsp_wire.specs.declared.message.message_type.Presence.{Presence}
use Rattle.cbsp_wire.specs.declared.message.message_type.Presence.TheVariants as presences
use Rattle.cbsp_wire.specs.declared.reading.elements.WalkEnd.{WalkEnd}
use Rattle.cbsp_wire.specs.declared.reading.elements.WalkEnd.TheVariants.{Complete, CutOff}
use Rattle.cbsp_wire.specs.Element.{Element, bodies_of, u16_from_be}
use Rattle.cbsp_wire.specs.Table.{presence_of, size_of, size_by, size_in, row_in, table, Row, Size, Fixed, Listed}
use Rattle.cbsp_wire.specs.Walk.{body_at, element_at, front_of, Walk, then_walk, walk_within, walk_of}

body_shorter : (n : ℕ) (octets : List ℕ) (x : Element × List ℕ) → body_at n octets ≡ Ok x → length x.1 ≤ length octets
body_shorter n octets x e = chosen (ltb (length octets) (size_of n octets)) e where
  chosen : (b : Bool)
      → cond b (Err CutOff)
      (Ok (record { number = n; body = take (size_of n octets) octets }, drop (size_of n octets) octets)) ≡ Ok x
      → length x.1 ≤ length octets
  chosen true h = absurd cc
  chosen false h =
      let rest : drop (size_of n octets) octets ≡ x.1 = cc in
      rw (← rest) (omega (arith, length-drop (size_of n octets) octets))

element_shorter : (presence : Presence) (n : ℕ) (octets : List ℕ) (x : Element × List ℕ)
    → element_at presence n octets ≡ Ok x
    → length x.1 ≤ length octets
element_shorter presences.Absent n octets x e = absurd cc
element_shorter presences.Mandatory n octets x e = body_shorter n octets x e
element_shorter presences.Optional n octets x e = body_shorter n octets x e

-- an element takes at least its number
pub front_shorter : (message_type : MessageType) (octets : List ℕ) (x : Element × List ℕ)
    → front_of message_type octets ≡ Ok x
    → length x.1 < length octets
front_shorter message_type [] x e = absurd cc
front_shorter message_type (n ∷ octets) x e = omega (arith, element_shorter (presence_of message_type n) n octets x e)

-- more room changes no walk
walk_within-more : (j k : ℕ) (message_type : MessageType) (octets : List ℕ) → length octets ≤ j → length octets ≤ k
    → walk_within j message_type octets ≡ walk_within k message_type octets
unfolding walk_within
walk_within-more zero zero message_type octets hj hk = refl
walk_within-more zero (suc k) message_type [] hj hk = refl
walk_within-more zero (suc k) message_type (n ∷ octets) hj hk = absurd (omega arith)
walk_within-more (suc j) zero message_type [] hj hk = refl
walk_within-more (suc j) zero message_type (n ∷ octets) hj hk = absurd (omega arith)
walk_within-more (suc j) (suc k) message_type octets hj hk =
    step (λ rest hr hs. walk_within-more j k message_type rest hr hs) (front_of message_type octets) refl where
      step : ((rest : List ℕ) → length rest ≤ j → length rest ≤ k
          → walk_within j message_type rest ≡ walk_within k message_type rest)
          → (f : Result (Element × List ℕ) WalkEnd) → front_of message_type octets ≡ f
          → then_walk f (λ rest. walk_within j message_type rest) ≡ then_walk f
          (λ rest. walk_within k message_type rest)
      step same (Err s) e = refl
      step same (Ok x) e =
          let lt = front_shorter message_type octets x e in
          ap (λ (w : Walk). let r : Walk = record { elements = x.0 ∷ w.elements; stop = w.stop } in r)
          (same x.1 (omega arith) (omega arith))

-- an element at the front is the first that is taken
pub walk_of-taken : (message_type : MessageType) (octets : List ℕ) (e : Element) (rest : List ℕ)
    → front_of message_type octets ≡ Ok (e, rest)
    → walk_of message_type octets ≡
    (let w : Walk = record {
      elements = e ∷ (walk_of message_type rest).elements;
      stop =
          (walk_of message_type rest).stop;
    } in w)
unfolding walk_of walk_within
walk_of-taken message_type [] e rest h = absurd cc
walk_of-taken message_type (n ∷ octets) e rest h =
    let lt = front_shorter message_type (n ∷ octets) (e, rest) h in
    let same : walk_within (length octets) message_type rest ≡ walk_within (length rest) message_type rest =
    walk_within-more (length octets) (length rest) message_type rest (omega arith) (omega arith) in
    ap (λ (f : Result (Element × List ℕ) WalkEnd). then_walk f (λ r. walk_within (length octets) message_type r)) h
    ∙ ap (λ (w : Walk). let r : Walk = record { elements = e ∷ w.elements; stop = w.stop } in r) same

-- where no element is at the front, none is taken
pub walk_of-stopped : (message_type : MessageType) (octets : List ℕ) (s : WalkEnd)
    → front_of message_type octets ≡ Err s
    → walk_of message_type octets ≡ (let w : Walk = record { elements = []; stop = s } in w)
unfolding walk_of walk_within
walk_of-stopped message_type [] s h = let e : Complete ≡ s = cc in rw (← e) refl
walk_of-stopped message_type (n ∷ octets) s h =
    ap (λ (f : Result (Element × List ℕ) WalkEnd). then_walk f (λ r. walk_within (length octets) message_type r)) h

-- the body alone says the size of an element
listed-append : (octets rest : List ℕ) → 2 + u16_from_be octets ≤ length octets
    → 2 + u16_from_be (octets ++ rest) ≡ 2 + u16_from_be octets
listed-append [] rest le = absurd (omega arith)
listed-append (a ∷ []) rest le = absurd (omega arith)
listed-append (a ∷ b ∷ octets) rest le = refl

size_by-append : (r : Option Row) (octets rest : List ℕ) → size_by r octets ≤ length octets
    → size_by r (octets ++ rest) ≡ size_by r octets
size_by-append None octets rest h = refl
size_by-append (Some r) octets rest h = by_size r.size h where
  by_size : (s : Size) → size_in s octets ≤ length octets → size_in s (octets ++ rest) ≡ size_in s octets
  by_size (Fixed k) le = refl
  by_size Listed le = listed-append octets rest le

-- octets after a body do not change its size
pub size_of-append : (n : ℕ) (octets rest : List ℕ) → size_of n octets ≤ length octets
    → size_of n (octets ++ rest) ≡ size_of n octets
unfolding size_of
size_of-append n octets rest h = size_by-append (row_in table n) octets rest h

listed-take : (octets : List ℕ) → 2 + u16_from_be octets ≤ length octets
    → 2 + u16_from_be (take (2 + u16_from_be octets) octets) ≡ 2 + u16_from_be octets
listed-take [] le = absurd (omega arith)
listed-take (a ∷ []) le = absurd (omega arith)
listed-take (a ∷ b ∷ octets) le =
    let e : 2 + (a * 256 + b) ≡ suc (suc (a * 256 + b)) = omega arith in
    ap (λ (n : ℕ). 2 + u16_from_be (take n (a ∷ b ∷ octets))) e

size_by-take : (r : Option Row) (octets : List ℕ) → size_by r octets ≤ length octets
    → size_by r (take (size_by r octets) octets) ≡ size_by r octets
size_by-take None octets h = refl
size_by-take (Some r) octets h = by_size r.size h where
  by_size : (s : Size) → size_in s octets ≤ length octets
      → size_in s (take (size_in s octets) octets) ≡ size_in s octets
  by_size (Fixed k) le = refl
  by_size Listed le = listed-take octets le

-- the body that is taken has the size of its element
pub size_of-take : (n : ℕ) (octets : List ℕ) → size_of n octets ≤ length octets
    → size_of n (take (size_of n octets) octets) ≡ size_of n octets
unfolding size_of
size_of-take n octets h = size_by-take (row_in table n) octets h

-- a body that is taken is as long as its size says
pub body_sized : (n : ℕ) (octets : List ℕ) → size_of n octets ≤ length octets
    → length (take (size_of n octets) octets) ≡ size_of n (take (size_of n octets) octets)
body_sized n octets h = omega (arith, length-take (size_of n octets) octets, size_of-take n octets h)

-- the same, of a front of octets that is known by its length
pub front_sized : (n size : ℕ) (octets front : List ℕ) → size ≡ size_of n octets → size ≤ length octets
    → front ≡ take size octets → length front ≡ size_of n front
front_sized n size octets front is_size fits is_front =
    let e : front ≡ take (size_of n octets) octets = is_front ∙ ap (λ (k : ℕ). take k octets) is_size in
    rw e (body_sized n octets (omega arith))

-- the bodies of a number, where an element is at the front
pub bodies_of-found : (message_type : MessageType) (octets : List ℕ) (n found : ℕ) (body rest : List ℕ)
    → front_of message_type octets ≡ Ok (record { number = found; body = body }, rest) → found ≡ n
    → bodies_of n (walk_of message_type octets).elements ≡ body ∷ bodies_of n (walk_of message_type rest).elements
bodies_of-found message_type octets n found body rest h same =
    let e : Element = record { number = found; body = body } in
    let test : eqb found n ≡ true = eq-eqb found n same in
    ap (λ (w : Walk). bodies_of n w.elements) (walk_of-taken message_type octets e rest h) ∙ rw test refl

-- the bodies of a number, where another element is at the front
pub bodies_of-passed : (message_type : MessageType) (octets : List ℕ) (n found : ℕ) (body rest : List ℕ)
    → front_of message_type octets ≡ Ok (record { number = found; body = body }, rest) → (found ≡ n → ⊥)
    → bodies_of n (walk_of message_type octets).elements ≡ bodies_of n (walk_of message_type rest).elements
bodies_of-passed message_type octets n found body rest h other =
    let e : Element = record { number = found; body = body } in
    let test : eqb found n ≡ false = ne_eqb found n other in
    ap (λ (w : Walk). bodies_of n w.elements) (walk_of-taken message_type octets e rest h) ∙ rw test refl

-- no bodies, where the walk ends at once
pub bodies_of-ended : (message_type : MessageType) (octets : List ℕ) (n : ℕ) (s : WalkEnd)
    → front_of message_type octets ≡ Err s
    → bodies_of n (walk_of message_type octets).elements ≡ []
bodies_of-ended message_type octets n s h = ap (λ (w : Walk). bodies_of n w.elements)
    (walk_of-stopped message_type octets s h)

-- why the walk ends, past the element at the front
pub stop-taken : (message_type : MessageType) (octets : List ℕ) (e : Element) (rest : List ℕ)
    → front_of message_type octets ≡ Ok (e, rest)
    → (walk_of message_type octets).stop ≡ (walk_of message_type rest).stop
stop-taken message_type octets e rest h = ap (λ (w : Walk). w.stop) (walk_of-taken message_type octets e rest h)

-- why the walk ends, where it ends at once
pub stop-ended : (message_type : MessageType) (octets : List ℕ) (s : WalkEnd) → front_of message_type octets ≡ Err s
    → (walk_of message_type octets).stop ≡ s
stop-ended message_type octets s h = ap (λ (w : Walk). w.stop) (walk_of-stopped message_type octets s h)
