-- What is noted of a number's elements, one element at a time.
use Rattle.std.proofs.Common.{◌≡◌, ℕ, ◌<◌, ◌≤◌, List, [], ◌∷◌, length, Ok, Err, refl, sym, ap}
use Rattle.std.proofs.Common.{◌∙◌, arith, subst, set, get_or}
use Rattle.std.proofs.Common.{inl, inr}
use Rattle.std.proofs.lemmas.Bool.{cases_eq, cases_lt, ne_eqb}
use Rattle.std.proofs.lemmas.List.{get_or-set_same, get_or-set_other}
use Rattle.cbsp_wire.specs.declared.message.message_type.MessageType.{MessageType}
use Rattle.cbsp_wire.specs.declared.message.message_type.Presence.TheVariants as presences
use Rattle.cbsp_wire.specs.declared.reading.elements.WalkEnd.{WalkEnd}
use Rattle.cbsp_wire.specs.declared.reading.elements.WalkEnd.TheVariants.{Complete}
use Rattle.cbsp_wire.specs.declared.reading.places.Place.{Place}
use Rattle.cbsp_wire.specs.declared.reading.places.Place.TheVariants.{Nowhere, Once, Again}
use Rattle.cbsp_wire.specs.Body.{Body, elements_in}
use Rattle.cbsp_wire.specs.Element.{bodies_of}
use Rattle.cbsp_wire.specs.Places.{HasAllOf, IsNoted, AreNoted}
use Rattle.cbsp_wire.specs.Table.{presence_of, table}
use Rattle.cbsp_wire.specs.Walk.{front_of, walk_of}
use Rattle.cbsp_wire.proofs.Walks.{bodies_of-found, bodies_of-passed, bodies_of-ended}

-- where no octets are left, no elements are
pub none_left : (message_type : MessageType) (n : ℕ) → bodies_of n (walk_of message_type []).elements ≡ []
none_left message_type n = bodies_of-ended message_type [] n Complete refl

-- an element of another number
pub noted_other : (body : Body) (n number : ℕ) (from first rest : List ℕ) (place : Place)
    → front_of body.message_type from ≡ Ok (record { number = number; body = first }, rest)
    → (number ≡ n → ⊥)
    → IsNoted body from n place
    → IsNoted body rest n place
noted_other body n number from first rest Nowhere front other h =
    sym (bodies_of-passed body.message_type from n number first rest front other) ∙ h
noted_other body n number from first rest (Once place) front other h =
    let same = bodies_of-passed body.message_type from n number first rest front other in
    (h.0, (h.1.0, h.1.1 ∙ ap (λ (bodies : List (List ℕ)). h.1.0 ∷ bodies) same))
noted_other body n number from first rest (Again place) front other h = h

-- the first element of its number
pub noted_first : (body : Body) (n : ℕ) (from first rest : List ℕ)
    → front_of body.message_type from ≡ Ok (record { number = n; body = first }, rest)
    → HasAllOf body n from
    → HasAllOf body n from × ((x : List ℕ)
    × (bodies_of n (elements_in body) ≡ x ∷ bodies_of n (walk_of body.message_type rest).elements))
noted_first body n from first rest front h =
    (h, (first, sym h ∙ bodies_of-found body.message_type from n n first rest front refl))

-- the second
pub noted_second : (body : Body) (n : ℕ) (from first rest x : List ℕ)
    → front_of body.message_type from ≡ Ok (record { number = n; body = first }, rest)
    → bodies_of n (elements_in body) ≡ x ∷ bodies_of n (walk_of body.message_type from).elements
    → 2 ≤ length (bodies_of n (elements_in body))
noted_second body n from first rest x front h =
    omega (
      arith,
      ap (λ (bodies : List (List ℕ)). length bodies) h,
      ap (λ (bodies : List (List ℕ)). length bodies)
          (bodies_of-found body.message_type from n n first rest front refl),
    )

-- where the walk ends, nothing is left
pub noted_end : (body : Body) (n : ℕ) (from : List ℕ) (place : Place) (end : WalkEnd)
    → front_of body.message_type from ≡ Err end
    → IsNoted body from n place
    → IsNoted body [] n place
noted_end body n from Nowhere end front h =
    none_left body.message_type n ∙ sym (bodies_of-ended body.message_type from n end front) ∙ h
noted_end body n from (Once place) end front h =
    let same = bodies_of-ended body.message_type from n end front ∙ sym (none_left body.message_type n) in
    (h.0, (h.1.0, h.1.1 ∙ ap (λ (bodies : List (List ℕ)). h.1.0 ∷ bodies) same))
noted_end body n from (Again place) end front h = h

-- a place is set to that of one more element of its number
pub noted_at : (body : Body) (places : List Place) (number : ℕ) (from first rest : List ℕ) (place : Place)
    → number < length places
    → front_of body.message_type from ≡ Ok (record { number = number; body = first }, rest)
    → AreNoted body from places
    → IsNoted body rest number place
    → AreNoted body rest (set places number place)
noted_at body places number from first rest place within front all here n = elim (cases_eq n number) [
  | inl same ↦
      let there : get_or (set places number place) n Nowhere ≡ place =
      ap (λ (k : ℕ). get_or (set places number place) k Nowhere) same
      ∙ get_or-set_same places number place Nowhere within in
      rw there (subst (λ (k : ℕ). IsNoted body rest k place) (sym same) here)
  | inr other ↦
      rw (get_or-set_other places number n place Nowhere other)
      (noted_other body n number from first rest (get_or places n Nowhere) front (λ e. other (sym e)) (all n))
]

absent : (message_type : MessageType) (n : ℕ) → 20 ≤ n → presence_of message_type n ≡ presences.Absent
unfolding presence_of table
absent message_type n high =
    rw (
      ne_eqb 14 n (λ e. omega (arith, e)),
      ne_eqb 3 n (λ e. omega (arith, e)),
      ne_eqb 2 n (λ e. omega (arith, e)),
      ne_eqb 9 n (λ e. omega (arith, e)),
      ne_eqb 8 n (λ e. omega (arith, e)),
      ne_eqb 4 n (λ e. omega (arith, e)),
      ne_eqb 18 n (λ e. omega (arith, e)),
      ne_eqb 5 n (λ e. omega (arith, e)),
      ne_eqb 6 n (λ e. omega (arith, e)),
      ne_eqb 7 n (λ e. omega (arith, e)),
      ne_eqb 19 n (λ e. omega (arith, e)),
      ne_eqb 12 n (λ e. omega (arith, e)),
      ne_eqb 1 n (λ e. omega (arith, e)),
    ) refl

-- numbers of elements are below 20
pub number_low : (message_type : MessageType) (n : ℕ) → (presence_of message_type n ≡ presences.Absent → ⊥) → n < 20
number_low message_type n known = elim (cases_lt n 20) [
  | inl low ↦ low
  | inr high ↦ absurd (known (absent message_type n high))
]
