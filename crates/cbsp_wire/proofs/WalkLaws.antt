-- The walk takes back the elements that octets are made of, and no others.
use Rattle.std.proofs.Common.{◌≡◌, ℕ, zero, suc, ◌≤◌, Bool, true, false, cond, ltb, List, [], ◌∷◌, ◌++◌, length, take}
use Rattle.std.proofs.Common.{drop, Result, Ok, Err, refl, sym, ap, subst, ◌∙◌, arith}
use Rattle.std.specs.List.{AllByRecursion}
use Rattle.std.proofs.lemmas.List.{length-append, take_at, drop_at, take-append-drop}
use Rattle.std.proofs.lemmas.Bool.{ltb-false, le-ltb}
use Rattle.cbsp_wire.specs.declared.message.message_type.MessageType.{MessageType}
use Rattle.cbsp_wire.specs.declared.message.message_type.Presence.{Presence}
use Rattle.cbsp_wire.specs.declared.message.message_type.Presence.TheVariants as presences
use Rattle.cbsp_wire.specs.declared.reading.elements.WalkEnd.{WalkEnd}
use Rattle.cbsp_wire.specs.declared.reading.elements.WalkEnd.TheVariants.{Complete, CutOff}
use Rattle.cbsp_wire.specs.Element.{Element, octets_of_elements}
use Rattle.cbsp_wire.specs.Table.{presence_of, size_of}
use Rattle.cbsp_wire.specs.Walk.{body_at, element_at, front_of, Walk, walk_of}
use Rattle.cbsp_wire.specs.Meaning.{IsOf}
use Rattle.cbsp_wire.proofs.Walks.{front_shorter, walk_of-taken, walk_of-stopped, size_of-append, body_sized}

-- a whole body is taken from the front
body_again : (n : ℕ) (body rest : List ℕ) → length body ≡ size_of n body
    → body_at n (body ++ rest) ≡ Ok (record { number = n; body = body }, rest)
body_again n body rest sized =
    let size : size_of n (body ++ rest) ≡ length body = size_of-append n body rest (omega arith) ∙ sym sized in
    let fits : ltb (length (body ++ rest)) (length body) ≡ false =
    le-ltb _ _ (omega (arith, length-append body rest)) in
    rw (size, fits, take_at body rest (length body) refl, drop_at body rest (length body) refl) refl

element_again : (presence : Presence) (n : ℕ) (body rest : List ℕ) → (presence ≡ presences.Absent → ⊥)
    → length body ≡ size_of n body
    → element_at presence n (body ++ rest) ≡ Ok (record { number = n; body = body }, rest)
element_again presences.Absent n body rest known sized = absurd (known refl)
element_again presences.Mandatory n body rest known sized = body_again n body rest sized
element_again presences.Optional n body rest known sized = body_again n body rest sized

front_again : (message_type : MessageType) (e : Element) (rest : List ℕ) → IsOf message_type e
    → front_of message_type (e.number ∷ (e.body ++ rest)) ≡ Ok (e, rest)
front_again message_type e rest is_of = element_again (presence_of message_type e.number) e.number e.body rest
    is_of.known is_of.sized

-- elements of this message are taken back from their octets
pub walk_of-elements : (message_type : MessageType) (es : List Element) → AllByRecursion (IsOf message_type) es
    → walk_of message_type (octets_of_elements es) ≡ (let w : Walk = record { elements = es; stop = Complete } in w)
walk_of-elements message_type [] all = walk_of-stopped message_type [] Complete refl
walk_of-elements message_type (e ∷ es) all =
    walk_of-taken message_type (octets_of_elements (e ∷ es)) e (octets_of_elements es)
    (front_again message_type e (octets_of_elements es) all.0)
    ∙ ap (λ (w : Walk). let r : Walk = record { elements = e ∷ w.elements; stop = w.stop } in r)
    (walk_of-elements message_type es all.1)

-- what an element at the front is
pub record IsFront (message_type : MessageType) (octets : List ℕ) (e : Element) (rest : List ℕ) : Type 0 where
  pub parts : octets ≡ e.number ∷ (e.body ++ rest)
  pub is_of : IsOf message_type e

abbrev ok : Element × List ℕ → Result (Element × List ℕ) WalkEnd
ok x = Ok x

ok_is : (x y : Element × List ℕ) → ok x ≡ ok y → x ≡ y
ok_is x y e = cc

body_parts : (message_type : MessageType) (n : ℕ) (octets : List ℕ) (e : Element) (rest : List ℕ)
    → (presence_of message_type n ≡ presences.Absent → ⊥) → body_at n octets ≡ Ok (e, rest)
    → IsFront message_type (n ∷ octets) e rest
body_parts message_type n octets e rest known h = chosen (ltb (length octets) (size_of n octets)) refl h where
  chosen : (b : Bool) → ltb (length octets) (size_of n octets) ≡ b
      → cond {A = Result (Element × List ℕ) WalkEnd} b (Err CutOff)
      (Ok (record { number = n; body = take (size_of n octets) octets }, drop (size_of n octets) octets))
      ≡ Ok (e, rest)
      → IsFront message_type (n ∷ octets) e rest
  chosen true test g = absurd cc
  chosen false test g =
      let taken : Element = record { number = n; body = take (size_of n octets) octets } in
      let pair = ok_is (taken, drop (size_of n octets) octets) (e, rest) g in
      let is_e : taken ≡ e = ap (λ (p : Element × List ℕ). p.0) pair in
      let is_rest : drop (size_of n octets) octets ≡ rest = ap (λ (p : Element × List ℕ). p.1) pair in
      let made : IsFront message_type (n ∷ octets) taken (drop (size_of n octets) octets) = record {
        parts = ap (λ (o : List ℕ). n ∷ o) (sym (take-append-drop (size_of n octets) octets));
        is_of = record { known = known; sized = body_sized n octets (ltb-false _ _ test) };
      } in
      subst (λ (f : Element). IsFront message_type (n ∷ octets) f rest) is_e
      (subst (λ (r : List ℕ). IsFront message_type (n ∷ octets) taken r) is_rest made)

element_parts : (message_type : MessageType) (presence : Presence) (n : ℕ) (octets : List ℕ) (e : Element)
    (rest : List ℕ)
    → presence_of message_type n ≡ presence → element_at presence n octets ≡ Ok (e, rest)
    → IsFront message_type (n ∷ octets) e rest
element_parts message_type presences.Absent n octets e rest is_presence h = absurd cc
element_parts message_type presences.Mandatory n octets e rest is_presence h = body_parts message_type n octets e rest
    (λ foreign. cc) h
element_parts message_type presences.Optional n octets e rest is_presence h = body_parts message_type n octets e rest
    (λ foreign. cc) h

-- an element at the front is of the message, and the octets are its octets and the rest
pub front_parts : (message_type : MessageType) (octets : List ℕ) (e : Element) (rest : List ℕ)
    → front_of message_type octets ≡ Ok (e, rest)
    → IsFront message_type octets e rest
front_parts message_type [] e rest h = absurd cc
front_parts message_type (n ∷ octets) e rest h = element_parts message_type (presence_of message_type n) n octets e
    rest refl h

body_no_end : (n : ℕ) (octets : List ℕ) → body_at n octets ≡ Err Complete → ⊥
body_no_end n octets h = chosen (ltb (length octets) (size_of n octets)) h where
  chosen : (b : Bool)
      → cond {A = Result (Element × List ℕ) WalkEnd} b (Err CutOff)
      (Ok (record { number = n; body = take (size_of n octets) octets }, drop (size_of n octets) octets))
      ≡ Err Complete
      → ⊥
  chosen true g = cc
  chosen false g = cc

element_no_end : (presence : Presence) (n : ℕ) (octets : List ℕ) → element_at presence n octets ≡ Err Complete → ⊥
element_no_end presences.Absent n octets h = cc
element_no_end presences.Mandatory n octets h = body_no_end n octets h
element_no_end presences.Optional n octets h = body_no_end n octets h

front_ends : (message_type : MessageType) (octets : List ℕ) → front_of message_type octets ≡ Err Complete → octets ≡ []
front_ends message_type [] h = refl
front_ends message_type (n ∷ octets) h = absurd (element_no_end (presence_of message_type n) n octets h)

-- octets whose walk comes to their end
pub record IsWhole (message_type : MessageType) (octets : List ℕ) (es : List Element) : Type 0 where
  pub parts : octets ≡ octets_of_elements es
  pub of_type : AllByRecursion (IsOf message_type) es

whole_taken : (message_type : MessageType) (octets : List ℕ) (e : Element) (rest : List ℕ)
    → front_of message_type octets ≡ Ok (e, rest)
    → IsWhole message_type rest (walk_of message_type rest).elements
    → IsWhole message_type octets (walk_of message_type octets).elements
whole_taken message_type octets e rest h others =
    let front = front_parts message_type octets e rest h in
    let made : IsWhole message_type octets (e ∷ (walk_of message_type rest).elements) = record {
      parts = front.parts ∙ ap (λ (r : List ℕ). e.number ∷ (e.body ++ r)) others.parts;
      of_type = (front.is_of, others.of_type);
    } in
    subst (λ (w : Walk). IsWhole message_type octets w.elements) (sym (walk_of-taken message_type octets e rest h)) made

whole_ended : (message_type : MessageType) (octets : List ℕ) (s : WalkEnd) → front_of message_type octets ≡ Err s
    → (walk_of message_type octets).stop ≡ Complete → IsWhole message_type octets (walk_of message_type octets).elements
whole_ended message_type octets s h ends =
    let is_end : s ≡ Complete = sym (ap (λ (w : Walk). w.stop) (walk_of-stopped message_type octets s h)) ∙ ends in
    let nothing : octets ≡ [] = front_ends message_type octets (h ∙ ap (λ (t : WalkEnd). Err t) is_end) in
    let made : IsWhole message_type octets [] = record { parts = nothing; of_type = tt } in
    subst (λ (w : Walk). IsWhole message_type octets w.elements) (sym (walk_of-stopped message_type octets s h)) made

whole_within : (k : ℕ) (message_type : MessageType) (octets : List ℕ) → length octets ≤ k
    → (walk_of message_type octets).stop ≡ Complete
    → IsWhole message_type octets (walk_of message_type octets).elements
whole_within zero message_type [] le ends = whole_ended message_type [] Complete refl ends
whole_within zero message_type (n ∷ octets) le ends = absurd (omega arith)
whole_within (suc k) message_type octets le ends =
    by_front (λ rest fits stops. whole_within k message_type rest fits stops) (front_of message_type octets) refl where
      by_front : ((rest : List ℕ) → length rest ≤ k → (walk_of message_type rest).stop ≡ Complete
          → IsWhole message_type rest (walk_of message_type rest).elements)
          → (f : Result (Element × List ℕ) WalkEnd) → front_of message_type octets ≡ f
          → IsWhole message_type octets (walk_of message_type octets).elements
      by_front others (Err s) h = whole_ended message_type octets s h ends
      by_front others (Ok x) h =
          let lt = front_shorter message_type octets x h in
          let stops : (walk_of message_type x.1).stop ≡ Complete =
          sym (ap (λ (w : Walk). w.stop) (walk_of-taken message_type octets x.0 x.1 h)) ∙ ends in
          whole_taken message_type octets x.0 x.1 h (others x.1 (omega arith) stops)

-- a walk that comes to the end has taken the elements that the octets are made of
pub walk_of-whole : (message_type : MessageType) (octets : List ℕ) → (walk_of message_type octets).stop ≡ Complete
    → IsWhole message_type octets (walk_of message_type octets).elements
walk_of-whole message_type octets ends = whole_within (length octets) message_type octets (omega arith) ends
