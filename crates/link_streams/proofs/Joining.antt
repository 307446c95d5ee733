-- What a stream is after data more.
use Rattle.std.proofs.Common.{◌≡◌, ◌⊎◌, ℕ, zero, suc, ◌+◌, ◌-◌, ◌<◌, ◌≤◌, ◌∙◌, Bool, cond, List, [], ◌∷◌, ◌++◌}
use Rattle.std.proofs.Common.{ap, refl, sym, arith, inl, inr, length}
use Rattle.std.proofs.Common.{Option, Some, None}
use Rattle.std.specs.List.{AllByRecursion, filter}
use Rattle.std.specs.Option.{option_or}
use Rattle.std.proofs.lemmas.Bool.{cases_Bool, cases_lt}
use Rattle.link_streams.specs.Laws.{IsNear}
use Rattle.link_streams.specs.Stream.{before_gap, first_octet_at, is_past, octet_from, octets_from, sequence_after}
use Rattle.link_streams.specs.declared.waiting.Waiting.{Waiting}
use Rattle.link_streams.proofs.Octets.{none_there}
use Rattle.link_streams.proofs.Places.{at, at_next, end_of, none_after, none_beyond, not_past, past}

-- Octets at one place

option_cases : (it : Option ℕ) → ((octet : ℕ) × (it ≡ Some octet)) ⊎ (it ≡ None)
option_cases None = inr refl
option_cases (Some octet) = inl (octet, refl)

-- the octets at a place of parts, and of more after them
octet_of_both : (parts more : List Waiting) (place : ℕ) →
    first_octet_at (parts ++ more) place ≡ option_or (first_octet_at parts place) (first_octet_at more place)
octet_of_both [] more place = refl
octet_of_both (part ∷ rest) more place =
    ap (option_or (octet_from part place)) (octet_of_both rest more place)
    ∙ either (octet_from part place) (first_octet_at rest place) (first_octet_at more place)
  where
    either : (a b c : Option ℕ) → option_or a (option_or b c) ≡ option_or (option_or a b) c
    either None b c = refl
    either (Some octet) b c = refl

kept_first : (parts more : List Waiting) (place octet : ℕ) → first_octet_at parts place ≡ Some octet →
    first_octet_at (parts ++ more) place ≡ Some octet
kept_first parts more place octet is =
    octet_of_both parts more place ∙ ap (λ it. option_or it (first_octet_at more place)) is

none_or : (it : Option ℕ) → option_or it None ≡ it
none_or None = refl
none_or (Some octet) = refl

-- Octets from a place on

-- how many they are at most
pub few_octets : (most : ℕ) (parts : List Waiting) (place : ℕ) → length (octets_from most parts place) ≤ most
unfolding octets_from
few_octets zero parts place = omega arith
few_octets (suc most) parts place = elim (option_cases (first_octet_at parts place)) [
  | inl some ↦
      let rest = octets_from most parts (sequence_after place 1) in
      let is : length (before_gap (first_octet_at parts place) rest) ≡ suc (length rest) =
      ap (λ it. length (before_gap it rest)) some.1 in
      omega (arith, is, few_octets most parts (sequence_after place 1))
  | inr none ↦
      let rest = octets_from most parts (sequence_after place 1) in
      let is : length (before_gap (first_octet_at parts place) rest) ≡ 0 =
      ap (λ it. length (before_gap it rest)) none in
      omega (arith, is)
]

-- parts that have the same octets from there on
pub same_from : (first most offset : ℕ) (parts others : List Waiting) →
    ((far : ℕ) → offset ≤ far → far < 67108864 →
    first_octet_at parts (at first far) ≡ first_octet_at others (at first far)) →
    offset + most ≤ 67108864 →
    octets_from most parts (at first offset) ≡ octets_from most others (at first offset)
unfolding octets_from
same_from first zero offset parts others same few = refl
same_from first (suc most) offset parts others same few =
    ap (λ it. before_gap it (octets_from most parts (sequence_after (at first offset) 1)))
    (same offset (omega arith) (omega (arith, few)))
    ∙ ap (before_gap (first_octet_at others (at first offset)))
    (ap (octets_from most parts) (at_next first offset)
    ∙ same_from first most (offset + 1) parts others
    (λ far after within. same far (omega (arith, after)) within) (omega (arith, few))
    ∙ ap (octets_from most others) (sym (at_next first offset)))

-- any number that is enough
pub enough : (first most more offset : ℕ) (parts : List Waiting) → first < 4294967296 →
    AllByRecursion (IsNear first) parts → 33554432 ≤ offset + most → 33554432 ≤ offset + more → offset < 67108864 →
    octets_from most parts (at first offset) ≡ octets_from more parts (at first offset)
unfolding octets_from
enough first zero more offset parts f near is_most is_more few =
    sym (none_there more parts (at first offset) (none_after first offset parts f near (omega (arith, is_most)) few))
enough first (suc most) zero offset parts f near is_most is_more few =
    none_there (suc most) parts (at first offset) (none_after first offset parts f near (omega (arith, is_more)) few)
enough first (suc most) (suc more) offset parts f near is_most is_more few = elim (cases_lt offset 33554432) [
  | inl less ↦
      ap (before_gap (first_octet_at parts (at first offset)))
      (ap (octets_from most parts) (at_next first offset)
      ∙ enough first most more (offset + 1) parts f near (omega (arith, is_most)) (omega (arith, is_more))
      (omega (arith, less))
      ∙ ap (octets_from more parts) (sym (at_next first offset)))
  | inr late ↦
      let none = none_after first offset parts f near late few in
      none_there (suc most) parts (at first offset) none
      ∙ sym (none_there (suc more) parts (at first offset) none)
]

-- the octets of parts and more are those of the parts, and then what there is from their gap on
pub from_gap : (first most offset : ℕ) (parts more : List Waiting) →
    octets_from most (parts ++ more) (at first offset)
    ≡ octets_from most parts (at first offset)
    ++ octets_from (most - length (octets_from most parts (at first offset))) (parts ++ more)
    (at first (offset + length (octets_from most parts (at first offset))))
unfolding octets_from
from_gap first zero offset parts more = refl
from_gap first (suc most) offset parts more = elim (option_cases (first_octet_at parts (at first offset))) [
  | inl some ↦
      let octet : ℕ = some.0 in
      let rest : List ℕ = octets_from most parts (at first (offset + 1)) in
      let here : octets_from (suc most) parts (at first offset) ≡ octet ∷ rest =
      ap (λ it. before_gap it (octets_from most parts (sequence_after (at first offset) 1))) some.1
      ∙ ap (λ place. octet ∷ octets_from most parts place) (at_next first offset) in
      let both : octets_from (suc most) (parts ++ more) (at first offset)
      ≡ octet ∷ octets_from most (parts ++ more) (at first (offset + 1)) =
      ap (λ it. before_gap it (octets_from most (parts ++ more) (sequence_after (at first offset) 1)))
      (kept_first parts more (at first offset) octet some.1)
      ∙ ap (λ place. octet ∷ octets_from most (parts ++ more) place) (at_next first offset) in
      let one : suc most - length (octet ∷ rest) ≡ most - length rest = omega arith in
      let two : offset + length (octet ∷ rest) ≡ offset + 1 + length rest = omega arith in
      both
      ∙ ap (λ it. octet ∷ it) (from_gap first most (offset + 1) parts more)
      ∙ sym
      (ap (λ it. it ++ octets_from (suc most - length it) (parts ++ more) (at first (offset + length it))) here
      ∙ ap (λ n. octet ∷ rest ++ octets_from n (parts ++ more) (at first (offset + length (octet ∷ rest)))) one
      ∙ ap (λ n. octet ∷ rest ++ octets_from (most - length rest) (parts ++ more) (at first n)) two)
  | inr none ↦
      let here : octets_from (suc most) parts (at first offset) ≡ [] =
      ap (λ it. before_gap it (octets_from most parts (sequence_after (at first offset) 1))) none in
      let same : offset + 0 ≡ offset = omega arith in
      let all : suc most - 0 ≡ suc most = omega arith in
      sym
      (ap (λ it. it ++ octets_from (suc most - length it) (parts ++ more) (at first (offset + length it))) here
      ∙ ap (λ n. octets_from n (parts ++ more) (at first (offset + 0))) all
      ∙ ap (λ n. octets_from (suc most) (parts ++ more) (at first n)) same)
]

-- Parts that wait

-- what isn't past has no octet from there on, so that those which are have all
pub waiting_same : (first offset far : ℕ) (parts : List Waiting) → first < 4294967296 →
    AllByRecursion (IsNear first) parts → offset ≤ far → far < 67108864 →
    first_octet_at (filter (is_past (at first offset)) parts) (at first far) ≡ first_octet_at parts (at first far)
waiting_same first offset far [] f near after few = refl
waiting_same first offset far (part ∷ rest) f near after few =
    let tail = waiting_same first offset far rest f near.1 after few in
    elim (cases_lt offset (end_of first part)) [
      | inl ahead ↦
          rw (past first offset part f near.0 ahead)
          (ap (option_or (octet_from part (at first far))) tail)
      | inr back ↦
          rw (not_past first offset part f near.0 back (omega (arith, after, few)))
          (tail
          ∙ sym
          (ap (λ it. option_or it (first_octet_at rest (at first far)))
          (none_beyond first far part f near.0 (omega (arith, back, after)) few)))
    ]

-- what waits later waited before
pub waiting_later : (first offset later : ℕ) (parts : List Waiting) → first < 4294967296 →
    AllByRecursion (IsNear first) parts → offset ≤ later → later < 67108864 →
    filter (is_past (at first later)) (filter (is_past (at first offset)) parts)
    ≡ filter (is_past (at first later)) parts
waiting_later first offset later [] f near after few = refl
waiting_later first offset later (part ∷ rest) f near after few =
    let tail = waiting_later first offset later rest f near.1 after few in
    elim (cases_lt offset (end_of first part)) [
      | inl ahead ↦
          rw (past first offset part f near.0 ahead)
          (ap (λ (it : List Waiting). cond (is_past (at first later) part) (part ∷ it) it) tail)
      | inr back ↦
          rw (not_past first offset part f near.0 back (omega (arith, after, few)))
          (tail
          ∙ sym
          (ap (λ b. cond b (part ∷ filter (is_past (at first later)) rest) (filter (is_past (at first later)) rest))
          (not_past first later part f near.0 (omega (arith, back, after)) few)))
    ]

-- no more wait than came
pub few_waiting : (test : Waiting → Bool) (parts : List Waiting) → length (filter test parts) ≤ length parts
few_waiting test [] = omega arith
few_waiting test (part ∷ rest) = elim (cases_Bool (test part)) [
  | inl is ↦ rw is (omega (arith, few_waiting test rest))
  | inr isnt ↦ rw isnt (omega (arith, few_waiting test rest))
]

-- what is near stays near with more that is
pub near_both : (first : ℕ) (parts more : List Waiting) → AllByRecursion (IsNear first) parts →
    AllByRecursion (IsNear first) more → AllByRecursion (IsNear first) (parts ++ more)
near_both first [] more near too = too
near_both first (part ∷ rest) more near too = (near.0, near_both first rest more near.1 too)

-- the same octets with one part more, of all parts or of those that wait
pub with_waiting : (first offset far : ℕ) (parts : List Waiting) (part : Waiting) → first < 4294967296 →
    AllByRecursion (IsNear first) parts → offset ≤ far → far < 67108864 →
    first_octet_at (filter (is_past (at first offset)) parts ++ part ∷ []) (at first far)
    ≡ first_octet_at (parts ++ part ∷ []) (at first far)
with_waiting first offset far parts part f near after few =
    octet_of_both (filter (is_past (at first offset)) parts) (part ∷ []) (at first far)
    ∙ ap (λ it. option_or it (first_octet_at (part ∷ []) (at first far)))
    (waiting_same first offset far parts f near after few)
    ∙ sym (octet_of_both parts (part ∷ []) (at first far))

-- and without it, where it has no octet
pub without : (first far : ℕ) (parts : List Waiting) (part : Waiting) → first < 4294967296 → IsNear first part →
    end_of first part ≤ far → far < 67108864 →
    first_octet_at (parts ++ part ∷ []) (at first far) ≡ first_octet_at parts (at first far)
without first far parts part f near back few =
    octet_of_both parts (part ∷ []) (at first far)
    ∙ ap (option_or (first_octet_at parts (at first far)))
    (ap (λ it. option_or it None) (none_beyond first far part f near back few))
    ∙ none_or (first_octet_at parts (at first far))
