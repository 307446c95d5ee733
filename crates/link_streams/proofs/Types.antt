-- Octets that may be messages, one by one.
use Rattle.std.proofs.Common.{◌≡◌, ℕ, suc, ◌+◌, ◌-◌, ◌<◌, ◌≤◌, ◌∙◌, Bool, true, false, List, [], ◌∷◌, drop, length, ap}
use Rattle.std.proofs.Common.{sym, arith}
use Rattle.std.specs.Prelude.{◌&&◌, slice_index}
use Rattle.link_streams.specs.Directions.{is_type, may_be_messages}
use Rattle.link_streams.specs.Stream.{message_length}

-- one that has a type that there isn't
pub not_messages : (most count : ℕ) (octets : List ℕ) (whole : Bool) → count < most → 0 < length octets →
    is_type (slice_index octets 0) ≡ false → may_be_messages (most - count) octets ≡ whole → false ≡ whole
unfolding may_be_messages
not_messages most count [] whole few some isnt is = absurd (omega (arith, some))
not_messages most count (number ∷ rest) whole few some isnt is =
    let one : most - count ≡ suc (most - (count + 1)) = omega (arith, few) in
    sym
    (ap (λ n. may_be_messages n (number ∷ rest)) one
    ∙ ap (λ it. it && may_be_messages (most - (count + 1)) (drop (message_length (number ∷ rest)) (number ∷ rest)))
    isnt)
    ∙ is

-- one that has a type that there is
pub one_message : (most count : ℕ) (octets : List ℕ) (whole : Bool) → count < most → 0 < length octets →
    is_type (slice_index octets 0) ≡ true → may_be_messages (most - count) octets ≡ whole →
    may_be_messages (most - (count + 1)) (drop (message_length octets) octets) ≡ whole
unfolding may_be_messages
one_message most count [] whole few some is_known is = absurd (omega (arith, some))
one_message most count (number ∷ rest) whole few some is_known is =
    let one : most - count ≡ suc (most - (count + 1)) = omega (arith, few) in
    sym
    (ap (λ n. may_be_messages n (number ∷ rest)) one
    ∙ ap (λ it. it && may_be_messages (most - (count + 1)) (drop (message_length (number ∷ rest)) (number ∷ rest)))
    is_known)
    ∙ is

-- no octets are left
pub none_left : (most : ℕ) (octets : List ℕ) (whole : Bool) → length octets ≡ 0 →
    may_be_messages most octets ≡ whole → true ≡ whole
unfolding may_be_messages
none_left most [] whole none is = is
none_left most (number ∷ rest) whole none is = absurd (omega (arith, none))

-- there are no more messages than octets
pub all_looked_at : (most count : ℕ) (octets : List ℕ) (whole : Bool) → most ≤ count →
    may_be_messages (most - count) octets ≡ whole → true ≡ whole
unfolding may_be_messages
all_looked_at most count [] whole all is = is
all_looked_at most count (number ∷ rest) whole all is =
    let none : most - count ≡ 0 = omega (arith, all) in
    sym (ap (λ n. may_be_messages n (number ∷ rest)) none) ∙ is
